-- `service::receive::take` meets its contract: 5, 13, and then the copy and the acknowledgement. Assumes nothing.
use Rattle.std.proofs.Common.{◌≡◌, arith, ap, sym, subst, ◌∙◌, eq-eqb, ne_eqb}
use Rattle.std.specs.Prelude.{refl, true, false}
use Rattle.document.specs.Reading.{sound_length}
use Rattle.document.specs.Tables.{table_of}
use Rattle.document.specs.Messages.{message_of}
use Rattle.answers.specs.Refusals.{code_some}
use Rattle.answers.specs.Answers.{Answer, Answered, number}
use Rattle.answers.specs.Passing.{handed}
use Rattle.answers.specs.declared.refusal.Refusal.TheVariants.{NotAddressed, AtOdds}
use Rattle.service.specs.Receiving.{merged_in, refuses_all, is_read, long_enough, addressed, other_node, at_odds_law, merges, take_refused, take_done}
use Rattle.service.proofs.receive.take.Goals as goal

pub read-requires : goal.read-requires
read-requires c = omega (arith, long_enough c.requires)

pub read-requires-2 : goal.read-requires-2
read-requires-2 c = omega (arith, sound_length c.args.table.now c.requires.sound)

pub returns-then-read : goal.returns-then-read
returns-then-read c = refuses_all NotAddressed _ _ (other_node c.requires (addressed c.requires c.read.ensures c.read-2.ensures false (ne_eqb _ _ c.if-read.true)))

pub is_odd-requires : goal.is_odd-requires
is_odd-requires c = (c.requires.sound, is_read c.requires)

pub returns-then-is_odd : goal.returns-then-is_odd
returns-then-is_odd c = refuses_all AtOdds _ _ (at_odds_law c.requires
    (addressed c.requires c.read.ensures c.read-2.ensures true (eq-eqb _ _ c.if-read.false)) (sym c.is_odd.ensures ∙ c.if-is_odd.true))

pub merged-requires : goal.merged-requires
merged-requires c = merges c.requires (addressed c.requires c.read.ensures c.read-2.ensures true (eq-eqb _ _ c.if-read.false))
    (sym c.is_odd.ensures ∙ c.if-is_odd.false)

pub returns-in_err-size : goal.returns-in_err-size
returns-in_err-size c =
    let m = (addressed c.requires c.read.ensures c.read-2.ensures true (eq-eqb _ _ c.if-read.false)) in
    let back : c.merged.result ≡ c.from_residual.result = c.in_err-size.was ∙ sym (handed _ c.in_err-size.field-0.0 c.from_residual.ensures.1) in
    let q = subst (λ (z : Answer). Answered (merged_in c.args.time (table_of c.args.table.now) (message_of c.args.message.now)) z) back c.merged.ensures.0 in
    take_refused c.requires m (sym c.is_odd.ensures ∙ c.if-is_odd.false) _ (q, c.merged.ensures.1)
    (λ e. code_some c.in_err-size.field-0.0 (sym (ap number (handed _ c.in_err-size.field-0.0 c.from_residual.ensures.1)) ∙ e))

pub acknowledge-requires : goal.acknowledge-requires
acknowledge-requires c = (long_enough c.requires, c.requires.fits)

pub returns : goal.returns
returns c =
    let m = (addressed c.requires c.read.ensures c.read-2.ensures true (eq-eqb _ _ c.if-read.false)) in
    let q = subst (λ (z : Answer). Answered (merged_in c.args.time (table_of c.args.table.now) (message_of c.args.message.now)) z) c.in_ok-size.was c.merged.ensures.0 in
    take_done c.requires m (sym c.is_odd.ensures ∙ c.if-is_odd.false) _ (q, c.merged.ensures.1) refl c.acknowledge.ensures
