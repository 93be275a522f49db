-- `service::acknowledged::take` meets its contract: a message that is not well-formed; one that is, and what
-- that one does. Assumes nothing.
use Rattle.std.proofs.Common.{ap, sym, ◌∙◌, arith}
use Rattle.std.specs.Prelude.{ℕ}
use Rattle.messages.specs.Acknowledgements.{ack_of}
use Rattle.document.specs.Tables.{table_of}
use Rattle.document.specs.Outcomes.{Outcome, table_after}
use Rattle.document.specs.Calls.{clear_in}
use Rattle.document.specs.Reading.{sound_length}
use Rattle.table.specs.Ranges.{nodes_at}
use Rattle.answers.specs.Answers.{answers_instead, refuses}
use Rattle.answers.specs.declared.refusal.Refusal.TheVariants.{Malformed}
use Rattle.service.specs.Acknowledging.{is_ack, malformed, well_formed, ack_whole, ack_length}
use Rattle.service.proofs.acknowledged.take.Goals as goal

pub read-n-requires : goal.read-n-requires
read-n-requires c =
    omega (arith, sound_length c.args.table.now c.requires)

pub returns-then-not-is_acknowledgement : goal.returns-then-not-is_acknowledgement
returns-then-not-is_acknowledgement c =
    refuses Malformed _
    (malformed c.args.table.now c.args.message.now c.requires
    (ap (λ (n : ℕ). is_ack n c.args.message.now) (sym (c.read-n.ensures ∙ nodes_at c.args.table.now))
    ∙ (sym c.is_acknowledgement.ensures ∙ c.if-not-is_acknowledgement.true)))

pub read-requires : goal.read-requires
read-requires c =
    omega (
      arith,
      ack_length c.read-n.result c.args.message.now
          (sym c.is_acknowledgement.ensures ∙ c.if-not-is_acknowledgement.false),
    )

pub clear-requires : goal.clear-requires
clear-requires c =
    c.requires

pub returns : goal.returns
returns c =
    let l = c.args.table.now in
    let m = c.args.message.now in
    let p = (sym c.is_acknowledgement.ensures ∙ c.if-not-is_acknowledgement.false) in
    let a = c.read.ensures ∙ ap ack_of (ack_whole m (ack_length c.read-n.result m p)) in
    let sound = c.requires in
    let e =
    ap (clear_in (table_of l)) a
    ∙ sym (well_formed l m sound (ap (λ (n : ℕ). is_ack n m) (sym (c.read-n.ensures ∙ nodes_at l)) ∙ p)) in (
      answers_instead e c.clear.ensures.0,
      c.clear.ensures.1 ∙ ap (λ (o : Outcome). table_after o l) e,
    )
