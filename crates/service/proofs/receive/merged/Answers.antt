-- `service::receive::merged` meets its contract: no room, or the copy comes back. Assumes nothing.
use Rattle.std.specs.Prelude.{refl}
use Rattle.std.proofs.Common.{◌≡◌, sym, subst, ◌∙◌}
use Rattle.document.specs.Outcomes.{refused}
use Rattle.document.specs.Tables.{table_of}
use Rattle.document.specs.Messages.{message_of}
use Rattle.answers.specs.declared.refusal.Refusal.{Refusal}
use Rattle.answers.specs.declared.refusal.Refusal.TheVariants.{NoRoom}
use Rattle.answers.specs.Refusals.{code}
use Rattle.answers.specs.Answers.{instead}
use Rattle.answers.specs.Passing.{refuses_on, or_refused, or_done}
use Rattle.service.specs.Receiving.{merged_in, merging, merge_full, merge_ends, merge_last}
use Rattle.service.proofs.receive.merged.Goals as goal

pub merge-requires : goal.merge-requires
merge-requires c = merging c.requires refl

pub returns-in_err-or : goal.returns-in_err-or
returns-in_err-or c =
    let a = c.args in
    let p = or_refused c.merge.result NoRoom (sym c.or.ensures ∙ c.in_err-or.was) in
    refuses_on _ c.in_err-or.field-0.0 c.from_residual.ensures.1 _
    (subst (λ (e : Refusal). merged_in a.time (table_of a.table.now) (message_of a.message.now) ≡ refused (code e)) (sym p.1)
    (merge_full (merging c.requires refl) c.merge.ensures.0 p.0))

pub finish-requires : goal.finish-requires
finish-requires c =
    merge_ends (merging c.requires refl) c.merge.ensures.0
    (or_done c.merge.result NoRoom (sym c.or.ensures ∙ c.in_ok-or.was)) c.merge.ensures.1

pub returns : goal.returns
returns c =
    instead _
    (merge_last (merging c.requires refl) c.merge.ensures.0
    (or_done c.merge.result NoRoom (sym c.or.ensures ∙ c.in_ok-or.was)))
    c.finish.ensures
