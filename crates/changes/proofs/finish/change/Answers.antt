-- `changes::finish::change` meets its contract: no room, or the state stands in the copy. Assumes nothing.
use Rattle.std.proofs.Common.{◌≡◌, ◌∙◌, sym, subst}
use Rattle.document.specs.Outcomes.{refused}
use Rattle.document.specs.Tables.{table_of}
use Rattle.answers.specs.declared.refusal.Refusal.{Refusal}
use Rattle.answers.specs.Refusals.{code}
use Rattle.answers.specs.declared.refusal.Refusal.TheVariants.{NoRoom}
use Rattle.answers.specs.Answers.{instead}
use Rattle.answers.specs.Passing.{refuses_on, or_refused, or_done}
use Rattle.changes.specs.Finishing.{changed, change_refused, change_next, change_last}
use Rattle.changes.proofs.finish.change.Goals as goal

pub returns-in_err-or : goal.returns-in_err-or
returns-in_err-or c =
    let a = c.args in
    let p = or_refused c.state.result NoRoom (sym c.or.ensures ∙ c.in_err-or.was) in
    refuses_on _ c.in_err-or.field-0.0 c.from_residual.ensures.1 _
    (subst (λ (e : Refusal). changed a.value a.h (table_of a.table.now) (table_of a.copy.now) ≡ refused (code e)) (sym p.1)
    (change_refused a.value c.requires c.state.ensures p.0))

pub finish-requires : goal.finish-requires
finish-requires c =
    change_next c.args.value c.requires c.state.ensures (or_done c.state.result NoRoom (sym c.or.ensures ∙ c.in_ok-or.was))

pub returns : goal.returns
returns c =
    instead _ (change_last c.args.value c.requires c.state.ensures (or_done c.state.result NoRoom (sym c.or.ensures ∙ c.in_ok-or.was)))
    c.finish.ensures
