-- `changes::rename::rename` meets its contract. Assumes nothing.
use Rattle.std.proofs.Common.{◌≡◌, ap, sym, subst, ◌∙◌}
use Rattle.answers.specs.declared.refusal.Refusal.{Refusal}
use Rattle.answers.specs.declared.refusal.Refusal.TheVariants.{OutOfRange}
use Rattle.answers.specs.Refusals.{code}
use Rattle.answers.specs.Answers.{refuses, instead}
use Rattle.answers.specs.Passing.{refuses_on}
use Rattle.document.specs.Outcomes.{refused}
use Rattle.document.specs.Tables.{table_of}
use Rattle.document.specs.Calls.{rename_in}
use Rattle.names.specs.declared.Name.{Name}
use Rattle.names.specs.Names.{is_name}
use Rattle.changes.specs.Killing.{takes_held}
use Rattle.changes.specs.Renaming.{renamed_in, rename_late, rename_2, rename_6, rename_6_target, rename_in_law}
use Rattle.changes.proofs.rename.rename.Goals as goal

pub returns-then-time-gt-LATEST : goal.returns-then-time-gt-LATEST
returns-then-time-gt-LATEST c =
    let a = c.args in
    refuses OutOfRange _ (rename_late a.time a.id a.directory a.name.now (table_of a.table.now) c.if-time-gt-LATEST.true)

pub returns-in_default : goal.returns-in_default
returns-in_default c =
    let a = c.args in
    refuses OutOfRange _ (rename_2 a.time a.id a.directory a.name.now (table_of a.table.now) c.if-time-gt-LATEST.false
    c.in_default.ensures)

pub returns-in_err-h : goal.returns-in_err-h
returns-in_err-h c =
    let a = c.args in
    refuses_on _ c.in_err-h.field-0.0 c.from_residual.ensures.1 _
    (subst (λ (e : Refusal). rename_in a.time a.id a.directory a.name.now (table_of a.table.now) ≡ refused (code e))
    (sym c.in_err-h.ensures.0)
    (rename_6 a.time a.id a.directory a.name.now (table_of a.table.now) c.if-time-gt-LATEST.false
    (ap is_name (sym c.in-Some.ensures.0) ∙ c.in-Some.ensures.1) c.in_err-h.ensures.1))

pub returns-in_err-p : goal.returns-in_err-p
returns-in_err-p c =
    let a = c.args in
    refuses_on _ c.in_err-p.field-0.0 c.from_residual-in_err-p.ensures.1 _
    (subst (λ (e : Refusal). rename_in a.time a.id a.directory a.name.now (table_of a.table.now) ≡ refused (code e))
    (sym c.in_err-p.ensures.0)
    (rename_6_target a.time a.id a.directory a.name.now (table_of a.table.now) c.if-time-gt-LATEST.false
    (ap is_name (sym c.in-Some.ensures.0) ∙ c.in-Some.ensures.1) _ c.in_ok-h.ensures c.in_err-p.ensures.1))

pub rename_held-requires : goal.rename_held-requires
rename_held-requires c =
    let a = c.args in
    record {
      file = (takes_held a.table.now a.id a.time c.requires c.if-time-gt-LATEST.false c.in_ok-h.ensures).0;
      target = (takes_held a.table.now a.directory a.time c.requires c.if-time-gt-LATEST.false c.in_ok-p.ensures).0;
    }

pub returns : goal.returns
returns c =
    let a = c.args in
    let k = takes_held a.table.now a.directory a.time c.requires c.if-time-gt-LATEST.false c.in_ok-p.ensures in
    instead _
    (ap (λ (n : Name). renamed_in a.time n (table_of a.table.now) c.in_ok-h.h c.in_ok-p.p) c.in-Some.ensures.0
    ∙ sym (rename_in_law a.time a.id a.directory a.name.now (table_of a.table.now) c.if-time-gt-LATEST.false
    (ap is_name (sym c.in-Some.ensures.0) ∙ c.in-Some.ensures.1) c.in_ok-h.h c.in_ok-p.p
    c.in_ok-h.ensures c.in_ok-p.ensures k.1))
    c.rename_held.ensures
