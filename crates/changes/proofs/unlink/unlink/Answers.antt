-- `changes::unlink::unlink` meets its contract. Assumes nothing.
use Rattle.std.proofs.Common.{◌≡◌, ap, sym, ◌∙◌, eqb-true, subst}
use Rattle.std.specs.Prelude.{ℕ}
use Rattle.std.proofs.lemmas.Bool.{eqb-false}
use Rattle.answers.specs.declared.refusal.Refusal.TheVariants.{WrongKind}
use Rattle.answers.specs.Answers.{refuses, instead}
use Rattle.answers.specs.Passing.{refuses_on}
use Rattle.document.specs.Outcomes.{refused}
use Rattle.document.specs.Tables.{table_of}
use Rattle.document.specs.Calls.{unlink_in}
use Rattle.changes.specs.Killing.{unlink_8, unlink_kills}
use Rattle.changes.proofs.unlink.unlink.Goals as goal

pub returns-in_err-h : goal.returns-in_err-h
returns-in_err-h c = refuses_on _ c.in_err-h.field-0.0 c.from_residual.ensures.1 _ c.in_err-h.ensures.0

pub returns-then-is_directory : goal.returns-then-is_directory
returns-then-is_directory c =
    let k = c.in_ok-h.ensures in
    refuses WrongKind _
    (subst (λ (i : ℕ). unlink_in c.args.time i (table_of c.args.table.now) ≡ refused 8) k.1
    (unlink_8 k.0 k.2 (eqb-true _ 2 (sym c.is_directory.ensures ∙ c.if-is_directory.true))))

pub kill-requires : goal.kill-requires
kill-requires c =
    let k = c.in_ok-h.ensures in
    (unlink_kills k.0 k.2 (eqb-false _ 2 (sym c.is_directory.ensures ∙ c.if-is_directory.false))).0

pub returns : goal.returns
returns c =
    let k = c.in_ok-h.ensures in
    instead _
    (sym (unlink_kills k.0 k.2 (eqb-false _ 2 (sym c.is_directory.ensures ∙ c.if-is_directory.false))).1
    ∙ ap (λ (i : ℕ). unlink_in c.args.time i (table_of c.args.table.now)) k.1)
    c.kill.ensures
