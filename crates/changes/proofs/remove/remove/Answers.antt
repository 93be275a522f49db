-- `changes::remove::remove` meets its contract: a live entry or a live child stands in the way. Assumes nothing.
use Rattle.std.proofs.Common.{ap, sym, ◌∙◌, ◌≡◌, subst, eqb-true}
use Rattle.std.specs.Prelude.{ℕ}
use Rattle.std.proofs.lemmas.Bool.{eqb-false}
use Rattle.answers.specs.declared.refusal.Refusal.TheVariants.{WrongKind, NotEmpty}
use Rattle.answers.specs.Answers.{refuses, instead}
use Rattle.answers.specs.Passing.{refuses_on}
use Rattle.document.specs.Outcomes.{refused}
use Rattle.document.specs.Tables.{table_of}
use Rattle.document.specs.Calls.{remove_in}
use Rattle.changes.specs.Killing.{remove_8, remove_root, remove_shown, remove_child, remove_kills}
use Rattle.changes.proofs.remove.remove.Goals as goal
use Rattle.changes.proofs.remove.remove.Goals.{then-not-is_directory-via-then-not-is_directory, then-not-is_directory-via-else-not-is_directory+then-h-eq-ROOT}
use Rattle.changes.proofs.remove.remove.Goals.{then-is_any_shown-via-then-is_any_shown, then-is_any_shown-via-else-is_any_shown+then-is_child_live}

pub returns-in_err-h : goal.returns-in_err-h
returns-in_err-h c = refuses_on _ c.in_err-h.field-0.0 c.from_residual.ensures.1 _ c.in_err-h.ensures.1

pub returns-then-not-is_directory : goal.returns-then-not-is_directory
returns-then-not-is_directory c =
    let k = c.in_ok-h.ensures in
    refuses WrongKind _
    (subst (λ (i : ℕ). remove_in c.args.time i (table_of c.args.table.now) ≡ refused 8) k.1
    (elim c.then-not-is_directory.branch [
      | then-not-is_directory-via-then-not-is_directory w ↦
          remove_8 k.0 k.2 (eqb-false _ 2 (sym c.is_directory.ensures ∙ w.if-not-is_directory.true))
      | then-not-is_directory-via-else-not-is_directory+then-h-eq-ROOT w ↦
          remove_root k.0 k.2 (eqb-true _ 2 (sym c.is_directory.ensures ∙ w.if-not-is_directory.false)) w.if-h-eq-ROOT.true
    ]))

pub returns-then-is_any_shown : goal.returns-then-is_any_shown
returns-then-is_any_shown c =
    let k = c.in_ok-h.ensures in
    let d = eqb-true _ 2 (sym c.is_directory.ensures ∙ c.if-not-is_directory.false) in
    refuses NotEmpty _
    (subst (λ (i : ℕ). remove_in c.args.time i (table_of c.args.table.now) ≡ refused 10) k.1
    (elim c.then-is_any_shown.branch [
      | then-is_any_shown-via-then-is_any_shown w ↦
          remove_shown k.0 k.2 d c.if-h-eq-ROOT.false (sym c.is_any_shown.ensures ∙ w.if-is_any_shown.true)
      | then-is_any_shown-via-else-is_any_shown+then-is_child_live w ↦
          remove_child k.0 k.2 d c.if-h-eq-ROOT.false (sym c.is_any_shown.ensures ∙ w.if-is_any_shown.false)
          (sym w.is_child_live.ensures ∙ w.if-is_child_live.true)
    ]))

pub kill-requires : goal.kill-requires
kill-requires c =
    let k = c.in_ok-h.ensures in
    (remove_kills k.0 k.2 (eqb-true _ 2 (sym c.is_directory.ensures ∙ c.if-not-is_directory.false)) c.if-h-eq-ROOT.false
    (sym c.is_any_shown.ensures ∙ c.if-is_any_shown.false) (sym c.is_child_live.ensures ∙ c.if-is_child_live.false)).0

pub returns : goal.returns
returns c =
    let k = c.in_ok-h.ensures in
    instead _
    (sym
    (remove_kills k.0 k.2 (eqb-true _ 2 (sym c.is_directory.ensures ∙ c.if-not-is_directory.false)) c.if-h-eq-ROOT.false
    (sym c.is_any_shown.ensures ∙ c.if-is_any_shown.false) (sym c.is_child_live.ensures ∙ c.if-is_child_live.false)).1
    ∙ ap (λ (i : ℕ). remove_in c.args.time i (table_of c.args.table.now)) k.1)
    c.kill.ensures
