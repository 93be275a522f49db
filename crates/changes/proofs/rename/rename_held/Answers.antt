-- `changes::rename::rename_held` meets its contract. Assumes nothing.
use Rattle.std.proofs.Common.{sym, ◌∙◌, eqb-true}
use Rattle.std.proofs.lemmas.Bool.{eqb-false}
use Rattle.answers.specs.declared.refusal.Refusal.TheVariants.{Dead, WrongKind}
use Rattle.answers.specs.Answers.{refuses, instead}
use Rattle.answers.specs.Passing.{refuses_on}
use Rattle.document.specs.Tables.{table_of}
use Rattle.changes.specs.Renaming.{renamed_7, renamed_7_target, renamed_8, renamed_8_target, renamed_full, renamed_moves, renames_below}
use Rattle.changes.proofs.rename.rename_held.Goals as goal
use Rattle.changes.proofs.rename.rename_held.Goals.{then-not-is_live-via-then-not-is_live, then-not-is_live-via-else-not-is_live+then-not-is_live-2}
use Rattle.changes.proofs.rename.rename_held.Goals.{then-is_directory-via-then-is_directory, then-is_directory-via-else-is_directory+then-not-is_directory}

pub returns-then-not-is_live : goal.returns-then-not-is_live
returns-then-not-is_live c =
    let a = c.args in
    elim c.then-not-is_live.branch [
      | then-not-is_live-via-then-not-is_live w ↦
          refuses Dead _ (renamed_7 a.time a.name (table_of a.table.now) a.h a.p
          (eqb-false _ 1 (sym c.is_live.ensures ∙ w.if-not-is_live.true)))
      | then-not-is_live-via-else-not-is_live+then-not-is_live-2 w ↦
          refuses Dead _ (renamed_7_target a.time a.name (table_of a.table.now) a.h a.p
          (eqb-true _ 1 (sym c.is_live.ensures ∙ w.if-not-is_live.false))
          (eqb-false _ 1 (sym w.is_live-else-not-is_live.ensures ∙ w.if-not-is_live-2.true)))
    ]

pub returns-then-is_directory : goal.returns-then-is_directory
returns-then-is_directory c =
    let a = c.args in
    let live = eqb-true a.h.live 1 (sym c.is_live.ensures ∙ c.if-not-is_live.false) in
    let place = eqb-true a.p.live 1 (sym c.is_live-else-not-is_live.ensures ∙ c.if-not-is_live-2.false) in
    elim c.then-is_directory.branch [
      | then-is_directory-via-then-is_directory w ↦
          refuses WrongKind _ (renamed_8 a.time a.name (table_of a.table.now) a.h a.p live place
          (eqb-true _ 2 (sym c.is_directory.ensures ∙ w.if-is_directory.true)))
      | then-is_directory-via-else-is_directory+then-not-is_directory w ↦
          refuses WrongKind _ (renamed_8_target a.time a.name (table_of a.table.now) a.h a.p live place
          (eqb-false _ 2 (sym c.is_directory.ensures ∙ w.if-is_directory.false))
          (eqb-false _ 2 (sym w.is_directory-else-is_directory.ensures ∙ w.if-not-is_directory.true)))
    ]

pub returns-in_err-room_for : goal.returns-in_err-room_for
returns-in_err-room_for c =
    let a = c.args in
    refuses_on _ c.in_err-room_for.field-0.0 c.from_residual.ensures.1 _
    (renamed_full a.time a.name (table_of a.table.now) a.h a.p
    (eqb-true _ 1 (sym c.is_live.ensures ∙ c.if-not-is_live.false))
    (eqb-true _ 1 (sym c.is_live-else-not-is_live.ensures ∙ c.if-not-is_live-2.false))
    (eqb-false _ 2 (sym c.is_directory.ensures ∙ c.if-is_directory.false))
    (eqb-true _ 2 (sym c.is_directory-else-is_directory.ensures ∙ c.if-not-is_directory.false)) _ c.in_err-room_for.ensures)

pub move_to-requires : goal.move_to-requires
move_to-requires c =
    record {
      both = c.requires;
      below = (renames_below c.requires (eqb-false _ 2 (sym c.is_directory.ensures ∙ c.if-is_directory.false))).0;
      shallow = c.in_ok-room_for.ensures.1;
    }

pub returns : goal.returns
returns c =
    let a = c.args in
    let file = (eqb-false a.h.kind 2 (sym c.is_directory.ensures ∙ c.if-is_directory.false)) in
    instead _
    (sym
    (renamed_moves a.time a.name (table_of a.table.now) a.h a.p
    (eqb-true _ 1 (sym c.is_live.ensures ∙ c.if-not-is_live.false))
    (eqb-true _ 1 (sym c.is_live-else-not-is_live.ensures ∙ c.if-not-is_live-2.false))
    file
    (eqb-true _ 2 (sym c.is_directory-else-is_directory.ensures ∙ c.if-not-is_directory.false))
    c.in_ok-room_for.ensures.0 c.in_ok-room_for.ensures.1 (renames_below c.requires file).1))
    c.move_to.ensures
