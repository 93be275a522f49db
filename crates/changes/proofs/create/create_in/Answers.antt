-- `changes::create::create_in` meets its contract. Assumes nothing.
use Rattle.std.proofs.Common.{sym, ◌∙◌, eqb-true}
use Rattle.std.proofs.lemmas.Bool.{eqb-false}
use Rattle.answers.specs.declared.refusal.Refusal.TheVariants.{Dead, WrongKind}
use Rattle.answers.specs.Answers.{refuses, instead}
use Rattle.answers.specs.Passing.{refuses_on}
use Rattle.document.specs.Tables.{table_of}
use Rattle.changes.specs.Creating.{created_7, created_8, created_full, created_makes}
use Rattle.changes.specs.Kinds.{kind_byte}
use Rattle.changes.proofs.create.create_in.Goals as goal

pub returns-then-not-is_live : goal.returns-then-not-is_live
returns-then-not-is_live c =
    let a = c.args in
    refuses Dead _ (created_7 a.time (kind_byte a.kind) a.name a.set (table_of a.table.now) a.p
    (eqb-false _ 1 (sym c.is_live.ensures ∙ c.if-not-is_live.true)))

pub returns-then-not-is_directory : goal.returns-then-not-is_directory
returns-then-not-is_directory c =
    let a = c.args in
    refuses WrongKind _ (created_8 a.time (kind_byte a.kind) a.name a.set (table_of a.table.now) a.p
    (eqb-true _ 1 (sym c.is_live.ensures ∙ c.if-not-is_live.false))
    (eqb-false _ 2 (sym c.is_directory.ensures ∙ c.if-not-is_directory.true)))

pub returns-in_err-room_for : goal.returns-in_err-room_for
returns-in_err-room_for c =
    let a = c.args in
    refuses_on _ c.in_err-room_for.field-0.0 c.from_residual.ensures.1 _
    (created_full a.time (kind_byte a.kind) a.name a.set (table_of a.table.now) a.p
    (eqb-true _ 1 (sym c.is_live.ensures ∙ c.if-not-is_live.false))
    (eqb-true _ 2 (sym c.is_directory.ensures ∙ c.if-not-is_directory.false)) _ c.in_err-room_for.ensures)

pub make-requires : goal.make-requires
make-requires c = record { takes = c.requires; shallow = c.in_ok-room_for.ensures.1 }

pub returns : goal.returns
returns c =
    let a = c.args in
    instead _ (sym (created_makes a.time (kind_byte a.kind) a.name a.set (table_of a.table.now) a.p
    (eqb-true _ 1 (sym c.is_live.ensures ∙ c.if-not-is_live.false))
    (eqb-true _ 2 (sym c.is_directory.ensures ∙ c.if-not-is_directory.false))
    c.in_ok-room_for.ensures.0 c.in_ok-room_for.ensures.1)) c.make.ensures
