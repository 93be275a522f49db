-- `pushes::write::write_slot` meets its contract: a slot of another directory adds nothing, one of this adds its
-- record.
-- Assumes nothing.
use Rattle.std.proofs.Common.{◌≡◌, ap, sym, ◌∙◌, arith, length, eq-eqb, ne_eqb}
use Rattle.std.specs.Prelude.{[], ◌∷◌}
use Rattle.codec.specs.Bytes.{splice}
use Rattle.records.specs.declared.entry.Entry.{Entry}
use Rattle.records.specs.Entries.{entry_at, entry_bytes}
use Rattle.document.specs.Tables.{entry_slot, rows}
use Rattle.document.specs.Rows.{rows_one, rows_end}
use Rattle.table.specs.Slots.{directory_at}
use Rattle.pushes.specs.Writing.{listed_at, not_listed, is_listed_law}
use Rattle.pushes.proofs.write.write_slot.Goals as goal

pub returns-then-read-directory : goal.returns-then-read-directory
returns-then-read-directory c =
    let a = c.args in
    let none = not_listed a.t.now a.directory a.s (ne_eqb _ _ (λ e. c.if-read-directory.true (c.read.ensures ∙ sym (directory_at a.t.now a.s) ∙ e))) in
    (omega (arith, ap length none), rows_end entry_bytes a.out.now a.o none)

pub write-requires : goal.write-requires
write-requires c =
    let listed : let a = c.args in
    listed_at a.t.now a.directory a.s ≡ entry_at a.t.now (entry_slot a.s) ∷ [] =
    let a = c.args in
    is_listed_law a.t.now a.directory a.s
    (eq-eqb _ _ (directory_at a.t.now a.s ∙ sym c.read.ensures ∙ c.if-read-directory.false)) in
    omega (arith, ap length listed)

pub returns : goal.returns
returns c =
    let listed : let a = c.args in
    listed_at a.t.now a.directory a.s ≡ entry_at a.t.now (entry_slot a.s) ∷ [] =
    let a = c.args in
    is_listed_law a.t.now a.directory a.s
    (eq-eqb _ _ (directory_at a.t.now a.s ∙ sym c.read.ensures ∙ c.if-read-directory.false)) in
    let a = c.args in
    let one = listed in (
      omega (arith, ap length one),
      c.write.ensures
          ∙ ap (λ (e : Entry). splice a.out.now a.o (entry_bytes e)) c.read-2.ensures
          ∙ ap (splice a.out.now a.o) (sym (ap (rows entry_bytes) one ∙ rows_one entry_bytes _)),
    )
