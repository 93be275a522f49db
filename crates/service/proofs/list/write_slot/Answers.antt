-- `service::list::write_slot` meets its contract: a slot that is not shown adds nothing, one that is adds its record.
-- Assumes nothing.
use Rattle.std.proofs.Common.{ap, sym, ◌∙◌, ◌*◌, arith, length}
use Rattle.codec.specs.Bytes.{splice}
use Rattle.codec.specs.Laws.{splice_none}
use Rattle.records.specs.declared.entry.Entry.{Entry}
use Rattle.records.specs.Entries.{entry_bytes}
use Rattle.document.specs.Tables.{rows}
use Rattle.document.specs.Rows.{rows_none, rows_one}
use Rattle.service.specs.Listing.{not_shown, is_shown_law}
use Rattle.service.proofs.list.write_slot.Goals as goal

pub returns-then-not-shows : goal.returns-then-not-shows
returns-then-not-shows c =
    let a = c.args in
    let none =
    not_shown a.t.now a.directory a.s (sym c.shows.ensures ∙ c.if-not-shows.true) in
    let bytes = ap (rows entry_bytes) none ∙ rows_none entry_bytes in (
      omega (arith, ap length none),
      splice_none a.out.now (32 * a.n) ∙ ap (splice a.out.now (32 * a.n)) (sym bytes),
    )

pub write-requires : goal.write-requires
write-requires c =
    let a = c.args in
    let one =
    is_shown_law a.t.now a.directory a.s
    (sym c.shows.ensures ∙ c.if-not-shows.false) in
    omega (arith, ap length one)

pub returns : goal.returns
returns c =
    let a = c.args in
    let one =
    is_shown_law a.t.now a.directory a.s
    (sym c.shows.ensures ∙ c.if-not-shows.false) in
    let bytes = ap (rows entry_bytes) one ∙ rows_one entry_bytes _ in (
      omega (arith, ap length one),
      c.write.ensures
          ∙ ap (λ (e : Entry). splice a.out.now (32 * a.n) (entry_bytes e)) c.read-e.ensures
          ∙ ap (splice a.out.now (32 * a.n)) (sym bytes),
    )
