-- `pushes::write::write_entries` meets its contract. The loop's invariant: what was written, with the entries of the
-- slots from i on behind it, is what is to be written. Assumes nothing.
use Rattle.std.proofs.Common.{◌≡◌, ap, sym, ◌∙◌, ◌+◌, ◌<◌, arith, length, length-append}
use Rattle.std.specs.Prelude.{List, ℕ}
use Rattle.codec.specs.Bytes.{splice}
use Rattle.records.specs.declared.entry.Entry.{Entry}
use Rattle.records.specs.Entries.{entry_bytes, length_entry_bytes}
use Rattle.document.specs.Tables.{rows}
use Rattle.document.specs.Rows.{rows_written, rows_end}
use Rattle.pushes.specs.Writing.{listed_at, listed_from, listed_step, listed_end, listed_all}
use Rattle.pushes.proofs.write.write_entries.Goals as goal

-- the entries from slot i on are those of slot i and those of the slots after it
counted : (l : List ℕ) (d k i : ℕ) → i < k →
    length (listed_from l d k i) ≡ length (listed_at l d i) + length (listed_from l d k (i + 1))
counted l d k i h = ap length (listed_step l d k i h) ∙ length-append (listed_at l d i) _

pub write_slot-at-requires : goal.write_slot-at-requires
write_slot-at-requires c =
    let a = c.args in
    let k = c.entries_used-k.result in
    let all = ap length (listed_all a.t.now a.directory k c.entries_used-k.ensures.0) in
    let count = counted a.t.now a.directory k c.loop-i.i c.loop-i-test.true in
    (omega (arith, c.entries_used-k.ensures.1), omega (arith, all, count, c.loop-i.invariant.count))

pub loop-i-preserved : goal.loop-i-preserved
loop-i-preserved c =
    let l = c.loop-i in
    let a = c.args in
    let k = c.entries_used-k.result in
    let here = listed_at a.t.now a.directory l.i in
    let rest = listed_from a.t.now a.directory k (l.i + 1) in
    let all = ap length (listed_all a.t.now a.directory k c.entries_used-k.ensures.0) in
    let count = counted a.t.now a.directory k l.i c.loop-i-test.true in
    record {
      count = omega (arith, count, c.write_slot-at.ensures.0, l.invariant.count);
      all =
          ap (λ (o : List ℕ). splice o c.write_slot-at.result (rows entry_bytes rest)) c.write_slot-at.ensures.1
          ∙ ap (λ (at : ℕ). splice (splice l.out l.at (rows entry_bytes here)) at (rows entry_bytes rest))
          c.write_slot-at.ensures.0
          ∙ rows_written entry_bytes 32 length_entry_bytes l.out l.at here rest
          (omega (arith, all, count, l.invariant.count))
          ∙ ap (λ (es : List Entry). splice l.out l.at (rows entry_bytes es))
          (sym (listed_step a.t.now a.directory k l.i c.loop-i-test.true))
          ∙ l.invariant.all;
    }

pub returns : goal.returns
returns c =
    let l = c.loop-i in
    let a = c.args in
    rows_end entry_bytes l.out l.at (listed_end a.t.now a.directory c.entries_used-k.result l.i c.loop-i-test.false)
    ∙ l.invariant.all
    ∙ ap (λ (es : List Entry). splice a.out.now a.o (rows entry_bytes es))
    (listed_all a.t.now a.directory _ c.entries_used-k.ensures.0)
