-- `pushes::write::write_entries` meets its contract. The loop's invariant: what was written, with the entries of the
-- slots from i on behind it, is what is to be written. Assumes nothing.
use Rattle.std.proofs.Common.{◌≡◌, ◌+◌, ◌*◌, length}
use Rattle.codec.specs.Bytes.{splice}
use Rattle.records.specs.Entries.{entry_bytes}
use Rattle.document.specs.Tables.{rows}
use Rattle.pushes.specs.Writing.{listed_from}
use Rattle.pushes.proofs.write.write_entries.Given as goal

abbrev pub invariant-loop-i : goal.invariant-loop-i
invariant-loop-i l = record {
  count : l.at + 32 * length (listed_from l.t l.directory l.k l.i) ≡ l.o + 32 * length (listed_from l.t l.directory l.k 0);
  all : splice l.out l.at (rows entry_bytes (listed_from l.t l.directory l.k l.i))
      ≡ splice l.initial.out l.o (rows entry_bytes (listed_from l.t l.directory l.k 0));
}
