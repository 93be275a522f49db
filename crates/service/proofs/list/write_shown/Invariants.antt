-- `service::list::write_shown` meets its contract. The loop's invariant: what i slots show is written, and n is how
-- many they show. Assumes nothing.
use Rattle.std.proofs.Common.{◌≡◌, length}
use Rattle.codec.specs.Bytes.{splice}
use Rattle.records.specs.Entries.{entry_bytes}
use Rattle.document.specs.Tables.{rows}
use Rattle.service.specs.Listing.{shown_in}
use Rattle.service.proofs.list.write_shown.Given as goal

abbrev pub invariant-loop-i : goal.invariant-loop-i
invariant-loop-i l =
    (l.n ≡ length (shown_in l.t l.directory l.i)) × (length l.out ≡ length l.initial.out)
    × (l.out ≡ splice l.initial.out 0 (rows entry_bytes (shown_in l.t l.directory l.i)))
