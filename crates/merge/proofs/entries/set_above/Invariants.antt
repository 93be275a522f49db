-- `merge::entries::set_above` meets its contract. The loop's invariant: the heads from j on are through. Assumes nothing.
use Rattle.document.specs.Tables.{table_of}
use Rattle.merge.specs.Entries.{Setting}
use Rattle.merge.proofs.entries.set_above.Given as goal

abbrev pub invariant-loop-j : goal.invariant-loop-j
invariant-loop-j l =
    Setting l.message.bytes.now (table_of l.old) (table_of l.initial.t) l.j l.t
