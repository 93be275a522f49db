-- `merge::heads::make_above` meets its contract. The loop's invariant: the heads from j on are through. Assumes nothing.
use Rattle.document.specs.Tables.{table_of}
use Rattle.merge.specs.Heads.{Making}
use Rattle.merge.proofs.heads.make_above.Given as goal

abbrev pub invariant-loop-j : goal.invariant-loop-j
invariant-loop-j l =
    Making l.message.bytes.now (table_of l.initial.t) l.j l.t
