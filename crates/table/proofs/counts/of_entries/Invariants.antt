-- `table::counts::of_entries` meets its contract. The loop's invariant: the tallies are of the first e entries.
-- Assumes nothing.
use Rattle.table.specs.Counts.{Tallied}
use Rattle.table.proofs.counts.of_entries.Given as goal

abbrev pub invariant-loop-e : goal.invariant-loop-e
invariant-loop-e l = Tallied l.index.used.t.now l.index.used.replicas l.e l.tallies
