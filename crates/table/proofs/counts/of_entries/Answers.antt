-- `table::counts::of_entries` meets its contract. The loop's invariant: the tallies are of the first e entries.
-- Assumes nothing.
use Rattle.std.specs.Prelude.{refl}
use Rattle.table.specs.Counts.{counted_none}
use Rattle.table.proofs.counts.of_entries.Goals as goal

pub loop-e-init : goal.loop-e-init
loop-e-init c = counted_none c.args.index.now.used.t.now c.args.index.now.used.replicas _ refl
