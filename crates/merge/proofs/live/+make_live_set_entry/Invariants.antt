-- Depth falls at each turn of `merge::live::make_live` and `merge::live::set_entry`, which call each other. Assumes nothing.
use Rattle.std.proofs.Common.{◌+◌, ◌*◌}
use Rattle.merge.proofs.live.+make_live_set_entry.Given as goal

abbrev pub decreases-make_live : goal.decreases-make_live
decreases-make_live l = 2 * l.depth + 1

abbrev pub decreases-set_entry : goal.decreases-set_entry
decreases-set_entry l = 2 * l.depth
