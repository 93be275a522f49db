-- `tour::tree::write_path` ends: levels falls at each turn.
use Rattle.tour.proofs.tree.+write_path.Given as goal

abbrev pub decreases-write_path : goal.decreases-write_path
decreases-write_path g l = l.levels
