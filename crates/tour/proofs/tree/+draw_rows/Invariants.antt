-- `tour::tree::draw_rows` ends: levels falls at each turn.
use Rattle.tour.proofs.tree.+draw_rows.Given as goal

abbrev pub decreases-draw_rows : goal.decreases-draw_rows
decreases-draw_rows g l = l.levels
