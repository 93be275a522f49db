-- `tour::acts::Tour::exchange` counts no more than it passes.
use Rattle.std.proofs.Common.{◌≤◌}
use Rattle.tour.proofs.acts.Tour.exchange.Given as goal

abbrev pub invariant-loop-i : goal.invariant-loop-i
invariant-loop-i g l = l.sent ≤ l.i
