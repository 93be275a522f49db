-- `calls::adler::adler` is safe: both sums stay below 65521.
use Rattle.std.proofs.Common.{◌<◌}
use Rattle.calls.proofs.adler.adler.Given as goal

abbrev pub invariant-loop-x : goal.invariant-loop-x
invariant-loop-x l = (l.a < 65521) × (l.b < 65521)
