-- `merge::live::mend_all` meets its contract. The loop's invariant: the slots from i on are left, and lead to the outcome.
-- Assumes nothing.
use Rattle.merge.specs.Live.{Mending}
use Rattle.merge.proofs.live.mend_all.Given as goal

abbrev pub invariant-loop-i : goal.invariant-loop-i
invariant-loop-i l =
    Mending l.time l.initial.t l.i l.t
