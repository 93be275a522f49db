-- `merge::entries::join_entries` meets its contract. The loop's invariant: what is left to join leads to the outcome.
-- Assumes nothing.
use Rattle.merge.specs.Entries.{Entering}
use Rattle.merge.proofs.entries.join_entries.Given as goal

abbrev pub invariant-loop-i : goal.invariant-loop-i
invariant-loop-i l =
    Entering l.message.bytes.now l.initial.t l.i l.t
