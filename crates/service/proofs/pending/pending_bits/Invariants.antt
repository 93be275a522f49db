-- `service::pending::pending_bits` meets its contract. The loop's invariant: n, and those from i on; n is at most 8 for
-- each slot passed. Assumes nothing.
use Rattle.std.proofs.Common.{◌≡◌, ◌+◌, ◌*◌, ◌-◌, ◌≤◌}
use Rattle.document.specs.Tables.{slots_from, replica_in}
use Rattle.document.specs.Calls.{pending_sum}
use Rattle.service.proofs.pending.pending_bits.Given as goal

abbrev pub invariant-loop-i : goal.invariant-loop-i
invariant-loop-i l =
    (l.n ≤ 8 * l.i) × (pending_sum (slots_from (replica_in l.t) 0 l.m) ≡ l.n + pending_sum (slots_from (replica_in l.t) l.i (l.m - l.i)))
