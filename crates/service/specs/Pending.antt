-- Pending bits over slots: what the proof of `service::pending` cites. Assumes nothing.
use Rattle.std.specs.Prelude.{◌≡◌, List, ℕ, zero, suc, ◌+◌, ◌-◌, ◌/◌, ◌≤◌, ◌<◌}
use Rattle.std.proofs.Common.{ap, ◌∙◌, arith}
use Rattle.codec.specs.Bytes.{u8_at}
use Rattle.numbers.specs.Nodes.{members, size}
use Rattle.slots.specs.declared.replica.Replica.{Replica}
use Rattle.slots.specs.Replicas.{replica_fields}
use Rattle.document.specs.Tables.{slots_from, replica_slot, replica_in}
use Rattle.document.specs.Calls.{pending_sum}

-- a turn of the loop over i below m, and its end
pub sum_step : (g : ℕ → Replica) (m i : ℕ) → i < m →
    pending_sum (slots_from g i (m - i)) ≡ size (g i).pending + pending_sum (slots_from g (i + 1) (m - (i + 1)))
unfolding pending_sum slots_from
sum_step g m i h =
    ap (λ (n : ℕ). pending_sum (slots_from g i n)) {x = m - i} {y = suc (m - (i + 1))} (omega arith)
    ∙ ap (λ (j : ℕ). size (g i).pending + pending_sum (slots_from g j (m - (i + 1)))) {x = suc i} {y = i + 1} (omega arith)

pub sum_none : (g : ℕ → Replica) (m i : ℕ) → m ≤ i → pending_sum (slots_from g i (m - i)) ≡ 0
unfolding pending_sum slots_from
sum_none g m i h = ap (λ (n : ℕ). pending_sum (slots_from g i n)) {x = m - i} {y = 0} (omega arith)

-- the pending set, read in place
pub pending_at : (l : List ℕ) (s : ℕ) → (replica_in l s).pending ≡ u8_at l (replica_slot s + 44)
pending_at l s = ap (λ (r : Replica). r.pending) (replica_fields l (replica_slot s))

-- n bits are at most n members
pub members_most : (n s : ℕ) → members n s ≤ n
unfolding members
members_most zero s = omega arith
members_most (suc n) s = omega (arith, members_most n (s / 2))
