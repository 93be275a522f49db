-- An id past 2^32-1 is never held. Assumes nothing.
use Rattle.std.specs.Prelude.{◌≡◌, refl, Bool, false, List, ℕ, zero, suc, ◌+◌, ◌<◌}
use Rattle.std.proofs.Common.{ap, arith, ne_eqb}
use Rattle.std.proofs.Math.Option.{none}
use Rattle.codec.specs.Bytes.{Bytes}
use Rattle.codec.specs.Laws.{u32_below}
use Rattle.document.specs.Tables.{first, has_id, slots_from, head_of?, head_of, replica_slot, replica_in, table_of}
use Rattle.table.specs.Slots.{id_at}

-- no slot passes
pub none_passes : {A : Type 0} (f : A → Bool) (g : ℕ → A) (s n : ℕ) → ((i : ℕ) → f (g i) ≡ false) →
    first f (slots_from g s n) ≡ none
unfolding first slots_from
none_passes f g s zero h = refl
none_passes f g s (suc n) h = simp (h s) (none_passes f g (suc s) n h)

-- a call is given an id as a number of 64 bits
pub not_an_id : (l : List ℕ) (id : ℕ) → Bytes l → 4294967295 < id → head_of (table_of l) id ≡ none
unfolding table_of
not_an_id l id b h =
    ap head_of?
    (none_passes (has_id id) (replica_in l) 0 _
    (λ s. ne_eqb (replica_in l s).head.id id
    (λ e. omega (arith, e, u32_below l (replica_slot s + 4) b, id_at l s))))
