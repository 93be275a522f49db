-- A head that is put: whether there is a slot for it, and what its bytes make of the table. Assumes nothing.
use Rattle.std.specs.Prelude.{◌≡◌, refl, Bool, true, false, ◌||◌, cond, ℕ, ◌-◌, ◌≤◌, ◌<◌, eqb, Some, None}
use Rattle.std.proofs.Math.Path.{ap}
use Rattle.std.proofs.Common.{sym, ◌∙◌, arith, length-append, lt-ltb, le-ltb}
use Rattle.std.proofs.Math.Option.{Option, none}
use mathlib.Core.List.{List, [], ◌∷◌, ◌++◌}
use Rattle.std.proofs.Math.Nat.{sub-zero}
use Rattle.std.proofs.Math.Dec.{ltb}
use Rattle.std.proofs.Math.ListN.{length, set, length-set}
use Rattle.codec.specs.Bytes.{splice, Bytes}
use Rattle.records.specs.declared.head.Head.{Head}
use Rattle.records.specs.Heads.{head_bytes, HeadFit}
use Rattle.slots.specs.declared.replica.Replica.{Replica}
use Rattle.slots.specs.Replicas.{replica_bytes, ReplicaFit}
use Rattle.document.specs.Tables.{Table, has_id, find, head_of?, head_of, slots_from, with_replicas, table_bytes, table_of, replica_slot, replica_in, replicas_used}
use Rattle.document.specs.Sound.{is_held}
use Rattle.document.specs.Steps.{put_head, put, renewed}
use Rattle.document.specs.Reading.{few_replicas}
use Rattle.table.specs.Slots.{first_replica, found_slot, no_slot, first_slot}
use Rattle.steps.specs.Standing.{Each, end, more, Wide, Is, Stands, wide_of, wide_is, replicas_held}
use Rattle.steps.specs.Writes.{head_rewritten, replica_added, into_none, into_found}

-- there is a slot for the replica with that id: its own, or a free one
abbrev pub has_slot : ℕ → Table → Bool
has_slot id t = is_held (head_of t id) || ltb (length t.replicas) 64

-- a new replica, before its call ends
abbrev pub new_replica : Head → Replica
new_replica h = record { head = h; version = 0; pending = 0 }

-- ---- the list

pub put_none : (h : Head) (rs : List Replica) → find h.id rs ≡ none → put_head h rs ≡ rs ++ (new_replica h ∷ [])
unfolding put_head
put_none h = into_none (has_id h.id) (renewed h) (new_replica h) (put_head h) refl (λ r rs. refl)

pub put_found : (h : Head) (g : ℕ → Replica) (s n i : ℕ) → first_slot (λ (k : ℕ). has_id h.id (g k)) s n ≡ Some i →
    put_head h (slots_from g s n) ≡ set (slots_from g s n) (i - s) (renewed h (g i))
unfolding put_head
put_found h = into_found (has_id h.id) (renewed h) (new_replica h) (put_head h) refl (λ r rs. refl)

-- every replica fits its fields
pub put_fits : (h : Head) (rs : List Replica) → HeadFit h → Each ReplicaFit rs → Each ReplicaFit (put_head h rs)
unfolding put_head
put_fits h [] f end = more {x = new_replica h} (record { head = f; version = omega arith }) end
put_fits h (r ∷ rs) f (more p ps) = go (eqb r.head.id h.id) (put_fits h rs f ps)
  where
    go : (b : Bool) → Each ReplicaFit (put_head h rs) → Each ReplicaFit (cond b (renewed h r ∷ rs) (r ∷ put_head h rs))
    go true q = more {x = renewed h r} (record { head = f; version = p.version }) ps
    go false q = more p q

-- ---- the bytes

-- the table stands, and no slot has the head's id
pub record Adds (l : List ℕ) (h : Head) : Type 0 where
  pub stands : Stands l
  pub absent : first_replica l (replicas_used l) h.id ≡ None

module _ {l : List ℕ} (k : Stands l) (b : Bytes l) (h : Head) (f : HeadFit h) where
  wide_put : length (put_head h (table_of l).replicas) ≤ 64 → Wide (put h (table_of l))
  wide_put few =
      let w = wide_of l b k.size in
      record {
        header = w.header;
        few_replicas = few;
        replicas = put_fits h (table_of l).replicas f w.replicas;
        few_entries = w.few_entries;
        entries = w.entries;
      }

  -- in place
  pub put_at : (i : ℕ) → first_replica l (replicas_used l) h.id ≡ Some i →
      (true ≡ has_slot h.id (table_of l)) × (i < 64) × Is (splice l (replica_slot i) (head_bytes h)) (put h (table_of l))
  unfolding table_of
  put_at i e =
      let found = found_slot (has_id h.id) (replica_in l) 0 (replicas_used l) i e in
      let where_to = put_found h (replica_in l) 0 (replicas_used l) i e ∙ ap (λ (j : ℕ). set (slots_from (replica_in l) 0 (replicas_used l)) j (renewed h (replica_in l i))) (sub-zero i) in
      let size = ap length where_to ∙ length-set (table_of l).replicas i (renewed h (replica_in l i)) ∙ replicas_held l in (
        ap (λ (o : Option Replica). is_held (head_of? o) || ltb (length (table_of l).replicas) 64) (sym found.2),
        omega (arith, found.1, few_replicas l),
        wide_is (wide_put (omega (arith, size, few_replicas l)))
            (head_rewritten k i h (omega (arith, found.1))
            ∙ ap (λ (rs : List Replica). table_bytes (with_replicas (table_of l) rs)) (sym where_to)),
      )

  -- in the next slot
  not_held_law : first_replica l (replicas_used l) h.id ≡ None → find h.id (table_of l).replicas ≡ none
  unfolding table_of
  not_held_law e = no_slot (has_id h.id) (replica_in l) 0 (replicas_used l) e

  free_slot : first_replica l (replicas_used l) h.id ≡ None → has_slot h.id (table_of l) ≡ ltb (replicas_used l) 64
  free_slot e =
      ap (λ (o : Option Replica). is_held (head_of? o) || ltb (length (table_of l).replicas) 64) (not_held_law e)
      ∙ ap (λ (m : ℕ). ltb m 64) (replicas_held l)

  pub put_full : (m : ℕ) → m ≡ replicas_used l → first_replica l (replicas_used l) h.id ≡ None → m ≡ 64 →
      false ≡ has_slot h.id (table_of l)
  put_full m u e full = sym (free_slot e ∙ le-ltb (replicas_used l) 64 (omega arith))

  pub put_next : (m : ℕ) → m ≡ replicas_used l → first_replica l (replicas_used l) h.id ≡ None → m < 64 →
      (true ≡ has_slot h.id (table_of l))
      × Is (splice l (replica_slot m) (replica_bytes (new_replica h))) (put h (table_of l))
  put_next m u e free =
      let rs = (table_of l).replicas in
      let grown = put_none h rs (not_held_law e) in
      let size = ap length grown ∙ length-append rs (new_replica h ∷ []) in (
        sym (free_slot e ∙ lt-ltb (replicas_used l) 64 (omega arith)),
        wide_is (wide_put (omega (arith, size, replicas_held l)))
            (ap (λ (z : List ℕ). splice z (replica_slot m) (replica_bytes (new_replica h))) k.bytes
            ∙ ap (λ (n : ℕ). splice (table_bytes (table_of l)) (replica_slot n) (replica_bytes (new_replica h))) (u ∙ sym (replicas_held l))
            ∙ replica_added (table_of l) (new_replica h) (omega (arith, replicas_held l))
            ∙ ap (λ (z : List Replica). table_bytes (with_replicas (table_of l) z)) (sym grown)),
      )
