-- Nothing pending: that the pending call answers 0 says that every pending set is empty, and the other way round.
-- Assumes nothing.
use Rattle.std.specs.Prelude.{◌≡◌, refl, ◌⊎◌, ◌↔◌, Bool, true, false, cond, List, [], ◌∷◌, ℕ}
use Rattle.std.proofs.Common.{ap, sym, ◌∙◌, inl, inr, arith}
use Rattle.std.proofs.Math.Option.{Option, some, none}
use Rattle.numbers.specs.Nodes.{has, members}
use Rattle.slots.specs.declared.replica.Replica.{Replica}
use Rattle.document.specs.Tables.{Table, table_of, find}
use Rattle.document.specs.Sound.{sound_bytes, read_sound}
use Rattle.document.specs.Outcomes.{done, value_of}
use Rattle.document.specs.Calls.{if_sound, pending, pending_sum}
use Rattle.views.specs.Lists.{In}
use Rattle.views.specs.Puts.{pending_of, find_in, find_member}
use Rattle.views.specs.Sounds.{Sound, sound_table}
use Rattle.cluster.specs.Cluster.{Cluster, Quiet}
use Rattle.cluster.specs.Sets.{empty_set, no_size}
use Rattle.cluster.specs.Facts.{facts_of}
use Rattle.cluster.specs.Final.{Silent}
use Rattle.cluster.specs.Reached.{world, Reached}
use mathlib.Core.List.Memᴰ

-- the sum is 0 exactly if every pending set has no size
sum_none : (l : List Replica) → pending_sum l ≡ 0 → (r : Replica) → In r l → members 8 r.pending ≡ 0
unfolding pending_sum
sum_none [] e r m = elim m [ ]
sum_none (x ∷ xs) e r m = go (Memᴰ.cases_cons m) (sum_none xs (omega arith) r)
  where
    go : (r ≡ x) ⊎ In r xs → (In r xs → members 8 r.pending ≡ 0) → members 8 r.pending ≡ 0
    go (inl q) ih = ap (λ (y : Replica). members 8 y.pending) q ∙ (omega arith)
    go (inr i) ih = ih i

none_sum : (l : List Replica) → ((r : Replica) → In r l → r.pending ≡ 0) → pending_sum l ≡ 0
unfolding pending_sum members
none_sum [] f = refl
none_sum (x ∷ xs) f =
    let a : members 8 x.pending ≡ 0 = ap (members 8) (f x (Memᴰ.head refl)) in
    omega (arith, a, none_sum xs (λ r m. f r (Memᴰ.tail m)))

-- the pending call on sound bytes
pub pending_value : (l : List ℕ) → sound_bytes l ≡ true → value_of (pending l) ≡ pending_sum (table_of l).replicas
unfolding read_sound
pending_value l e =
    ap (λ (b : Bool). value_of (if_sound (cond b (some (table_of l)) none)
    (λ (t : Table). done (pending_sum t.replicas) t []))) e

-- every pending set is empty
abbrev pub Empty : List ℕ → Type 0
Empty l = (r : Replica) → In r (table_of l).replicas → r.pending ≡ 0

pub pending_empty : (l : List ℕ) → sound_bytes l ≡ true → (value_of (pending l) ≡ 0) ↔ Empty l
pending_empty l e = (there, λ f. pending_value l e ∙ none_sum (table_of l).replicas f)
  where
    s : Sound (table_of l)
    s = sound_table l e

    there : value_of (pending l) ≡ 0 → Empty l
    there q r m =
        no_size (table_of l).nodes r.pending (facts_of (table_of l) s).few
        (s.pendings_fit r.head.id r (find_member (table_of l).replicas s.ids_unique_law r m))
        (sum_none (table_of l).replicas (sym (pending_value l e) ∙ q) r m)

-- so no node has anything pending
pub silent : (c : Cluster) (r : Reached c) → Quiet c → Silent (world c r.pushes r.acks)
unfolding members
silent c r q i f j ni = go (find f (table_of (c.bytes i)).replicas) refl
  where
    go : (o : Option Replica) → find f (table_of (c.bytes i)).replicas ≡ o → has (pending_of o) j ≡ false
    go none e = empty_set 0 0 j (omega arith) refl refl
    go (some x) e =
        let k = r.inv.k1.facts i ni in
        empty_set c.nodes x.pending j k.few (k.pending f x e)
        (sum_none (table_of (c.bytes i)).replicas (sym (pending_value (c.bytes i) (r.sound i ni)) ∙ q i ni) x
        (find_in f (table_of (c.bytes i)).replicas x e))
