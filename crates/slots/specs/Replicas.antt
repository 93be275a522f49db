-- Replica slots: the layout of the bytes, what they hold, and when it is in its range. What the contracts of
-- `slots::replica` cite. Assumes nothing.
use Rattle.std.specs.Prelude.{◌≡◌, refl, Bool, true, ◌&&◌, List, [], ◌∷◌, ℕ, ◌+◌, ◌^◌, ◌≤◌, ◌<◌, length}
use Rattle.std.proofs.Common.{ap, arith, add-zero}
use Rattle.codec.specs.Bytes.{chunk, splice, le, bytes_of, u8, u32, u8_at, u32_at, zeros, joined, zero_at, Bytes}
use Rattle.codec.specs.Laws.{get_or_chunk, chunk_chunk, first_chunk, le_bytes_of, splices_splice, joined_back, zero_chunk, u8_back, number_back, zeros_back, bytes_chunk, length_chunk}
use Rattle.codec.specs.Lists.{and_true}
use Rattle.numbers.specs.Nodes.{is_set}
use Rattle.numbers.specs.Ids.{is_version}
use Rattle.records.specs.Heads.{head_bytes, head_of, head_in_range, HeadFit, head_round, head_back}
use Rattle.slots.specs.declared.replica.Replica.{Replica}

-- "64 replica slots of 48 (head, version u32, pending set, three zeros)"
abbrev pub replica_parts : Replica → List (List ℕ)
replica_parts r = head_bytes r.head ∷ u32 r.version ∷ u8 r.pending ∷ zeros 3 ∷ []

unfoldable pub replica_bytes : Replica → List ℕ
replica_bytes r = joined (replica_parts r)

unfoldable pub replica_of : List ℕ → Replica
replica_of c = record { head = head_of (chunk c 0 40); version = u32_at c 40; pending = u8_at c 44 }

abbrev pub replica_at : List ℕ → ℕ → Replica
replica_at l o = replica_of (chunk l o 48)

unfoldable pub replica_in_range : ℕ → List ℕ → Bool
replica_in_range n c =
    head_in_range n (chunk c 0 40) && (is_version (replica_of c).version && (is_set n (replica_of c).pending && zero_at c 45 3))

-- ---- laws

pub record ReplicaFit (r : Replica) : Type 0 where
  pub head : HeadFit r.head
  pub version : r.version < 2 ^ 32

pub replica_ext : {a b : Replica} → a.head ≡ b.head → a.version ≡ b.version → a.pending ≡ b.pending → a ≡ b
replica_ext p0 p1 p2 = λ i. record { head = p0 i; version = p1 i; pending = p2 i }

pub length_replica_bytes : (r : Replica) → length (replica_bytes r) ≡ 48
unfolding replica_bytes head_bytes bytes_of
length_replica_bytes r = refl

pub replica_fields : (l : List ℕ) (o : ℕ) →
    replica_at l o ≡ record { head = head_of (chunk l o 40); version = u32_at l (o + 40); pending = u8_at l (o + 44) }
unfolding replica_of
replica_fields l o =
    replica_ext (ap head_of (first_chunk l o 48 40 (omega arith))) (ap le (chunk_chunk l o 48 40 4 (omega arith)))
    (get_or_chunk l o 48 44 (omega arith))

pub replica_range : (n : ℕ) (l : List ℕ) (o : ℕ) →
    replica_in_range n (chunk l o 48)
    ≡ (head_in_range n (chunk l o 40) && (is_version (u32_at l (o + 40)) && (is_set n (u8_at l (o + 44)) && zero_at l (o + 45) 3)))
unfolding replica_in_range
replica_range n l o =
    let whole = replica_fields l o in
    cc (
      first_chunk l o 48 40 (omega arith),
      ap (λ (r : Replica). r.version) whole,
      ap (λ (r : Replica). r.pending) whole,
      zero_chunk l o 48 45 3 (omega arith),
    )

pub replica_stores : (l : List ℕ) (o : ℕ) (r : Replica) → o + 48 ≤ length l →
    splice (splice (splice l o (head_bytes r.head)) (o + 40) (u32 r.version)) (o + 44) (r.pending ∷ 0 ∷ 0 ∷ 0 ∷ [])
    ≡ splice l o (replica_bytes r)
unfolding replica_bytes head_bytes bytes_of
replica_stores l o r f =
    rw add-zero at
    (splices_splice l o 0 (head_bytes r.head ∷ u32 r.version ∷ (r.pending ∷ 0 ∷ 0 ∷ 0 ∷ []) ∷ []) (omega arith))

pub replica_round : (r : Replica) → ReplicaFit r → replica_of (replica_bytes r) ≡ r
unfolding replica_of replica_bytes head_bytes bytes_of chunk
replica_round r f = replica_ext (head_round r.head f.head) (le_bytes_of 4 r.version f.version) refl

pub replica_back : (n : ℕ) (c : List ℕ) → length c ≡ 48 → Bytes c → replica_in_range n c ≡ true → replica_bytes (replica_of c) ≡ c
unfolding replica_bytes replica_of replica_in_range
replica_back n c f b r =
    let p = and_true _ _ r in
    let q = and_true (is_version (u32_at c 40)) _ p.1 in
    let none = zeros_back c 45 3 (omega arith) (and_true (is_set n (u8_at c 44)) _ q.1).1 in
    let head = head_back n (chunk c 0 40) (length_chunk c 0 40 (omega arith)) (bytes_chunk c 0 40 b) p.0 in
    joined_back c (40 ∷ 4 ∷ 1 ∷ 3 ∷ []) {ps = replica_parts (replica_of c)}
    (cc (head, none, number_back c 40 4 b (omega arith), u8_back c 44 (omega arith)))
    f
