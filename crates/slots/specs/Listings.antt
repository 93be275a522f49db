-- Entry slots: the layout of the bytes, what they hold, and when it is in its range. What the contracts of
-- `slots::listed` cite. Assumes nothing.
use Rattle.std.specs.Prelude.{◌≡◌, refl, Bool, true, ◌&&◌, List, [], ◌∷◌, ℕ, ◌+◌, ◌^◌, ◌≤◌, ◌<◌, length}
use Rattle.std.proofs.Common.{ap, arith, add-zero}
use Rattle.codec.specs.Bytes.{chunk, splice, le, bytes_of, u32, u32_at, zeros, joined, zero_at, Bytes}
use Rattle.codec.specs.Laws.{chunk_chunk, first_chunk, le_bytes_of, splices_splice, joined_back, zero_chunk, number_back, zeros_back, bytes_chunk, length_chunk}
use Rattle.codec.specs.Lists.{and_true}
use Rattle.numbers.specs.Ids.{is_id}
use Rattle.records.specs.Entries.{entry_bytes, entry_of, entry_in_range, EntryFit, entry_round, entry_back}
use Rattle.slots.specs.declared.listed.Listed.{Listed}

-- "256 entry slots of 40 (entry, directory id u32, four zeros)"
abbrev pub listed_parts : Listed → List (List ℕ)
listed_parts x = entry_bytes x.entry ∷ u32 x.directory ∷ zeros 4 ∷ []

unfoldable pub listed_bytes : Listed → List ℕ
listed_bytes x = joined (listed_parts x)

unfoldable pub listed_of : List ℕ → Listed
listed_of c = record { entry = entry_of (chunk c 0 32); directory = u32_at c 32 }

abbrev pub listed_at : List ℕ → ℕ → Listed
listed_at l o = listed_of (chunk l o 40)

unfoldable pub listed_in_range : ℕ → List ℕ → Bool
listed_in_range n c = entry_in_range n (chunk c 0 32) && (is_id n (listed_of c).directory && zero_at c 36 4)

-- ---- laws

pub record ListedFit (x : Listed) : Type 0 where
  pub entry : EntryFit x.entry
  pub directory : x.directory < 2 ^ 32

pub listed_ext : {a b : Listed} → a.entry ≡ b.entry → a.directory ≡ b.directory → a ≡ b
listed_ext p0 p1 = λ i. record { entry = p0 i; directory = p1 i }

pub length_listed_bytes : (x : Listed) → length (listed_bytes x) ≡ 40
unfolding listed_bytes entry_bytes bytes_of
length_listed_bytes x = refl

pub listed_fields : (l : List ℕ) (o : ℕ) → listed_at l o ≡ record { entry = entry_of (chunk l o 32); directory = u32_at l (o + 32) }
unfolding listed_of
listed_fields l o =
    listed_ext (ap entry_of (first_chunk l o 40 32 (omega arith))) (ap le (chunk_chunk l o 40 32 4 (omega arith)))

pub listed_range : (n : ℕ) (l : List ℕ) (o : ℕ) →
    listed_in_range n (chunk l o 40) ≡ (entry_in_range n (chunk l o 32) && (is_id n (u32_at l (o + 32)) && zero_at l (o + 36) 4))
unfolding listed_in_range
listed_range n l o =
    cc (
      first_chunk l o 40 32 (omega arith),
      ap (λ (x : Listed). x.directory) (listed_fields l o),
      zero_chunk l o 40 36 4 (omega arith),
    )

pub listed_stores : (l : List ℕ) (o : ℕ) (x : Listed) → o + 40 ≤ length l →
    splice (splice (splice l o (entry_bytes x.entry)) (o + 32) (u32 x.directory)) (o + 36) (zeros 4)
    ≡ splice l o (listed_bytes x)
unfolding listed_bytes entry_bytes bytes_of
listed_stores l o x f =
    rw add-zero at (splices_splice l o 0 (entry_bytes x.entry ∷ u32 x.directory ∷ zeros 4 ∷ []) (omega arith))

pub listed_round : (x : Listed) → ListedFit x → listed_of (listed_bytes x) ≡ x
unfolding listed_of listed_bytes entry_bytes bytes_of chunk
listed_round x f = listed_ext (entry_round x.entry f.entry) (le_bytes_of 4 x.directory f.directory)

pub listed_back : (n : ℕ) (c : List ℕ) → length c ≡ 40 → Bytes c → listed_in_range n c ≡ true → listed_bytes (listed_of c) ≡ c
unfolding listed_bytes listed_of listed_in_range
listed_back n c f b r =
    let p = and_true _ _ r in
    let none = zeros_back c 36 4 (omega arith) (and_true (is_id n (u32_at c 32)) _ p.1).1 in
    let entry = entry_back n (chunk c 0 32) (length_chunk c 0 32 (omega arith)) (bytes_chunk c 0 32 b) p.0 in
    joined_back c (32 ∷ 4 ∷ 4 ∷ []) {ps = listed_parts (listed_of c)}
    (cc (entry, none, number_back c 32 4 b (omega arith)))
    f
