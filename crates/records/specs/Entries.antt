-- Entries: the layout of the thirty-two bytes, the entry that they hold, and when it is in its range. What the contracts
-- of `records::entry` cite. Assumes nothing.
use Rattle.std.specs.Prelude.{◌≡◌, refl, Bool, true, ◌&&◌, List, [], ◌∷◌, ℕ, ◌+◌, ◌^◌, ◌≤◌, ◌<◌, leb, length}
use Rattle.std.proofs.Common.{ap, sym, arith, add-zero}
use Rattle.codec.specs.Bytes.{chunk, splice, le, bytes_of, u8, u32, u64, u8_at, u32_at, u64_at, zeros, joined, same_bytes, marked_at, zero_at, Bytes}
use Rattle.codec.specs.Laws.{get_or_chunk, chunk_chunk, le_bytes_of, written_out, splices_splice, same_eq, joined_back, marked_chunk, zero_chunk, u8_back, number_back, zeros_back}
use Rattle.codec.specs.Lists.{every, and_true}
use Rattle.names.specs.Names.{name_at, name_bytes, is_name, name_ext, name_back, name_chunk}
use Rattle.numbers.specs.Ids.{is_id, is_stamp}
use Rattle.records.specs.declared.entry.Entry.{Entry}

-- "Entry, 32 bytes, mark 45 4E: live, one zero, child id u32, stamp u64, name 16."
abbrev pub entry_mark : List ℕ
entry_mark = 69 ∷ 78 ∷ []

abbrev pub entry_parts : Entry → List (List ℕ)
entry_parts e =
    entry_mark ∷ u8 e.live ∷ zeros 1 ∷ u32 e.child ∷ u64 e.stamp ∷ name_bytes e.name ∷ []

unfoldable pub entry_bytes : Entry → List ℕ
entry_bytes e = joined (entry_parts e)

-- the entry that thirty-two bytes hold
unfoldable pub entry_of : List ℕ → Entry
entry_of c = record { live = u8_at c 2; child = u32_at c 4; stamp = u64_at c 8; name = name_at c 16 }

abbrev pub entry_at : List ℕ → ℕ → Entry
entry_at l o = entry_of (chunk l o 32)

-- each field in its range; that the child isn't the root is a rule of its own
unfoldable pub entry_fits : ℕ → Entry → Bool
entry_fits n e = leb e.live 1 && (is_id n e.child && (is_stamp n e.stamp && is_name e.name))

-- thirty-two bytes are an entry in its range: its mark, its zero, every field
unfoldable pub entry_in_range : ℕ → List ℕ → Bool
entry_in_range n c = marked_at c 0 entry_mark && (zero_at c 3 1 && entry_fits n (entry_of c))

-- ---- laws

-- what a value of the type Entry has
pub record EntryFit (e : Entry) : Type 0 where
  pub child : e.child < 2 ^ 32
  pub stamp : e.stamp < 2 ^ 64
  pub bytes : length e.name.bytes ≡ 15

pub entry_ext : {a b : Entry} → a.live ≡ b.live → a.child ≡ b.child → a.stamp ≡ b.stamp → a.name ≡ b.name → a ≡ b
entry_ext l d s n = λ i. record { live = l i; child = d i; stamp = s i; name = n i }

pub length_entry_bytes : (e : Entry) → length (entry_bytes e) ≡ 32
unfolding entry_bytes bytes_of
length_entry_bytes e = refl

-- the fields, where they stand in a longer string
pub entry_fields : (l : List ℕ) (o : ℕ) →
    entry_at l o
    ≡ record { live = u8_at l (o + 2); child = u32_at l (o + 4); stamp = u64_at l (o + 8); name = name_at l (o + 16) }
unfolding entry_of
entry_fields l o =
    entry_ext (get_or_chunk l o 32 2 (omega arith)) (ap le (chunk_chunk l o 32 4 4 (omega arith)))
    (ap le (chunk_chunk l o 32 8 8 (omega arith))) (name_chunk l o 32 16 (omega arith))

-- in its range, where it stands in a longer string
pub entry_range_law : (n : ℕ) (l : List ℕ) (o : ℕ) →
    entry_in_range n (chunk l o 32) ≡ (marked_at l o entry_mark && (zero_at l (o + 3) 1 && entry_fits n (entry_at l o)))
unfolding entry_in_range
entry_range_law n l o = cc (marked_chunk l o 32 entry_mark (omega arith), zero_chunk l o 32 3 1 (omega arith))

-- the stores of the code, one behind the other
pub entry_stores : (l : List ℕ) (o : ℕ) (e : Entry) → o + 32 ≤ length l →
    splice (splice (splice (splice l o (69 ∷ 78 ∷ e.live ∷ 0 ∷ [])) (o + 4) (u32 e.child)) (o + 8) (u64 e.stamp))
    (o + 16) (name_bytes e.name)
    ≡ splice l o (entry_bytes e)
unfolding entry_bytes bytes_of
entry_stores l o e f =
    rw add-zero at
    (splices_splice l o 0
    ((69 ∷ 78 ∷ e.live ∷ 0 ∷ []) ∷ u32 e.child ∷ u64 e.stamp ∷ name_bytes e.name ∷ []) (omega arith))

-- ---- read back: an entry written is the entry read, and what was read is written as it stood

pub entry_round : (e : Entry) → EntryFit e → entry_of (entry_bytes e) ≡ e
unfolding entry_of entry_bytes bytes_of chunk
entry_round e f =
    entry_ext refl (le_bytes_of 4 e.child f.child) (le_bytes_of 8 e.stamp f.stamp)
    (name_ext refl (sym (written_out e.name.bytes 15 f.bytes)))

pub entry_back : (n : ℕ) (c : List ℕ) → length c ≡ 32 → Bytes c → entry_in_range n c ≡ true → entry_bytes (entry_of c) ≡ c
unfolding entry_bytes entry_of entry_in_range
entry_back n c f b r =
    let p = and_true _ _ r in
    let mark = same_eq _ _ p.0 in
    let none = zeros_back c 3 1 (omega arith) (and_true _ _ p.1).0 in
    joined_back c (2 ∷ 1 ∷ 1 ∷ 4 ∷ 8 ∷ 16 ∷ []) {ps = entry_parts (entry_of c)}
    (cc (
      mark,
      none,
      u8_back c 2 (omega arith),
      number_back c 4 4 b (omega arith),
      number_back c 8 8 b (omega arith),
      name_back c 16 (omega arith),
    ))
    f

-- an entry written is in its range exactly if its fields are
pub entry_judged : (n : ℕ) (e : Entry) → EntryFit e → entry_in_range n (entry_bytes e) ≡ entry_fits n e
unfolding entry_in_range entry_bytes bytes_of chunk same_bytes every
entry_judged n e f = ap (entry_fits n) (entry_round e f)
