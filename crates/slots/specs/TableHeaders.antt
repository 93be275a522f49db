-- The table's header: the layout of the bytes, what they hold, and when it is in its range. What the contracts of
-- `slots::table_header` cite. Assumes nothing.
use Rattle.std.specs.Prelude.{◌≡◌, refl, Bool, true, ◌&&◌, List, [], ◌∷◌, ℕ, ◌+◌, ◌^◌, ◌≤◌, ◌<◌, ltb, length}
use Rattle.std.proofs.Common.{ap, arith, add-zero}
use Rattle.codec.specs.Bytes.{chunk, splice, le, bytes_of, u8, u32, u64, u8_at, u32_at, u64_at, zeros, joined, same_bytes, marked_at, zero_at, Bytes}
use Rattle.codec.specs.Laws.{get_or_chunk, chunk_chunk, le_bytes_of, splices_splice, same_eq, joined_back, marked_chunk, zero_chunk, u8_back, number_back, zeros_back}
use Rattle.codec.specs.Lists.{every, and_true}
use Rattle.numbers.specs.Nodes.{is_within, is_size, is_node}
use Rattle.slots.specs.declared.table_header.TableHeader.{TableHeader}

-- "Table, 13,344 bytes: 32 bytes (mark 4E 54, own node, N, next count u32, highest clock seen u64, sixteen zeros)"
abbrev pub table_mark : List ℕ
table_mark = 78 ∷ 84 ∷ []

abbrev pub table_parts : TableHeader → List (List ℕ)
table_parts t =
    table_mark ∷ u8 t.own ∷ u8 t.nodes ∷ u32 t.next ∷ u64 t.highest ∷ zeros 16 ∷ []

unfoldable pub table_header_bytes : TableHeader → List ℕ
table_header_bytes t = joined (table_parts t)

unfoldable pub table_header_of : List ℕ → TableHeader
table_header_of c = record { own = u8_at c 2; nodes = u8_at c 3; next = u32_at c 4; highest = u64_at c 8 }

abbrev pub table_header_at : List ℕ → ℕ → TableHeader
table_header_at l o = table_header_of (chunk l o 32)

-- "next count 1, highest clock 0" in a fresh table; "Next count may reach 16777216, which means none is left."
unfoldable pub table_header_fits : TableHeader → Bool
table_header_fits t =
    is_size t.nodes && (is_node t.nodes t.own && (is_within 1 t.next 16777216
    && ltb t.highest (2 ^ 40)))

unfoldable pub table_header_in_range : List ℕ → Bool
table_header_in_range c = marked_at c 0 table_mark && (zero_at c 16 16 && table_header_fits (table_header_of c))

-- ---- laws

-- what a value of the type TableHeader has
pub record TableHeaderFit (t : TableHeader) : Type 0 where
  pub next : t.next < 2 ^ 32
  pub highest : t.highest < 2 ^ 64

pub table_ext : {a b : TableHeader} → a.own ≡ b.own → a.nodes ≡ b.nodes → a.next ≡ b.next → a.highest ≡ b.highest → a ≡ b
table_ext p0 p1 p2 p3 = λ i. record { own = p0 i; nodes = p1 i; next = p2 i; highest = p3 i }

pub length_table_header_bytes : (t : TableHeader) → length (table_header_bytes t) ≡ 32
unfolding table_header_bytes bytes_of
length_table_header_bytes t = refl

-- the fields, where they stand in a longer string
pub table_fields : (l : List ℕ) (o : ℕ) → table_header_at l o ≡ record { own = u8_at l (o + 2); nodes = u8_at l (o + 3); next = u32_at l (o + 4); highest = u64_at l (o + 8) }
unfolding table_header_of
table_fields l o = table_ext (get_or_chunk l o 32 2 (omega arith)) (get_or_chunk l o 32 3 (omega arith)) (ap le (chunk_chunk l o 32 4 4 (omega arith))) (ap le (chunk_chunk l o 32 8 8 (omega arith)))

-- in its range, where it stands in a longer string
pub table_range : (l : List ℕ) (o : ℕ) →
    table_header_in_range (chunk l o 32) ≡ (marked_at l o table_mark && (zero_at l (o + 16) 16 && table_header_fits (table_header_at l o)))
unfolding table_header_in_range
table_range l o = cc (marked_chunk l o 32 table_mark (omega arith), zero_chunk l o 32 16 16 (omega arith))

-- the stores of the code, one behind the other
pub table_stores : (l : List ℕ) (o : ℕ) (t : TableHeader) → o + 32 ≤ length l →
    splice (splice (splice (splice l o (78 ∷ 84 ∷ t.own ∷ t.nodes ∷ [])) (o + 4) (u32 t.next)) (o + 8) (u64 t.highest))
    (o + 16) (zeros 16)
    ≡ splice l o (table_header_bytes t)
unfolding table_header_bytes bytes_of
table_stores l o t f = rw add-zero at (splices_splice l o 0 ((78 ∷ 84 ∷ t.own ∷ t.nodes ∷ []) ∷ u32 t.next ∷ u64 t.highest ∷ zeros 16 ∷ []) (omega arith))

-- ---- read back

pub table_round : (t : TableHeader) → TableHeaderFit t → table_header_of (table_header_bytes t) ≡ t
unfolding table_header_of table_header_bytes bytes_of chunk
table_round t f = table_ext refl refl (le_bytes_of 4 t.next f.next) (le_bytes_of 8 t.highest f.highest)

pub table_back : (c : List ℕ) → length c ≡ 32 → Bytes c → table_header_in_range c ≡ true → table_header_bytes (table_header_of c) ≡ c
unfolding table_header_bytes table_header_of table_header_in_range
table_back c f b r =
    let p = and_true _ _ r in
    let mark = same_eq _ _ p.0 in
    let none = zeros_back c 16 16 (omega arith) (and_true _ _ p.1).0 in
    joined_back c (2 ∷ 1 ∷ 1 ∷ 4 ∷ 8 ∷ 16 ∷ []) {ps = table_parts (table_header_of c)}
    (cc (mark, none, u8_back c 2 (omega arith), u8_back c 3 (omega arith), number_back c 4 4 b (omega arith), number_back c 8 8 b (omega arith)))
    f

-- one that is written is in its range exactly if its fields are
pub table_judged : (t : TableHeader) → TableHeaderFit t → table_header_in_range (table_header_bytes t) ≡ table_header_fits t
unfolding table_header_in_range table_header_bytes bytes_of chunk same_bytes every
table_judged t f = ap table_header_fits (table_round t f)
