-- The header of a push: the layout of its sixteen bytes, what they hold, and when it is in its range. What the contracts of
-- `messages::push_header` cite. Assumes nothing.
use Rattle.std.specs.Prelude.{◌≡◌, refl, Bool, true, ◌&&◌, List, [], ◌∷◌, ℕ, ◌+◌, ◌^◌, ◌≤◌, ◌<◌, leb, length}
use Rattle.std.proofs.Common.{ap, arith, add-zero}
use Rattle.codec.specs.Bytes.{chunk, splice, le, bytes_of, u8, u32, u8_at, u32_at, zeros, joined, same_bytes, marked_at, zero_at, Bytes}
use Rattle.codec.specs.Laws.{get_or_chunk, chunk_chunk, le_bytes_of, splices_splice, same_eq, joined_back, marked_chunk, zero_chunk, u8_back, number_back, zeros_back}
use Rattle.codec.specs.Lists.{every, and_true}
use Rattle.numbers.specs.Nodes.{is_within, is_node}
use Rattle.numbers.specs.Ids.{is_version}
use Rattle.messages.specs.declared.push_header.PushHeader.{PushHeader}

-- "Push: 16 bytes (mark 50 55, from, to, version u32, head count, entry count, six zeros), then heads, then entries."
abbrev pub push_mark : List ℕ
push_mark = 80 ∷ 85 ∷ []

abbrev pub push_parts : PushHeader → List (List ℕ)
push_parts p =
    push_mark ∷ u8 p.sender ∷ u8 p.addressee ∷ u32 p.version ∷ u8 p.heads ∷ u8 p.entries ∷ zeros 6 ∷ []

unfoldable pub push_bytes : PushHeader → List ℕ
push_bytes p = joined (push_parts p)

unfoldable pub push_of : List ℕ → PushHeader
push_of c =
    record { sender = u8_at c 2; addressee = u8_at c 3; version = u32_at c 4; heads = u8_at c 8; entries = u8_at c 9 }

abbrev pub push_at : List ℕ → ℕ → PushHeader
push_at l o = push_of (chunk l o 16)

-- the counts: "so max(1, depth) heads", and as many entries as a directory may have
unfoldable pub push_fits : ℕ → PushHeader → Bool
push_fits n p =
    is_node n p.sender && (is_node n p.addressee && (is_version p.version
    && (is_within 1 p.heads 16 && leb p.entries 32)))

unfoldable pub push_in_range : ℕ → List ℕ → Bool
push_in_range n c = marked_at c 0 push_mark && (zero_at c 10 6 && push_fits n (push_of c))

-- ---- laws

-- what a value of the type PushHeader has
pub record PushHeaderFit (p : PushHeader) : Type 0 where
  pub version : p.version < 2 ^ 32

pub push_ext : {a b : PushHeader} → a.sender ≡ b.sender → a.addressee ≡ b.addressee → a.version ≡ b.version → a.heads ≡ b.heads → a.entries ≡ b.entries → a ≡ b
push_ext p0 p1 p2 p3 p4 = λ i. record { sender = p0 i; addressee = p1 i; version = p2 i; heads = p3 i; entries = p4 i }

pub length_push_bytes : (p : PushHeader) → length (push_bytes p) ≡ 16
unfolding push_bytes bytes_of
length_push_bytes p = refl

-- the fields, where they stand in a longer string
pub push_fields : (l : List ℕ) (o : ℕ) → push_at l o ≡ record { sender = u8_at l (o + 2); addressee = u8_at l (o + 3); version = u32_at l (o + 4); heads = u8_at l (o + 8); entries = u8_at l (o + 9) }
unfolding push_of
push_fields l o = push_ext (get_or_chunk l o 16 2 (omega arith)) (get_or_chunk l o 16 3 (omega arith)) (ap le (chunk_chunk l o 16 4 4 (omega arith))) (get_or_chunk l o 16 8 (omega arith)) (get_or_chunk l o 16 9 (omega arith))

-- in its range, where it stands in a longer string
pub push_range : (n : ℕ) (l : List ℕ) (o : ℕ) →
    push_in_range n (chunk l o 16) ≡ (marked_at l o push_mark && (zero_at l (o + 10) 6 && push_fits n (push_at l o)))
unfolding push_in_range
push_range n l o = cc (marked_chunk l o 16 push_mark (omega arith), zero_chunk l o 16 10 6 (omega arith))

-- the stores of the code, one behind the other
pub push_stores : (l : List ℕ) (o : ℕ) (p : PushHeader) → o + 16 ≤ length l →
    splice (splice (splice (splice l o (80 ∷ 85 ∷ p.sender ∷ p.addressee ∷ [])) (o + 4) (u32 p.version))
    (o + 8) (p.heads ∷ p.entries ∷ 0 ∷ 0 ∷ [])) (o + 12) (zeros 4)
    ≡ splice l o (push_bytes p)
unfolding push_bytes bytes_of
push_stores l o p f = rw add-zero at (splices_splice l o 0 ((80 ∷ 85 ∷ p.sender ∷ p.addressee ∷ []) ∷ u32 p.version ∷ (p.heads ∷ p.entries ∷ 0 ∷ 0 ∷ []) ∷ zeros 4 ∷ []) (omega arith))

-- ---- read back

pub push_round : (p : PushHeader) → PushHeaderFit p → push_of (push_bytes p) ≡ p
unfolding push_of push_bytes bytes_of chunk
push_round p f = push_ext refl refl (le_bytes_of 4 p.version f.version) refl refl

pub push_back : (n : ℕ) (c : List ℕ) → length c ≡ 16 → Bytes c → push_in_range n c ≡ true → push_bytes (push_of c) ≡ c
unfolding push_bytes push_of push_in_range
push_back n c f b r =
    let q = and_true _ _ r in
    let mark = same_eq _ _ q.0 in
    let none = zeros_back c 10 6 (omega arith) (and_true _ _ q.1).0 in
    joined_back c (2 ∷ 1 ∷ 1 ∷ 4 ∷ 1 ∷ 1 ∷ 6 ∷ []) {ps = push_parts (push_of c)}
    (cc (mark, none, u8_back c 2 (omega arith), u8_back c 3 (omega arith), number_back c 4 4 b (omega arith), u8_back c 8 (omega arith), u8_back c 9 (omega arith)))
    f

-- one that is written is in its range exactly if its fields are
pub push_judged : (n : ℕ) (p : PushHeader) → PushHeaderFit p → push_in_range n (push_bytes p) ≡ push_fits n p
unfolding push_in_range push_bytes bytes_of chunk same_bytes every
push_judged n p f = ap (push_fits n) (push_round p f)
