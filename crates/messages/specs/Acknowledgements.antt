-- The acknowledgement: the layout of its sixteen bytes, what they hold, and when it is in its range. What the contracts of
-- `messages::acknowledgement` cite. Assumes nothing.
use Rattle.std.specs.Prelude.{◌≡◌, refl, Bool, true, ◌&&◌, List, [], ◌∷◌, ℕ, ◌+◌, ◌^◌, ◌≤◌, ◌<◌, length}
use Rattle.std.proofs.Common.{ap, arith, add-zero}
use Rattle.codec.specs.Bytes.{chunk, splice, le, bytes_of, u8, u32, u8_at, u32_at, zeros, joined, same_bytes, marked_at, zero_at, Bytes}
use Rattle.codec.specs.Laws.{get_or_chunk, chunk_chunk, le_bytes_of, splices_splice, same_eq, joined_back, marked_chunk, zero_chunk, u8_back, number_back, zeros_back}
use Rattle.codec.specs.Lists.{every, and_true}
use Rattle.numbers.specs.Nodes.{is_node}
use Rattle.numbers.specs.Ids.{is_id, is_version}
use Rattle.messages.specs.declared.acknowledgement.Acknowledgement.{Acknowledgement}

-- "Acknowledgement, 16 bytes, mark 41 4B: from, to, version u32, id u32, four zeros."
abbrev pub ack_mark : List ℕ
ack_mark = 65 ∷ 75 ∷ []

abbrev pub ack_parts : Acknowledgement → List (List ℕ)
ack_parts a = ack_mark ∷ u8 a.sender ∷ u8 a.addressee ∷ u32 a.version ∷ u32 a.id ∷ zeros 4 ∷ []

unfoldable pub ack_bytes : Acknowledgement → List ℕ
ack_bytes a = joined (ack_parts a)

unfoldable pub ack_of : List ℕ → Acknowledgement
ack_of c = record { sender = u8_at c 2; addressee = u8_at c 3; version = u32_at c 4; id = u32_at c 8 }

abbrev pub ack_at : List ℕ → ℕ → Acknowledgement
ack_at l o = ack_of (chunk l o 16)

unfoldable pub ack_fits : ℕ → Acknowledgement → Bool
ack_fits n a = is_node n a.sender && (is_node n a.addressee && (is_version a.version && is_id n a.id))

unfoldable pub ack_in_range : ℕ → List ℕ → Bool
ack_in_range n c = marked_at c 0 ack_mark && (zero_at c 12 4 && ack_fits n (ack_of c))

-- ---- laws

-- what a value of the type Acknowledgement has
pub record AcknowledgementFit (a : Acknowledgement) : Type 0 where
  pub version : a.version < 2 ^ 32
  pub id : a.id < 2 ^ 32

pub ack_ext : {a b : Acknowledgement} → a.sender ≡ b.sender → a.addressee ≡ b.addressee → a.version ≡ b.version → a.id ≡ b.id → a ≡ b
ack_ext p0 p1 p2 p3 = λ i. record { sender = p0 i; addressee = p1 i; version = p2 i; id = p3 i }

pub length_ack_bytes : (a : Acknowledgement) → length (ack_bytes a) ≡ 16
unfolding ack_bytes bytes_of
length_ack_bytes a = refl

-- the fields, where they stand in a longer string
pub ack_fields : (l : List ℕ) (o : ℕ) → ack_at l o ≡ record { sender = u8_at l (o + 2); addressee = u8_at l (o + 3); version = u32_at l (o + 4); id = u32_at l (o + 8) }
unfolding ack_of
ack_fields l o = ack_ext (get_or_chunk l o 16 2 (omega arith)) (get_or_chunk l o 16 3 (omega arith)) (ap le (chunk_chunk l o 16 4 4 (omega arith))) (ap le (chunk_chunk l o 16 8 4 (omega arith)))

-- in its range, where it stands in a longer string
pub ack_range : (n : ℕ) (l : List ℕ) (o : ℕ) →
    ack_in_range n (chunk l o 16) ≡ (marked_at l o ack_mark && (zero_at l (o + 12) 4 && ack_fits n (ack_at l o)))
unfolding ack_in_range
ack_range n l o = cc (marked_chunk l o 16 ack_mark (omega arith), zero_chunk l o 16 12 4 (omega arith))

-- the stores of the code, one behind the other
pub ack_stores : (l : List ℕ) (o : ℕ) (a : Acknowledgement) → o + 16 ≤ length l →
    splice (splice (splice (splice l o (65 ∷ 75 ∷ a.sender ∷ a.addressee ∷ [])) (o + 4) (u32 a.version)) (o + 8) (u32 a.id))
    (o + 12) (zeros 4)
    ≡ splice l o (ack_bytes a)
unfolding ack_bytes bytes_of
ack_stores l o a f = rw add-zero at (splices_splice l o 0 ((65 ∷ 75 ∷ a.sender ∷ a.addressee ∷ []) ∷ u32 a.version ∷ u32 a.id ∷ zeros 4 ∷ []) (omega arith))

-- ---- read back

pub ack_round : (a : Acknowledgement) → AcknowledgementFit a → ack_of (ack_bytes a) ≡ a
unfolding ack_of ack_bytes bytes_of chunk
ack_round a f = ack_ext refl refl (le_bytes_of 4 a.version f.version) (le_bytes_of 4 a.id f.id)

pub ack_back : (n : ℕ) (c : List ℕ) → length c ≡ 16 → Bytes c → ack_in_range n c ≡ true → ack_bytes (ack_of c) ≡ c
unfolding ack_bytes ack_of ack_in_range
ack_back n c f b r =
    let p = and_true _ _ r in
    let mark = same_eq _ _ p.0 in
    let none = zeros_back c 12 4 (omega arith) (and_true _ _ p.1).0 in
    joined_back c (2 ∷ 1 ∷ 1 ∷ 4 ∷ 4 ∷ 4 ∷ []) {ps = ack_parts (ack_of c)}
    (cc (mark, none, u8_back c 2 (omega arith), u8_back c 3 (omega arith), number_back c 4 4 b (omega arith), number_back c 8 4 b (omega arith)))
    f

-- one that is written is in its range exactly if its fields are
pub ack_judged : (n : ℕ) (a : Acknowledgement) → AcknowledgementFit a → ack_in_range n (ack_bytes a) ≡ ack_fits n a
unfolding ack_in_range ack_bytes bytes_of chunk same_bytes every
ack_judged n a f = ap (ack_fits n) (ack_round a f)
