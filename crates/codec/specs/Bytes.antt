-- Byte strings as lists of numbers: a part, a part replaced, and little-endian numbers. What the contracts of
-- `codec` cite; every layout of document 01 is built from these. Definitions only. Assumes nothing.
use Rattle.std.specs.Prelude.{ℕ, zero, suc, ◌+◌, ◌*◌, ◌/◌, ◌%◌, ◌<◌, Bool, true, false, ◌&&◌, List, [], ◌∷◌, ◌++◌, length, take, drop, get_or, eqb}
use Rattle.codec.specs.Lists.{every}

-- the n bytes of l from o on
unfoldable pub chunk : List ℕ → ℕ → ℕ → List ℕ
chunk l o n = take n (drop o l)

-- l with vs in place of as many bytes from o on
unfoldable pub splice : List ℕ → ℕ → List ℕ → List ℕ
splice l o vs = take o l ++ (vs ++ drop (o + length vs) l)

-- the number that the bytes are, least first
unfoldable pub le : List ℕ → ℕ
le [] = 0
le (b ∷ bs) = b + 256 * le bs

-- the n least bytes of v, least first
unfoldable pub bytes_of : ℕ → ℕ → List ℕ
bytes_of zero v = []
bytes_of (suc n) v = v % 256 ∷ bytes_of n (v / 256)

-- a field of one, of four and of eight bytes, read at o
abbrev pub u8_at : List ℕ → ℕ → ℕ
u8_at l o = get_or l o 0

abbrev pub u32_at : List ℕ → ℕ → ℕ
u32_at l o = le (chunk l o 4)

abbrev pub u64_at : List ℕ → ℕ → ℕ
u64_at l o = le (chunk l o 8)

-- a field of one, of four and of eight bytes, as it is written
abbrev pub u8 : ℕ → List ℕ
u8 v = v ∷ []

abbrev pub u32 : ℕ → List ℕ
u32 v = bytes_of 4 v

abbrev pub u64 : ℕ → List ℕ
u64 v = bytes_of 8 v

-- n zeros
abbrev pub zeros : ℕ → List ℕ
zeros zero = []
zeros (suc n) = 0 ∷ zeros n

-- the parts of a layout, one after the other
abbrev pub joined : List (List ℕ) → List ℕ
joined [] = []
joined (xs ∷ xss) = xs ++ joined xss

-- every byte of l is v
abbrev pub all_are : ℕ → List ℕ → Bool
all_are v l = every (λ (b : ℕ). eqb b v) l

-- the same bytes in the same order
unfoldable pub same_bytes : List ℕ → List ℕ → Bool
same_bytes [] [] = true
same_bytes [] (y ∷ ys) = false
same_bytes (x ∷ xs) [] = false
same_bytes (x ∷ xs) (y ∷ ys) = eqb x y && same_bytes xs ys

-- "Every used record starts with a two-byte mark."
abbrev pub marked_at : List ℕ → ℕ → List ℕ → Bool
marked_at l o mark = same_bytes (chunk l o 2) mark

-- the n bytes from o on are zero
abbrev pub zero_at : List ℕ → ℕ → ℕ → Bool
zero_at l o n = all_are 0 (chunk l o n)

-- no element of l is beyond a byte; past the end a list counts as zero
abbrev pub Bytes : List ℕ → Type 0
Bytes l = (i : ℕ) → get_or l i 0 < 256
