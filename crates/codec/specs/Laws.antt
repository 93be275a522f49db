-- Laws of `Bytes`, each once, over the width: what a part of a part is, splices, zeros, numbers and their bytes,
-- and how straight-line code that reads or stores byte by byte meets them. Assumes nothing.
use Rattle.std.specs.Prelude.{◌≡◌, refl, ℕ, zero, suc, ◌+◌, ◌*◌, ◌-◌, ◌/◌, ◌%◌, ◌^◌, ◌≤◌, ◌<◌, List, [], ◌∷◌, ◌++◌, eqb, Bool, true, false, ◌&&◌, length, take, drop, get_or, set}
use Rattle.std.specs.Int.{w32, w64, to_le_bytes, from_le_bytes}
use Rattle.std.specs.List.{list_all}
use Rattle.std.specs.Simd.{first_chunks}
use lib.Pointwise.{pointwise}
use Rattle.std.proofs.Common.{ap, sym, ◌∙◌, add-zero, zero-add, add-suc, suc-add, add_assoc, mul_assoc, pow-suc, add-one, arith, append_assoc, append-nil, true≢false, eqb-true, eq-eqb, length-append, length-take, length-drop, length-set, take-append-drop, drop_of_length-le, drop-cons, take_at, drop_at, drop-drop, length-take-le, take-add, ext_get_or, get_or-take, get_or-drop, take_all}
use Rattle.std.proofs.Math.Nat.{sub-zero, pow-succ'}
use Rattle.std.proofs.Math.Bool.{and_assoc}
use Rattle.std.proofs.Math.Decide.{dec_lt}
use Rattle.std.proofs.Math.ListN.{get_or-eq_default}
use Rattle.std.proofs.Math.Seq.{drop-nil, take-nil, take-length}
use Rattle.std.proofs.lemmas.List.{set_split}
use Rattle.codec.specs.Bytes.{chunk, splice, le, bytes_of, u8_at, u32_at, u64_at, joined, same_bytes, marked_at, zero_at, zeros, all_are, Bytes}
use Rattle.codec.specs.Lists.{every, every_append, and_true, and_both, both_ways}

-- ---- lengths

pub length_chunk : (l : List ℕ) (o n : ℕ) → o + n ≤ length l → length (chunk l o n) ≡ n
unfolding chunk
length_chunk l o n h = simp (length-take, length-drop) (omega arith)

pub length_splice : (l : List ℕ) (o : ℕ) (vs : List ℕ) → o + length vs ≤ length l → length (splice l o vs) ≡ length l
unfolding splice
length_splice l o vs h = simp (length-append, length-take, length-drop) (omega arith)

pub length_bytes_of : (n v : ℕ) → length (bytes_of n v) ≡ n
unfolding bytes_of
length_bytes_of zero v = refl
length_bytes_of (suc n) v = ap suc (length_bytes_of n (v / 256))

-- ---- one byte

pub get_or_chunk : (l : List ℕ) (o n i : ℕ) → i < n → get_or (chunk l o n) i 0 ≡ get_or l (o + i) 0
unfolding chunk
get_or_chunk l o n i h = rw (get_or-take, get_or-drop)

-- ---- a part of a part

pub chunk_chunk : (l : List ℕ) (o n p m : ℕ) → p + m ≤ n → chunk (chunk l o n) p m ≡ chunk l (o + p) m
unfolding chunk
chunk_chunk l o n p m h =
    ext_get_or 0 _ _ (simp (length-take, length-drop) (omega arith))
    (λ i hi.
    let him : i < m = omega (arith, simp (length-take) at hi) in
    let hin : p + i < n = omega arith in
    get_or_chunk (chunk l o n) p m i him ∙ get_or_chunk l o n (p + i) hin ∙ ap (λ (k : ℕ). get_or l k 0) (omega arith) ∙ sym (get_or_chunk l (o + p) m i him))

-- what a part of a part holds is what that part of the whole holds
pub of_chunk : {A : Type 0} (of : List ℕ → A) (m : ℕ) (l : List ℕ) (o n p : ℕ) → p + m ≤ n → of (chunk (chunk l o n) p m) ≡ of (chunk l (o + p) m)
of_chunk of m l o n p h = ap of (chunk_chunk l o n p m h)

-- a part that begins a part
pub first_chunk : (l : List ℕ) (o n m : ℕ) → m ≤ n → chunk (chunk l o n) 0 m ≡ chunk l o m
first_chunk l o n m h = chunk_chunk l o n 0 m (omega arith) ∙ ap (λ (k : ℕ). chunk l k m) (add-zero o)

-- a number within a part
pub u8_within : (l : List ℕ) (o n p : ℕ) → p + 1 ≤ n → u8_at (chunk l o n) p ≡ u8_at l (o + p)
u8_within l o n p h = get_or_chunk l o n p (omega arith)

pub u32_within : (l : List ℕ) (o n p : ℕ) → p + 4 ≤ n → u32_at (chunk l o n) p ≡ u32_at l (o + p)
u32_within l o n p h = ap le (chunk_chunk l o n p 4 h)

pub u64_within : (l : List ℕ) (o n p : ℕ) → p + 8 ≤ n → u64_at (chunk l o n) p ≡ u64_at l (o + p)
u64_within l o n p h = ap le (chunk_chunk l o n p 8 h)

-- two parts, one behind the other
pub chunk_add : (l : List ℕ) (o a b : ℕ) → chunk l o (a + b) ≡ chunk l o a ++ chunk l (o + a) b
unfolding chunk
chunk_add l o a b = take-add a b (drop o l) ∙ ap (λ (r : List ℕ). take a (drop o l) ++ take b r) (drop-drop a o l)

-- all that stands from i on
pub chunk_rest : (l : List ℕ) (i : ℕ) → chunk l i (length l - i) ≡ drop i l
unfolding chunk
chunk_rest l i = take_all (length l - i) (drop i l) (simp length-drop (omega arith))

-- ---- splices

-- two splices, one after the other, are one
pub splice_splice : (l : List ℕ) (o : ℕ) (xs : List ℕ) (n : ℕ) (ys : List ℕ) → length xs ≡ n → o + n + length ys ≤ length l → splice (splice l o xs) (o + n) ys ≡ splice l o (xs ++ ys)
unfolding splice
splice_splice l o xs n ys e h =
    let d : List ℕ = drop (o + length xs) l in
    let a : List ℕ = take o l ++ xs in
    let ea : length a ≡ o + n = simp (length-append, length-take-le o l (omega arith)) (omega arith) in
    let whole : take o l ++ (xs ++ d) ≡ a ++ d = sym (append_assoc (take o l) xs d) in
    let head : take (o + n) (take o l ++ (xs ++ d)) ≡ a = ap (take (o + n)) whole ∙ take_at a d (o + n) ea in
    let tail : drop (o + n + length ys) (take o l ++ (xs ++ d)) ≡ drop (o + length (xs ++ ys)) l =
    sym (drop-drop (length ys) (o + n) _) ∙ ap (λ (r : List ℕ). drop (length ys) (drop (o + n) r)) whole
    ∙ ap (drop (length ys)) (drop_at a d (o + n) ea) ∙ drop-drop (length ys) (o + length xs) l
    ∙ ap (λ (m : ℕ). drop m l) {x = o + length xs + length ys} {y = o + length (xs ++ ys)} (simp length-append (omega arith)) in
    ap (λ (r : List ℕ). r ++ (ys ++ drop (o + n + length ys) (take o l ++ (xs ++ d)))) head
    ∙ ap (λ (r : List ℕ). a ++ (ys ++ r)) tail
    ∙ simp append_assoc

-- a store after other stores
pub after : {a b c : List ℕ} (o : ℕ) (vs : List ℕ) → c ≡ splice a o vs → a ≡ b → c ≡ splice b o vs
after o vs e p = e ∙ ap (λ (l : List ℕ). splice l o vs) p

-- src written over the front of all that stands from o on, and put back behind what stands before o
pub splice_front : (l : List ℕ) (o : ℕ) (src rest : List ℕ) → o + length src ≤ length l →
    rest ≡ take (length src) src ++ drop (length src) (take (length l - o) (drop o l)) →
    take o l ++ (rest ++ drop (length l - o) (drop o l)) ≡ splice l o src
unfolding splice chunk
splice_front l o src rest h e =
    let all : take (length l - o) (drop o l) ≡ drop o l = chunk_rest l o in
    let none : drop (length l - o) (drop o l) ≡ [] = drop_of_length-le (drop o l) {i = length l - o} (simp length-drop (omega arith)) in
    rw (none, append-nil, e, all, take-length, drop-drop)

-- ---- zeros: how many, tested, in two parts, and without the first k

pub length_zeros : (n : ℕ) → length (zeros n) ≡ n
length_zeros zero = refl
length_zeros (suc n) = ap suc (length_zeros n)

pub all_zeros : (n : ℕ) → all_are 0 (zeros n) ≡ true
unfolding every
all_zeros zero = refl
all_zeros (suc n) = all_zeros n

pub zeros_add : (m n : ℕ) → zeros (m + n) ≡ zeros m ++ zeros n
zeros_add zero n = ap zeros (zero-add n)
zeros_add (suc m) n = rw suc-add (ap (λ (l : List ℕ). 0 ∷ l) (zeros_add m n))

pub drop_zeros : (n k : ℕ) → drop k (zeros n) ≡ zeros (n - k)
drop_zeros n zero = rw sub-zero
drop_zeros zero (suc k) = ap zeros {x = 0} {y = 0 - suc k} (omega arith)
drop_zeros (suc n) (suc k) = drop_zeros n k ∙ ap zeros {x = n - k} {y = suc n - suc k} (omega arith)

-- ---- numbers

pub le_bytes_of : (n v : ℕ) → v < 256 ^ n → le (bytes_of n v) ≡ v
unfolding le bytes_of
le_bytes_of zero v h = omega arith
le_bytes_of (suc n) v h =
    let lo : v / 256 < 256 ^ n = omega (arith, rw pow-suc at h) in
    let ih : le (bytes_of n (v / 256)) ≡ v / 256 = le_bytes_of n (v / 256) lo in
    omega arith

-- bytes that are bytes are those of their number
pub bytes_of_le : (l : List ℕ) → Bytes l → bytes_of (length l) (le l) ≡ l
unfolding le bytes_of
bytes_of_le [] h = refl
bytes_of_le (b ∷ bs) h =
    let hb : b < 256 = h 0 in
    let low : (b + 256 * le bs) % 256 ≡ b = omega arith in
    let high : (b + 256 * le bs) / 256 ≡ le bs = omega arith in
    cc (bytes_of_le bs (λ i. h (suc i)))

pow_step : (a x : ℕ) → 256 ^ suc a * x ≡ 256 * (256 ^ a * x)
pow_step a x = ap (λ (p : ℕ). p * x) (pow-succ' 256 a) ∙ mul_assoc 256 (256 ^ a) x

-- a low part of a bytes and a high part of b are written one after the other
pub bytes_of_add : (a b lo hi : ℕ) → lo < 256 ^ a → bytes_of (a + b) (lo + 256 ^ a * hi) ≡ bytes_of a lo ++ bytes_of b hi
unfolding bytes_of
bytes_of_add zero b lo hi h = rw zero-add (ap (bytes_of b) {x = lo + 256 ^ 0 * hi} {y = hi} (omega arith))
bytes_of_add (suc a) b lo hi h =
    let e : 256 ^ suc a * hi ≡ 256 * (256 ^ a * hi) = pow_step a hi in
    let low : (lo + 256 ^ suc a * hi) % 256 ≡ lo % 256 = omega arith in
    let high : (lo + 256 ^ suc a * hi) / 256 ≡ lo / 256 + 256 ^ a * hi = omega arith in
    let less : lo / 256 < 256 ^ a = omega (arith, rw pow-suc at h) in
    rw suc-add (cc (bytes_of_add a b (lo / 256) hi less))

-- the number that one list of bytes behind another is
pub le_append : (xs ys : List ℕ) → le (xs ++ ys) ≡ le xs + 256 ^ length xs * le ys
unfolding le
le_append [] ys = omega arith
le_append (x ∷ xs) ys = omega (arith, le_append xs ys, pow_step (length xs) (le ys))

-- std's bytes of a number, and these
pub u32_to_le : (v : ℕ) → to_le_bytes w32 v ≡ bytes_of 4 v
unfolding bytes_of
u32_to_le v =
    let b2 : v / 65536 ≡ v / 256 / 256 = omega arith in
    let b3 : v / 16777216 ≡ v / 256 / 256 / 256 = omega arith in
    cc (b2, b3)

pub u64_to_le : (v : ℕ) → to_le_bytes w64 v ≡ bytes_of 8 v
unfolding bytes_of
u64_to_le v =
    let b2 : v / 65536 ≡ v / 256 / 256 = omega arith in
    let b3 : v / 16777216 ≡ v / 256 / 256 / 256 = omega arith in
    let b4 : v / 4294967296 ≡ v / 256 / 256 / 256 / 256 = omega arith in
    let b5 : v / 1099511627776 ≡ v / 256 / 256 / 256 / 256 / 256 = omega arith in
    let b6 : v / 281474976710656 ≡ v / 256 / 256 / 256 / 256 / 256 / 256 = omega arith in
    let b7 : v / 72057594037927936 ≡ v / 256 / 256 / 256 / 256 / 256 / 256 / 256 = omega arith in
    cc (b2, b3, b4, b5, b6, b7)

-- ---- straight-line code: bytes read one by one, and stored one by one

-- the first byte, and the number that the others are; a byte past the end counts as 0
pub le_step : (l : List ℕ) (o n : ℕ) → le (chunk l o (suc n)) ≡ get_or l o 0 + 256 * le (chunk l (suc o) n)
unfolding chunk le
le_step [] o n = simp (drop-nil, take-nil)
le_step (x ∷ l) zero n = refl
le_step (x ∷ l) (suc o) n = le_step l o n

pub le_step_at : (l : List ℕ) (o k n : ℕ) → le (chunk l (o + k) (suc n)) ≡ get_or l (o + k) 0 + 256 * le (chunk l (o + suc k) n)
le_step_at l o k n = le_step l (o + k) n ∙ ap (λ (m : ℕ). get_or l (o + k) 0 + 256 * le (chunk l m n)) (sym (add-suc o k))

pub le_none : (l : List ℕ) (o : ℕ) → le (chunk l o 0) ≡ 0
unfolding chunk le
le_none l o = refl

pub u32_bytes : (l : List ℕ) (o : ℕ) → le (chunk l o 4) ≡ get_or l o 0 + 256 * (get_or l (o + 1) 0 + 256 * (get_or l (o + 2) 0 + 256 * get_or l (o + 3) 0))
u32_bytes l o = omega (arith, rw add-zero at (le_step_at l o 0 3), le_step_at l o 1 2, le_step_at l o 2 1, le_step_at l o 3 0, le_none l (o + 4))

pub u64_bytes : (l : List ℕ) (o : ℕ) → le (chunk l o 8) ≡ get_or l o 0 + 256 * (get_or l (o + 1) 0 + 256 * (get_or l (o + 2) 0 + 256 * (get_or l (o + 3) 0
    + 256 * (get_or l (o + 4) 0 + 256 * (get_or l (o + 5) 0 + 256 * (get_or l (o + 6) 0 + 256 * get_or l (o + 7) 0))))))
u64_bytes l o = omega (arith, rw add-zero at (le_step_at l o 0 7), le_step_at l o 1 6, le_step_at l o 2 5, le_step_at l o 3 4, le_step_at l o 4 3, le_step_at l o 5 2, le_step_at l o 6 1, le_step_at l o 7 0, le_none l (o + 8))

-- std's number of four and of eight bytes, and these
pub from_le_u32 : (l : List ℕ) (o : ℕ) → from_le_bytes w32 (chunk l o 4) ≡ u32_at l o
from_le_u32 l o = omega (arith, u32_bytes (chunk l o 4) 0, ap le (first_chunk l o 4 4 (omega arith)))

pub from_le_u64 : (l : List ℕ) (o : ℕ) → from_le_bytes w64 (chunk l o 8) ≡ u64_at l o
from_le_u64 l o = omega (arith, u64_bytes (chunk l o 8) 0, ap le (first_chunk l o 8 8 (omega arith)))

-- four bytes are below 2^32
pub u32_below : (l : List ℕ) (o : ℕ) → Bytes l → le (chunk l o 4) < 2 ^ 32
u32_below l o b = omega (arith, u32_bytes l o, b o, b (o + 1), b (o + 2), b (o + 3))

pub u64_halves : (l : List ℕ) (o : ℕ) → o + 8 ≤ length l → le (chunk l o 8) ≡ le (chunk l o 4) + 4294967296 * le (chunk l (o + 4) 4)
u64_halves l o h =
    let four : length (chunk l o 4) ≡ 4 = length_chunk l o 4 (omega arith) in
    ap le (chunk_add l o 4 4) ∙ le_append (chunk l o 4) (chunk l (o + 4) 4)
    ∙ ap (λ (n : ℕ). le (chunk l o 4) + 256 ^ n * le (chunk l (o + 4) 4)) four

pub u64_put : (l : List ℕ) (o v : ℕ) → o + 8 ≤ length l →
    splice (splice l o (bytes_of 4 (v % 4294967296))) (o + 4) (bytes_of 4 (v / 4294967296)) ≡ splice l o (bytes_of 8 v)
u64_put l o v h =
    splice_splice l o (bytes_of 4 (v % 4294967296)) 4 (bytes_of 4 (v / 4294967296)) (length_bytes_of 4 _)
    (omega (arith, length_bytes_of 4 (v / 4294967296)))
    ∙ ap (splice l o)
    (sym (bytes_of_add 4 4 (v % 4294967296) (v / 4294967296) (omega arith))
    ∙ ap (bytes_of 8) {x = v % 4294967296 + 4294967296 * (v / 4294967296)} {y = v} (omega arith))

-- vs stored one by one at o + k, o + k + 1, ..: at a list written out and a numeral k it computes to the stores of the code
abbrev pub stores : List ℕ → ℕ → ℕ → List ℕ → List ℕ
stores l o k [] = l
stores l o k (v ∷ vs) = stores (set l (o + k) v) o (suc k) vs

pub set_splice : (l : List ℕ) (i v : ℕ) → i < length l → set l i v ≡ splice l i (v ∷ [])
unfolding splice
set_splice l i v h = set_split l i v h ∙ ap (λ (m : ℕ). take i l ++ (v ∷ drop m l)) (sym (add-one i))

pub splice_none : (l : List ℕ) (i : ℕ) → l ≡ splice l i []
unfolding splice
splice_none l i = rw add-zero (sym (take-append-drop i l))

pub stores_splice : (l : List ℕ) (o k : ℕ) (vs : List ℕ) → o + k + length vs ≤ length l → stores l o k vs ≡ splice l (o + k) vs
stores_splice l o k [] h = splice_none l (o + k)
stores_splice l o k (v ∷ vs) h =
    let hs : o + suc k + length vs ≤ length (set l (o + k) v) = simp length-set (omega arith) in
    let i1 : o + suc k ≡ o + k + 1 = omega arith in
    stores_splice (set l (o + k) v) o (suc k) vs hs
    ∙ ap (λ (m : ℕ). splice (set l (o + k) v) m vs) i1
    ∙ ap (λ (r : List ℕ). splice r (o + k + 1) vs) (set_splice l (o + k) v (omega arith))
    ∙ splice_splice l (o + k) (v ∷ []) 1 vs refl (omega arith)

-- the same from o itself, for code whose first store is at o and not at o + 0
pub stores_at : (l : List ℕ) (o v : ℕ) (vs : List ℕ) → o + suc (length vs) ≤ length l → stores (set l o v) o 1 vs ≡ splice l o (v ∷ vs)
stores_at l o v vs h = rw add-zero at (stores_splice l o 0 (v ∷ vs) (omega arith))

-- the n bytes from o + k on, one by one: at numerals k and n it computes to what the code reads
abbrev pub reads : List ℕ → ℕ → ℕ → ℕ → List ℕ
reads l o k zero = []
reads l o k (suc n) = get_or l (o + k) 0 ∷ reads l o (suc k) n

pub chunk_reads : (l : List ℕ) (o k n : ℕ) → o + k + n ≤ length l → chunk l (o + k) n ≡ reads l o k n
unfolding chunk
chunk_reads l o k zero h = refl
chunk_reads l o k (suc n) h =
    ap (take (suc n)) (drop-cons l (o + k) 0 (omega arith))
    ∙ ap (λ (m : ℕ). get_or l (o + k) 0 ∷ take n (drop m l)) (sym (add-suc o k))
    ∙ ap (λ (r : List ℕ). get_or l (o + k) 0 ∷ r) (chunk_reads l o (suc k) n (omega arith))

-- a list of a known length, written out
pub written_out : (l : List ℕ) (n : ℕ) → length l ≡ n → l ≡ reads l 0 0 n
unfolding chunk
written_out l n h = sym (take_all n l (omega arith)) ∙ chunk_reads l 0 0 n (omega arith)

-- the same from o itself, for code whose first read is at o and not at o + 0
pub chunk_at : (l : List ℕ) (o n : ℕ) → o + suc n ≤ length l → chunk l o (suc n) ≡ get_or l o 0 ∷ reads l o 1 n
chunk_at l o n h = rw add-zero at (chunk_reads l o 0 (suc n) (omega arith))

-- lists stored one after the other from o + k on, and all at once
abbrev pub splices : List ℕ → ℕ → ℕ → List (List ℕ) → List ℕ
splices l o k [] = l
splices l o k (xs ∷ xss) = splices (splice l (o + k) xs) o (k + length xs) xss

pub splices_splice : (l : List ℕ) (o k : ℕ) (xss : List (List ℕ)) → o + k + length (joined xss) ≤ length l → splices l o k xss ≡ splice l (o + k) (joined xss)
splices_splice l o k [] h = splice_none l (o + k)
splices_splice l o k (xs ∷ xss) h =
    let hj : length (xs ++ joined xss) ≡ length xs + length (joined xss) = length-append xs (joined xss) in
    let hl : length (splice l (o + k) xs) ≡ length l = length_splice l (o + k) xs (omega arith) in
    splices_splice (splice l (o + k) xs) o (k + length xs) xss (omega arith)
    ∙ ap (λ (m : ℕ). splice (splice l (o + k) xs) m (joined xss)) (sym (add_assoc o k (length xs)))
    ∙ splice_splice l (o + k) xs (length xs) (joined xss) refl (omega arith)

-- ---- a loop that passes the bytes of a list one by one

-- two lists of one length
pub same_step : (s t : List ℕ) (i : ℕ) → i < length s → i < length t →
    same_bytes (drop i s) (drop i t) ≡ (eqb (get_or s i 0) (get_or t i 0) && same_bytes (drop (i + 1) s) (drop (i + 1) t))
unfolding same_bytes
same_step s t i h k = rw (drop-cons s i 0, drop-cons t i 0, add-one)

pub same_none : (s t : List ℕ) (i : ℕ) → length s ≤ i → length t ≤ i → same_bytes (drop i s) (drop i t) ≡ true
unfolding same_bytes
same_none s t i h k = rw (drop_of_length-le s h, drop_of_length-le t k)

pub same_length_false : (s t : List ℕ) → (length s ≡ length t → ⊥) → same_bytes s t ≡ false
unfolding same_bytes
same_length_false [] [] h = absurd (h refl)
same_length_false [] (y ∷ t) h = refl
same_length_false (x ∷ s) [] h = refl
same_length_false (x ∷ s) (y ∷ t) h = go (eqb x y) (same_length_false s t (λ e. h (ap suc e)))
  where
    go : (b : Bool) → same_bytes s t ≡ false → (b && same_bytes s t) ≡ false
    go true e = e
    go false e = refl

-- std's comparison of two lists, and this one
pub same_pointwise : (s t : List ℕ) → pointwise eqb s t ≡ same_bytes s t
unfolding same_bytes
same_pointwise [] [] = refl
same_pointwise [] (y ∷ t) = refl
same_pointwise (x ∷ s) [] = refl
same_pointwise (x ∷ s) (y ∷ t) = ap (λ (b : Bool). eqb x y && b) (same_pointwise s t)

-- what is found the same is equal, and the other way round
pub same_eq : (s t : List ℕ) → same_bytes s t ≡ true → s ≡ t
unfolding same_bytes
same_eq [] [] h = refl
same_eq [] (y ∷ t) h = absurd (true≢false (sym h))
same_eq (x ∷ s) [] h = absurd (true≢false (sym h))
same_eq (x ∷ s) (y ∷ t) h = let p = and_true _ _ h in cc (eqb-true x y p.0, same_eq s t p.1)

pub same_refl : (s : List ℕ) → same_bytes s s ≡ true
unfolding same_bytes
same_refl [] = refl
same_refl (x ∷ s) = simp (eq-eqb x x refl, same_refl s)

-- ---- a record's bytes, part by part

-- parts of these widths, one behind the other from o on
abbrev pub parts : List ℕ → ℕ → List ℕ → List (List ℕ)
parts l o [] = []
parts l o (w ∷ ws) = chunk l o w ∷ parts l (o + w) ws

abbrev pub sum : List ℕ → ℕ
sum [] = 0
sum (w ∷ ws) = w + sum ws

pub joined_parts : (l : List ℕ) (o : ℕ) (ws : List ℕ) → joined (parts l o ws) ≡ chunk l o (sum ws)
unfolding chunk
joined_parts l o [] = refl
joined_parts l o (w ∷ ws) =
    ap (λ (r : List ℕ). chunk l o w ++ r) (joined_parts l (o + w) ws) ∙ sym (chunk_add l o w (sum ws))

pub chunk_whole : (l : List ℕ) (n : ℕ) → length l ≡ n → chunk l 0 n ≡ l
unfolding chunk
chunk_whole l n h = take_all n l (omega arith)

-- what is, part by part, what stands there, is all of it
pub joined_back : (c ws : List ℕ) {ps : List (List ℕ)} → ps ≡ parts c 0 ws → length c ≡ sum ws → joined ps ≡ c
joined_back c ws e f = ap joined e ∙ joined_parts c 0 ws ∙ chunk_whole c (sum ws) f

pub bytes_chunk : (l : List ℕ) (o n : ℕ) → Bytes l → Bytes (chunk l o n)
unfolding chunk
bytes_chunk l o n h i = go (dec_lt i n)
  where
    go : Dec (i < n) → get_or (chunk l o n) i 0 < 256
    go (yes lt) = rw (get_or_chunk l o n i lt) (h (o + i))
    go (no ge) =
        let short : length (take n (drop o l)) ≤ i = simp length-take (omega arith) in
        omega (arith, get_or-eq_default (take n (drop o l)) 0 short)

-- each part of a record that was read is the part that stands there
pub u8_back : (l : List ℕ) (o : ℕ) → o + 1 ≤ length l → get_or l o 0 ∷ [] ≡ chunk l o 1
u8_back l o h = sym (chunk_at l o 0 h)

pub number_back : (l : List ℕ) (o n : ℕ) → Bytes l → o + n ≤ length l → bytes_of n (le (chunk l o n)) ≡ chunk l o n
number_back l o n b h =
    ap (λ (k : ℕ). bytes_of k (le (chunk l o n))) (sym (length_chunk l o n h)) ∙ bytes_of_le (chunk l o n) (bytes_chunk l o n b)

pub zeros_back : (l : List ℕ) (o n : ℕ) → o + n ≤ length l → zero_at l o n ≡ true → zeros n ≡ chunk l o n
unfolding every
zeros_back l o n h z = ap zeros (sym (length_chunk l o n h)) ∙ go (chunk l o n) z
  where
    go : (s : List ℕ) → all_are 0 s ≡ true → zeros (length s) ≡ s
    go [] e = refl
    go (x ∷ s) e = let p = and_true _ _ e in cc (eqb-true x 0 p.0, go s p.1)

-- a mark, and zeros, within a part
pub marked_chunk : (l : List ℕ) (o n : ℕ) (mark : List ℕ) → 2 ≤ n → marked_at (chunk l o n) 0 mark ≡ marked_at l o mark
marked_chunk l o n mark h = rw first_chunk

pub zero_chunk : (l : List ℕ) (o n p k : ℕ) → p + k ≤ n → zero_at (chunk l o n) p k ≡ zero_at l (o + p) k
zero_chunk l o n p k h = rw chunk_chunk

-- where n bytes are the number 0, all bytes are zero exactly if those behind them are
skipped : (n : ℕ) (s : List ℕ) → le (take n s) ≡ 0 → all_are 0 s ≡ all_are 0 (drop n s)
unfolding le every
skipped zero s h = refl
skipped (suc n) [] h = refl
skipped (suc n) (x ∷ s) h = simp (eq-eqb x 0 (omega arith)) (skipped n s (omega arith))

pub zeros_skipped : (l : List ℕ) (o n : ℕ) → le (chunk l o n) ≡ 0 → all_are 0 (drop o l) ≡ all_are 0 (drop (o + n) l)
unfolding chunk
zeros_skipped l o n h = skipped n (drop o l) h ∙ ap (all_are 0) (drop-drop n o l)

-- all bytes are zero exactly if their number is
sum_zero : (x n : ℕ) → eqb (x + 256 * n) 0 ≡ (eqb x 0 && eqb n 0)
sum_zero x n =
    both_ways _ _
    (λ e. let z = eqb-true (x + 256 * n) 0 e in and_both (eq-eqb x 0 (omega arith)) (eq-eqb n 0 (omega arith)))
    (λ e. let p = and_true (eqb x 0) (eqb n 0) e in eq-eqb (x + 256 * n) 0 (omega (arith, eqb-true x 0 p.0, eqb-true n 0 p.1)))

le_zero : (l : List ℕ) → eqb (le l) 0 ≡ all_are 0 l
unfolding le every
le_zero [] = refl
le_zero (x ∷ l) = sum_zero x (le l) ∙ ap (λ (b : Bool). eqb x 0 && b) (le_zero l)

-- all are zero exactly if the number of each of the first k eights is, and all behind those are
eight_zero : (s : List ℕ) → eqb (from_le_bytes w64 (take 8 s)) 0 ≡ all_are 0 (take 8 s)
unfolding chunk
eight_zero s = ap (λ (k : ℕ). eqb k 0) (from_le_u64 s 0) ∙ le_zero (take 8 s)

pub zero_eights : (k : ℕ) (s : List ℕ) →
    (list_all (λ (x : List ℕ). eqb (from_le_bytes w64 x) 0) (first_chunks 8 k s) && all_are 0 (drop (k * 8) s)) ≡ all_are 0 s
zero_eights zero s = refl
zero_eights (suc k) s =
    let eights : Bool = list_all (λ (x : List ℕ). eqb (from_le_bytes w64 x) 0) (first_chunks 8 k (drop 8 s)) in
    ap (λ (r : List ℕ). (eqb (from_le_bytes w64 (take 8 s)) 0 && eights) && all_are 0 r)
    (ap (λ (m : ℕ). drop m s) {x = suc k * 8} {y = 8 + k * 8} (omega arith) ∙ sym (drop-drop (k * 8) 8 s))
    ∙ and_assoc (eqb (from_le_bytes w64 (take 8 s)) 0) eights (all_are 0 (drop (k * 8) (drop 8 s)))
    ∙ ap (λ (b : Bool). eqb (from_le_bytes w64 (take 8 s)) 0 && b) (zero_eights k (drop 8 s))
    ∙ ap (λ (b : Bool). b && all_are 0 (drop 8 s)) (eight_zero s)
    ∙ sym (every_append _ (take 8 s) (drop 8 s))
    ∙ ap (all_are 0) (take-append-drop 8 s)
