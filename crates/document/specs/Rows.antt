-- Records of one width in slots, one behind the other, used slots first and the others zero: what is written there is
-- read there, and what is read there is written as it stood. Once, over the record, for replicas and entries alike.
-- Assumes nothing.
use Rattle.std.specs.Prelude.{◌≡◌, Bool, ◌&&◌, take}
use Rattle.std.proofs.Math.Path.{refl, ap, sym}
use Rattle.std.proofs.Common.{◌∙◌, add-zero, zero-add, mul-zero, mul-add, mul-le-mul_left, length-append, take_at, drop_at, drop-drop}
use Rattle.std.proofs.Math.Bool.{true, false, cond}
use mathlib.Core.List.{List, [], ◌∷◌, ◌++◌, append_assoc, append-nil}
use Prim.Native.Nat.{ℕ, zero, suc, ◌+◌, ◌*◌, ◌-◌, ◌≤◌}
use Rattle.std.proofs.Math.Nat.{add-suc, suc-add, sub-zero, mul-suc, mul-sub}
use native.Mathlib.Omega.{arith}
use Rattle.std.proofs.Math.ListN.{length, drop}
use Rattle.codec.specs.Bytes.{chunk, zeros, same_bytes, all_are, marked_at, zero_at, Bytes, splice}
use Rattle.codec.specs.Laws.{length_chunk, bytes_chunk, chunk_add, zeros_back, length_zeros, all_zeros, zeros_add, splice_splice, splice_none}
use Rattle.codec.specs.Lists.{every, and_true}
use Rattle.document.specs.Tables.{rows, padded, used, slots_from, every_slot}

-- a record of one width with a mark at the front: its bytes, what bytes hold, when bytes are in range and when a record
-- is, and the laws that tie them
pub record Layout (A : Type 0) : Type 0 where
  pub bytes : A → List ℕ
  pub of : List ℕ → A
  pub width : ℕ
  pub mark : List ℕ
  pub in_range : List ℕ → Bool
  pub is_good : A → Bool
  pub sized : (x : A) → length (bytes x) ≡ width
  pub marked : (x : A) (r : List ℕ) → same_bytes (take 2 (bytes x ++ r)) mark ≡ true
  pub unmarked : (r : List ℕ) → same_bytes (take 2 (zeros width ++ r)) mark ≡ false
  pub round : (x : A) → is_good x ≡ true → of (bytes x) ≡ x
  pub judged : (x : A) → is_good x ≡ true → in_range (bytes x) ≡ true
  pub back : (c : List ℕ) → length c ≡ width → Bytes c → in_range c ≡ true → bytes (of c) ≡ c
  pub good : (c : List ℕ) → length c ≡ width → in_range c ≡ true → is_good (of c) ≡ true

-- ---- strings and lists

-- where a string is known from o on: its first part, and what stands behind that
pub chunk_front : (l a r : List ℕ) (o n : ℕ) → drop o l ≡ a ++ r → length a ≡ n → chunk l o n ≡ a
unfolding chunk
chunk_front l a r o n e h = ap (take n) e ∙ take_at a r n h

pub drop_front : (l a r : List ℕ) (o n : ℕ) → drop o l ≡ a ++ r → length a ≡ n → drop (o + n) l ≡ r
drop_front l a r o n e h = sym (drop-drop n o l) ∙ ap (drop n) e ∙ drop_at a r n h

-- as many as were asked for
pub length_slots : {A : Type 0} (f : ℕ → A) (s n : ℕ) → length (slots_from f s n) ≡ n
unfolding slots_from
length_slots f s zero = refl
length_slots f s (suc n) = ap suc (length_slots f (suc s) n)

-- records written one behind the other: none, one, two lists of them, and how long they are
pub rows_none : {A : Type 0} (f : A → List ℕ) → rows f [] ≡ []
unfolding rows
rows_none f = refl

pub rows_one : {A : Type 0} (f : A → List ℕ) (x : A) → rows f (x ∷ []) ≡ f x
unfolding rows
rows_one f x = append-nil (f x)

pub rows_append : {A : Type 0} (f : A → List ℕ) (xs ys : List A) → rows f (xs ++ ys) ≡ rows f xs ++ rows f ys
unfolding rows
rows_append f [] ys = refl
rows_append f (x ∷ xs) ys =
    ap (λ (r : List ℕ). f x ++ r) (rows_append f xs ys) ∙ sym (append_assoc (f x) (rows f xs) (rows f ys))

pub rows_length : {A : Type 0} (f : A → List ℕ) (w : ℕ) → ((x : A) → length (f x) ≡ w) → (xs : List A) →
    length (rows f xs) ≡ w * length xs
unfolding rows
rows_length f w e [] = rw mul-zero
rows_length f w e (x ∷ xs) = rw (length-append, e x, rows_length f w e xs, mul-suc) (omega arith)

-- some written, and then the rest behind them
pub rows_written : {A : Type 0} (f : A → List ℕ) (w : ℕ) → ((x : A) → length (f x) ≡ w) → (out : List ℕ) (o : ℕ)
    (xs ys : List A) → o + w * length xs + w * length ys ≤ length out →
    splice (splice out o (rows f xs)) (o + w * length xs) (rows f ys) ≡ splice out o (rows f (xs ++ ys))
rows_written f w e out o xs ys h =
    splice_splice out o (rows f xs) (w * length xs) (rows f ys) (rows_length f w e xs)
    (omega (arith, rows_length f w e ys))
    ∙ ap (splice out o) (sym (rows_append f xs ys))

-- nothing is left to write
pub rows_end : {A : Type 0} (f : A → List ℕ) (out : List ℕ) (o : ℕ) {xs : List A} → xs ≡ [] →
    out ≡ splice out o (rows f xs)
rows_end f out o e =
    splice_none out o ∙ ap (splice out o) (sym (rows_none f)) ∙ ap (λ xs. splice out o (rows f xs)) (sym e)

-- two tests on every element, together and each by itself
pub every_both : {A : Type 0} (f g : A → Bool) (xs : List A) → every f xs ≡ true → every g xs ≡ true →
    every (λ (x : A). f x && g x) xs ≡ true
unfolding every
every_both f g [] a b = refl
every_both f g (x ∷ xs) a b =
    let p = and_true (f x) _ a in
    let q = and_true (g x) _ b in
    simp (p.0, q.0, every_both f g xs p.1 q.1)

pub every_each : {A : Type 0} (f g : A → Bool) (xs : List A) → every (λ (x : A). f x && g x) xs ≡ true →
    (every f xs ≡ true) × (every g xs ≡ true)
unfolding every
every_each f g [] e = (refl, refl)
every_each f g (x ∷ xs) e =
    let p = and_true (f x && g x) _ e in
    let q = and_true (f x) (g x) p.0 in
    let r = every_each f g xs p.1 in
    (simp (q.0, r.0), simp (q.1, r.1))

-- ---- slots

module _ {A : Type 0} (L : Layout A) where
  -- the records' bytes
  abbrev bytes_all : List A → List ℕ
  bytes_all xs = rows L.bytes xs

  -- the slot s of those from b on: where it stands, its bytes, what they hold, and whether they are in range
  abbrev place : ℕ → ℕ → ℕ
  place b s = b + L.width * s

  abbrev slot_in : List ℕ → ℕ → ℕ → List ℕ
  slot_in l b s = chunk l (place b s) L.width

  abbrev held_in : List ℕ → ℕ → ℕ → A
  held_in l b s = L.of (slot_in l b s)

  abbrev fine_in : List ℕ → ℕ → ℕ → Bool
  fine_in l b s = L.in_range (slot_in l b s)

  -- how long they are, used slots and all
  pub length_rows : (xs : List A) → length (bytes_all xs) ≡ L.width * length xs
  length_rows xs = rows_length L.bytes L.width L.sized xs

  -- what n slots leave to the free ones
  pub padding : (n : ℕ) (xs : List A) → L.width * n - length (bytes_all xs) ≡ L.width * (n - length xs)
  padding n xs = ap (λ (k : ℕ). L.width * n - k) (length_rows xs) ∙ sym (mul-sub L.width n (length xs))

  pub length_padded : (n : ℕ) (xs : List A) → length xs ≤ n →
      length (padded (L.width * n) (bytes_all xs)) ≡ L.width * n
  length_padded n xs h =
      simp (length-append, length_zeros) (omega (arith, length_rows xs, mul-le-mul_left L.width h))

  -- where the next slot stands, and where the slots end if n more follow it
  next_slot : (b s : ℕ) → place b (suc s) ≡ place b s + L.width
  next_slot b s = rw mul-suc (omega arith)

  last_slot : (b s n : ℕ) → place b (s + suc n) ≡ place b s + L.width + L.width * n
  last_slot b s n = rw (add-suc, mul-suc, mul-add) (omega arith)

  -- ---- written, then read

  -- the first record, and the others behind it
  first_row : (l r : List ℕ) (o : ℕ) (x : A) (xs : List A) → drop o l ≡ bytes_all (x ∷ xs) ++ r →
      drop o l ≡ L.bytes x ++ (bytes_all xs ++ r)
  unfolding rows
  first_row l r o x xs e = e ∙ append_assoc (L.bytes x) (bytes_all xs) r

  pub other_rows : (l r : List ℕ) (b s : ℕ) (x : A) (xs : List A) → drop (place b s) l ≡ bytes_all (x ∷ xs) ++ r →
      drop (place b (suc s)) l ≡ bytes_all xs ++ r
  other_rows l r b s x xs e =
      ap (λ (o : ℕ). drop o l) (next_slot b s)
      ∙ drop_front l (L.bytes x) (bytes_all xs ++ r) (place b s) L.width
      (first_row l r (place b s) x xs e) (L.sized x)

  -- the first record in its slot
  pub row_slot : (l r : List ℕ) (o : ℕ) (x : A) (xs : List A) → drop o l ≡ bytes_all (x ∷ xs) ++ r →
      chunk l o L.width ≡ L.bytes x
  row_slot l r o x xs e =
      chunk_front l (L.bytes x) (bytes_all xs ++ r) o L.width (first_row l r o x xs e) (L.sized x)

  -- as many slots are used as there are records
  pub used_rows : (l r : List ℕ) (o n : ℕ) (xs : List A) → length xs ≤ n →
      drop o l ≡ bytes_all xs ++ (zeros (L.width * (n - length xs)) ++ r) → used L.mark l o L.width n ≡ length xs
  unfolding used rows chunk
  used_rows l r o zero [] h e = refl
  used_rows l r o (suc n) [] h e =
      let k : L.width * (suc n - 0) ≡ L.width + L.width * n = rw (sub-zero, mul-suc) (omega arith) in
      let f : drop o l ≡ zeros L.width ++ (zeros (L.width * n) ++ r) =
      e ∙ ap (λ (m : ℕ). zeros m ++ r) k ∙ ap (λ (z : List ℕ). z ++ r) (zeros_add L.width (L.width * n))
      ∙ append_assoc (zeros L.width) (zeros (L.width * n)) r in
      rw (f, L.unmarked)
  used_rows l r o zero (x ∷ xs) h e = absurd (omega arith)
  used_rows l r o (suc n) (x ∷ xs) h e =
      let z : List ℕ = zeros (L.width * (suc n - suc (length xs))) ++ r in
      let f : drop o l ≡ L.bytes x ++ (bytes_all xs ++ z) = first_row l z o x xs e in
      let g = drop_front l (L.bytes x) (bytes_all xs ++ z) o L.width f (L.sized x) in
      let k : suc n - suc (length xs) ≡ n - length xs = omega arith in
      let m : same_bytes (take 2 (drop o l)) L.mark ≡ true = rw (f, L.marked) in
      rw m (ap suc (used_rows l r (o + L.width) n xs (omega arith) (rw k at g)))

  -- they hold the records
  pub slots_rows : (l r : List ℕ) (b s : ℕ) (xs : List A) → every L.is_good xs ≡ true →
      drop (place b s) l ≡ bytes_all xs ++ r →
      slots_from (held_in l b) s (length xs) ≡ xs
  unfolding slots_from rows every
  slots_rows l r b s [] g e = refl
  slots_rows l r b s (x ∷ xs) g e =
      let p = and_true _ _ g in
      let c = row_slot l r (place b s) x xs e in
      cc (ap L.of c ∙ L.round x p.0, slots_rows l r b (suc s) xs p.1 (other_rows l r b s x xs e))

  -- they are in range
  pub range_rows : (l r : List ℕ) (b s : ℕ) (xs : List A) → every L.is_good xs ≡ true →
      drop (place b s) l ≡ bytes_all xs ++ r →
      every_slot (fine_in l b) s (length xs) ≡ true
  unfolding every_slot rows every
  range_rows l r b s [] g e = refl
  range_rows l r b s (x ∷ xs) g e =
      let p = and_true _ _ g in
      let c = row_slot l r (place b s) x xs e in
      simp (ap L.in_range c ∙ L.judged x p.0, range_rows l r b (suc s) xs p.1 (other_rows l r b s x xs e))

  -- the others are zero
  pub zero_rows : (l r : List ℕ) (b n : ℕ) (xs : List A) →
      drop b l ≡ bytes_all xs ++ (zeros n ++ r) → zero_at l (place b (length xs)) n ≡ true
  zero_rows l r b n xs e =
      let f = drop_front l (bytes_all xs) (zeros n ++ r) b (L.width * length xs) e (length_rows xs) in
      ap (all_are 0) (chunk_front l (zeros n) r _ n f (length_zeros n)) ∙ all_zeros n

  -- ---- read, then written

  -- no more slots are used than there are
  pub used_le : (l : List ℕ) (o n : ℕ) → used L.mark l o L.width n ≤ n
  unfolding used
  used_le l o zero = omega arith
  used_le l o (suc n) = go (marked_at l o L.mark) (used_le l (o + L.width) n)
    where
      go : (b : Bool) {k : ℕ} → k ≤ n → cond b (suc k) 0 ≤ suc n
      go true h = omega arith
      go false h = omega arith

  -- what slots in range hold is written as it stood
  pub rows_slots : (l : List ℕ) (b s n : ℕ) → Bytes l → place b (s + n) ≤ length l →
      every_slot (fine_in l b) s n ≡ true →
      bytes_all (slots_from (held_in l b) s n) ≡ chunk l (place b s) (L.width * n)
  unfolding every_slot slots_from rows chunk
  rows_slots l b s zero y h e = ap (λ (m : ℕ). chunk l (place b s) m) (sym (mul-zero L.width))
  rows_slots l b s (suc n) y h e =
      let p = and_true _ _ e in
      let o : ℕ = place b s in
      let w : ℕ = L.width in
      let f : o + w ≤ length l = omega (arith, last_slot b s n) in
      let one : L.bytes (held_in l b s) ≡ chunk l o w =
      L.back (slot_in l b s) (length_chunk l o w f) (bytes_chunk l o w y) p.0 in
      let rest = rows_slots l b (suc s) n y (rw suc-add (rw add-suc at h)) p.1 in
      let size : w * suc n ≡ w + w * n = rw mul-suc (omega arith) in
      ap (λ (z : List ℕ). z ++ bytes_all (slots_from (held_in l b) (suc s) n)) one
      ∙ ap (λ (z : List ℕ). chunk l o w ++ z) (rest ∙ ap (λ (k : ℕ). chunk l k (w * n)) (next_slot b s))
      ∙ sym (chunk_add l o w (w * n))
      ∙ ap (chunk l o) (sym size)

  -- what slots in range hold is in range
  pub good_slots : (l : List ℕ) (b s n : ℕ) → place b (s + n) ≤ length l →
      every_slot (fine_in l b) s n ≡ true →
      every L.is_good (slots_from (held_in l b) s n) ≡ true
  unfolding every_slot slots_from every
  good_slots l b s zero h e = refl
  good_slots l b s (suc n) h e =
      let p = and_true _ _ e in
      let f : place b s + L.width ≤ length l = omega (arith, last_slot b s n) in
      let rest = good_slots l b (suc s) n (rw suc-add (rw add-suc at h)) p.1 in
      simp (L.good (slot_in l b s) (length_chunk l (place b s) L.width f) p.0, rest)

  -- n slots from b on, the first u of them in range and the others zero
  pub padded_slots : (l : List ℕ) (b n u : ℕ) → Bytes l → place b n ≤ length l → u ≤ n →
      every_slot (fine_in l b) 0 u ≡ true →
      zero_at l (place b u) (L.width * (n - u)) ≡ true →
      padded (L.width * n) (bytes_all (slots_from (held_in l b) 0 u)) ≡ chunk l b (L.width * n)
  padded_slots l b n u y h m e z =
      let w : ℕ = L.width in
      let f : ℕ → A = held_in l b in
      let free : w * u + w * (n - u) ≡ w * n = sym (mul-add w u (n - u)) ∙ ap (λ (k : ℕ). w * k) (omega arith) in
      let at : w * n - length (bytes_all (slots_from f 0 u)) ≡ w * (n - u) =
      padding n (slots_from f 0 u) ∙ ap (λ (k : ℕ). w * (n - k)) (length_slots f 0 u) in
      let start : b + w * 0 ≡ b = rw mul-zero (add-zero b) in
      let row : bytes_all (slots_from f 0 u) ≡ chunk l b (w * u) =
      rows_slots l b 0 u y (rw zero-add (omega arith)) e ∙ ap (λ (o : ℕ). chunk l o (w * u)) start in
      ap (λ (k : ℕ). bytes_all (slots_from f 0 u) ++ zeros k) at
      ∙ ap (λ (r : List ℕ). r ++ zeros (w * (n - u))) row
      ∙ ap (λ (r : List ℕ). chunk l b (w * u) ++ r) (zeros_back l (b + w * u) (w * (n - u)) (omega arith) z)
      ∙ sym (chunk_add l b (w * u) (w * (n - u)))
      ∙ ap (chunk l b) free
