-- The bytes of a table after a write: the header, a used slot, the next slot, or the pending set in a replica slot.
-- Each law says which table's bytes they then are. Assumes nothing.
use Rattle.std.proofs.Math.Path.{◌≡◌, ap}
use Rattle.std.specs.Prelude.{refl, Bool, length, take, drop, Some}
use Rattle.std.proofs.Common.{sym, ◌∙◌, add_assoc, add-zero, zero-add, mul-zero, mul-suc, mul-le-mul_left, arith, length-append, length-set, take-append-drop, drop_at, drop-drop, length-take-le}
use Rattle.std.proofs.Math.Bool.{true, false, cond}
use Rattle.std.proofs.Math.Option.{Option, some, none}
use mathlib.Core.List.{List, [], ◌∷◌, ◌++◌, append_assoc, append-nil}
use Prim.Native.Nat.{ℕ, zero, suc, ◌+◌, ◌*◌, ◌-◌, ◌≤◌, ◌<◌}
use Rattle.std.proofs.Math.ListN.{set}
use Rattle.std.proofs.lemmas.List.{take-append-le, drop-append-le}
use Rattle.std.proofs.Math.Seq.{take-append-add, drop-append-add}
use Rattle.codec.specs.Bytes.{chunk, splice, bytes_of, zeros}
use Rattle.codec.specs.Laws.{length_chunk, length_splice, drop_zeros}
use Rattle.records.specs.declared.head.Head.{Head}
use Rattle.records.specs.Heads.{head_bytes, length_head_bytes}
use Rattle.slots.specs.declared.replica.Replica.{Replica}
use Rattle.slots.specs.declared.listed.Listed.{Listed}
use Rattle.slots.specs.TableHeaders.{table_header_bytes, length_table_header_bytes}
use Rattle.slots.specs.Replicas.{replica_bytes, length_replica_bytes}
use Rattle.slots.specs.Listings.{listed_bytes}
use Rattle.document.specs.Layouts.{replica_layout, listed_layout}
use Rattle.document.specs.Steps.{renewed}
use Rattle.document.specs.Tables.{Table, slots_from, with_replicas, with_entries, header_of, rows, padded, table_bytes, replica_slot, entry_slot, replicas_used, entries_used, replica_in, table_of, first}
use Rattle.document.specs.Rows.{Layout, length_rows, length_padded}
use Rattle.document.specs.Reading.{few_replicas}
use Rattle.table.specs.Slots.{first_slot, found_slot}
use Rattle.steps.specs.Standing.{Stands, replicas_held, entries_held, replica_bytes_law}

-- ---- a splice of a string in two parts: in the first, and in the second

pub splice_left : (a b : List ℕ) (o : ℕ) (vs : List ℕ) → o + length vs ≤ length a →
    splice (a ++ b) o vs ≡ splice a o vs ++ b
unfolding splice
splice_left a b o vs h =
    ap (λ (r : List ℕ). r ++ (vs ++ drop (o + length vs) (a ++ b))) (take-append-le o a b (omega arith))
    ∙ ap (λ (r : List ℕ). take o a ++ (vs ++ r)) (drop-append-le (o + length vs) a b h)
    ∙ simp append_assoc

pub splice_right : (a b : List ℕ) (n o : ℕ) (vs : List ℕ) → length a ≡ n →
    splice (a ++ b) (n + o) vs ≡ a ++ splice b o vs
unfolding splice
splice_right a b n o vs e =
    ap (λ (m : ℕ). splice (a ++ b) (m + o) vs) (sym e)
    ∙ ap (λ (r : List ℕ). r ++ (vs ++ drop (length a + o + length vs) (a ++ b))) (take-append-add a b o)
    ∙ ap (λ (m : ℕ). (a ++ take o b) ++ (vs ++ drop m (a ++ b))) (add_assoc (length a) o (length vs))
    ∙ ap (λ (r : List ℕ). (a ++ take o b) ++ (vs ++ r)) (drop-append-add a b (o + length vs))
    ∙ append_assoc a (take o b) (vs ++ drop (o + length vs) b)

-- a splice within a part of n bytes is a splice of that part
pub splice_within : (l : List ℕ) (o n k : ℕ) (vs : List ℕ) → k + length vs ≤ n → o + n ≤ length l →
    splice l (o + k) vs ≡ splice l o (splice (chunk l o n) k vs)
unfolding splice chunk
splice_within l o n k vs h f =
    let c : List ℕ = chunk l o n in
    let d : List ℕ = drop (o + n) l in
    let size : length c ≡ n = length_chunk l o n f in
    let same : length (splice c k vs) ≡ n = length_splice c k vs (omega arith) ∙ size in
    let rest : c ++ d ≡ drop o l =
    ap (λ (r : List ℕ). c ++ r) (sym (drop-drop n o l)) ∙ take-append-drop n (drop o l) in
    let whole : take o l ++ (c ++ d) ≡ l = ap (λ (r : List ℕ). take o l ++ r) rest ∙ take-append-drop o l in
    ap (λ (r : List ℕ). splice r (o + k) vs) (sym whole)
    ∙ splice_right (take o l) (c ++ d) o k vs (length-take-le o l (omega arith))
    ∙ ap (λ (r : List ℕ). take o l ++ r) (splice_left c d k vs (omega arith))
    ∙ ap (λ (m : ℕ). take o l ++ (splice c k vs ++ drop (o + m) l)) (sym same)

-- ---- one slot of many

pub rows_set : {A : Type 0} (L : Layout A) (xs : List A) (i : ℕ) (x : A) → i < length xs →
    splice (rows L.bytes xs) (L.width * i) (L.bytes x) ≡ rows L.bytes (set xs i x)
unfolding rows splice
rows_set L [] i x h = absurd (omega arith)
rows_set L (y ∷ ys) zero x h =
    let size : 0 + length (L.bytes x) ≡ L.width = omega (arith, L.sized x) in
    ap (λ (o : ℕ). splice (L.bytes y ++ rows L.bytes ys) o (L.bytes x)) (mul-zero L.width)
    ∙ ap (λ (o : ℕ). L.bytes x ++ drop o (L.bytes y ++ rows L.bytes ys)) size
    ∙ ap (λ (r : List ℕ). L.bytes x ++ r) (drop_at (L.bytes y) (rows L.bytes ys) L.width (L.sized y))
rows_set L (y ∷ ys) (suc i) x h =
    let next : L.width * suc i ≡ L.width + L.width * i = rw mul-suc (omega arith) in
    ap (λ (o : ℕ). splice (L.bytes y ++ rows L.bytes ys) o (L.bytes x)) next
    ∙ splice_right (L.bytes y) (rows L.bytes ys) L.width (L.width * i) (L.bytes x) (L.sized y)
    ∙ ap (λ (r : List ℕ). L.bytes y ++ r) (rows_set L ys i x (omega arith))

-- slot i is one of them
room : {A : Type 0} (L : Layout A) (xs : List A) (i : ℕ) (x : A) → i < length xs →
    L.width * i + length (L.bytes x) ≤ length (rows L.bytes xs)
room L xs i x h =
    let next : L.width * suc i ≡ L.width * i + L.width = mul-suc L.width i in
    let most : suc i ≤ length xs = omega arith in
    omega (arith, length_rows L xs, L.sized x, mul-le-mul_left L.width most)

-- the slots' bytes, used and free
padded_set : {A : Type 0} (L : Layout A) (n : ℕ) (xs : List A) (i : ℕ) (x : A) → i < length xs →
    splice (padded n (rows L.bytes xs)) (L.width * i) (L.bytes x) ≡ padded n (rows L.bytes (set xs i x))
padded_set L n xs i x h =
    let size : length (rows L.bytes (set xs i x)) ≡ length (rows L.bytes xs) =
    length_rows L (set xs i x) ∙ ap (λ (k : ℕ). L.width * k) (length-set xs i x) ∙ sym (length_rows L xs) in
    splice_left (rows L.bytes xs) _ (L.width * i) (L.bytes x) (room L xs i x h)
    ∙ ap (λ (r : List ℕ). r ++ zeros (n - length (rows L.bytes xs))) (rows_set L xs i x h)
    ∙ ap (λ (k : ℕ). rows L.bytes (set xs i x) ++ zeros (n - k)) (sym size)

-- the next slot: one record more
rows_add : {A : Type 0} (L : Layout A) (xs : List A) (x : A) →
    rows L.bytes (xs ++ (x ∷ [])) ≡ rows L.bytes xs ++ L.bytes x
unfolding rows
rows_add L [] x = append-nil (L.bytes x)
rows_add L (y ∷ ys) x =
    ap (λ (r : List ℕ). L.bytes y ++ r) (rows_add L ys x)
    ∙ sym (append_assoc (L.bytes y) (rows L.bytes ys) (L.bytes x))

padded_add : {A : Type 0} (L : Layout A) (n : ℕ) (xs : List A) (x : A) → length xs < n →
    splice (padded (L.width * n) (rows L.bytes xs)) (L.width * length xs) (L.bytes x)
    ≡ padded (L.width * n) (rows L.bytes (xs ++ (x ∷ [])))
unfolding splice
padded_add L n xs x h =
    let w : ℕ = L.width in
    let r : List ℕ = rows L.bytes xs in
    let k : ℕ = w * n - length r in
    let v : List ℕ = L.bytes x in
    let more : length (rows L.bytes (xs ++ (x ∷ []))) ≡ length r + length v =
    ap length (rows_add L xs x) ∙ length-append r v in
    let most : suc (length xs) ≤ n = omega arith in
    let fits : length v ≤ k =
    omega (arith, length_rows L xs, L.sized x, mul-suc w (length xs), mul-le-mul_left w most) in
    let free : k - (0 + length v) ≡ w * n - length (rows L.bytes (xs ++ (x ∷ []))) = omega arith in
    ap (λ (o : ℕ). splice (r ++ zeros k) o v) (sym (add-zero (w * length xs)))
    ∙ splice_right r (zeros k) (w * length xs) 0 v (length_rows L xs)
    ∙ ap (λ (z : List ℕ). r ++ (v ++ z)) (drop_zeros k (0 + length v) ∙ ap zeros free)
    ∙ sym (append_assoc r v _)
    ∙ ap (λ (z : List ℕ). z ++ zeros (w * n - length (rows L.bytes (xs ++ (x ∷ []))))) (sym (rows_add L xs x))

-- ---- the header, or one slot, of a table

-- the header, rewritten: the table u differs from t in nothing else
pub header_rewritten : (t u : Table) → u.replicas ≡ t.replicas → u.entries ≡ t.entries →
    splice (table_bytes t) 0 (table_header_bytes (header_of u)) ≡ table_bytes u
unfolding table_bytes splice
header_rewritten t u p q =
    let old : List ℕ = table_header_bytes (header_of t) in
    let new : List ℕ = table_header_bytes (header_of u) in
    let part : List ℕ = padded 3072 (rows replica_bytes u.replicas) in
    let rest : List ℕ = padded 10240 (rows listed_bytes t.entries) in
    let size : length old ≡ 0 + length new =
    length_table_header_bytes (header_of t) ∙ sym (length_table_header_bytes (header_of u)) ∙ sym (zero-add (length new)) in
    ap (λ (r : List ℕ). new ++ r) (drop_at old _ (0 + length new) size)
    ∙ ap (λ (rs : List Replica). new ++ (padded 3072 (rows replica_bytes rs) ++ rest)) (sym p)
    ∙ ap (λ (xs : List Listed). new ++ (part ++ padded 10240 (rows listed_bytes xs))) (sym q)

-- replica slot i, rewritten
pub replica_rewritten : (t : Table) (i : ℕ) (r : Replica) → i < length t.replicas →
    splice (table_bytes t) (replica_slot i) (replica_bytes r) ≡ table_bytes (with_replicas t (set t.replicas i r))
unfolding table_bytes
replica_rewritten t i r h =
    splice_right (table_header_bytes (header_of t)) _ 32 (48 * i) (replica_bytes r) (length_table_header_bytes (header_of t))
    ∙ ap (λ (l : List ℕ). table_header_bytes (header_of t) ++ l)
    (splice_left (padded 3072 (rows replica_bytes t.replicas)) (padded 10240 (rows listed_bytes t.entries)) (48 * i)
    (replica_bytes r)
    (simp length-append (omega (arith, room (replica_layout 0 (omega arith)) t.replicas i r h)))
    ∙ ap (λ (l : List ℕ). l ++ padded 10240 (rows listed_bytes t.entries))
    (padded_set (replica_layout 0 (omega arith)) 3072 t.replicas i r h))

-- the next replica slot, written
pub replica_added : (t : Table) (r : Replica) → length t.replicas < 64 →
    splice (table_bytes t) (replica_slot (length t.replicas)) (replica_bytes r)
    ≡ table_bytes (with_replicas t (t.replicas ++ (r ∷ [])))
unfolding table_bytes
replica_added t r h =
    let part : List ℕ = padded 3072 (rows replica_bytes t.replicas) in
    let size : length part ≡ 3072 = length_padded (replica_layout 0 (omega arith)) 64 t.replicas (omega arith) in
    let o : ℕ = 48 * length t.replicas in
    splice_right (table_header_bytes (header_of t)) _ 32 o (replica_bytes r) (length_table_header_bytes (header_of t))
    ∙ ap (λ (l : List ℕ). table_header_bytes (header_of t) ++ l)
    (splice_left part (padded 10240 (rows listed_bytes t.entries)) o (replica_bytes r)
    (omega (arith, length_replica_bytes r))
    ∙ ap (λ (l : List ℕ). l ++ padded 10240 (rows listed_bytes t.entries))
    (padded_add (replica_layout 0 (omega arith)) 64 t.replicas r h))

-- the next entry slot, written
pub listed_added : (t : Table) (x : Listed) → length t.replicas ≤ 64 → length t.entries < 256 →
    splice (table_bytes t) (entry_slot (length t.entries)) (listed_bytes x)
    ≡ table_bytes (with_entries t (t.entries ++ (x ∷ [])))
unfolding table_bytes
listed_added t x few h =
    let part : List ℕ = padded 3072 (rows replica_bytes t.replicas) in
    let size : length part ≡ 3072 = length_padded (replica_layout 0 (omega arith)) 64 t.replicas few in
    let o : ℕ = 40 * length t.entries in
    ap (λ (k : ℕ). splice (table_bytes t) k (listed_bytes x)) {x = 3104 + o} {y = 32 + (3072 + o)} (omega arith)
    ∙ splice_right (table_header_bytes (header_of t)) _ 32 (3072 + o) (listed_bytes x)
    (length_table_header_bytes (header_of t))
    ∙ ap (λ (l : List ℕ). table_header_bytes (header_of t) ++ l)
    (splice_right part (padded 10240 (rows listed_bytes t.entries)) 3072 o (listed_bytes x) size
    ∙ ap (λ (l : List ℕ). part ++ l) (padded_add (listed_layout 0 (omega arith)) 256 t.entries x h))

-- entry slot i, rewritten
pub listed_rewritten : (t : Table) (i : ℕ) (x : Listed) → length t.replicas ≤ 64 → i < length t.entries →
    splice (table_bytes t) (entry_slot i) (listed_bytes x) ≡ table_bytes (with_entries t (set t.entries i x))
unfolding table_bytes
listed_rewritten t i x few h =
    let part : List ℕ = padded 3072 (rows replica_bytes t.replicas) in
    let size : length part ≡ 3072 = length_padded (replica_layout 0 (omega arith)) 64 t.replicas few in
    ap (λ (o : ℕ). splice (table_bytes t) o (listed_bytes x)) {x = 3104 + 40 * i} {y = 32 + (3072 + 40 * i)} (omega arith)
    ∙ splice_right (table_header_bytes (header_of t)) _ 32 (3072 + 40 * i) (listed_bytes x)
    (length_table_header_bytes (header_of t))
    ∙ ap (λ (l : List ℕ). table_header_bytes (header_of t) ++ l)
    (splice_right part (padded 10240 (rows listed_bytes t.entries)) 3072 (40 * i) (listed_bytes x) size
    ∙ ap (λ (l : List ℕ). part ++ l) (padded_set (listed_layout 0 (omega arith)) 10240 t.entries i x h))

-- ---- one slot of bytes that are a table

-- the pending set is one byte of a replica's bytes
abbrev pub with_pending : Replica → ℕ → Replica
with_pending r p = record { head = r.head; version = r.version; pending = p }

pending_byte : (r : Replica) (p : ℕ) →
    splice (replica_bytes r) 44 (p ∷ []) ≡ replica_bytes (with_pending r p)
unfolding replica_bytes head_bytes bytes_of splice
pending_byte r p = refl

head_part : (r : Replica) (h : Head) → splice (replica_bytes r) 0 (head_bytes h) ≡ replica_bytes (renewed h r)
unfolding replica_bytes head_bytes bytes_of splice
head_part r h = refl

module _ {l : List ℕ} (k : Stands l) where
  -- replica slot i is rewritten
  pub slot_rewritten : (i : ℕ) (r : Replica) → i < replicas_used l →
      splice l (replica_slot i) (replica_bytes r) ≡ table_bytes (with_replicas (table_of l) (set (table_of l).replicas i r))
  slot_rewritten i r h =
      ap (λ (z : List ℕ). splice z (replica_slot i) (replica_bytes r)) k.bytes
      ∙ replica_rewritten (table_of l) i r (omega (arith, replicas_held l))

  -- entry slot i is rewritten
  pub entry_rewritten : (i : ℕ) (x : Listed) → i < entries_used l →
      splice l (entry_slot i) (listed_bytes x) ≡ table_bytes (with_entries (table_of l) (set (table_of l).entries i x))
  entry_rewritten i x h =
      ap (λ (z : List ℕ). splice z (entry_slot i) (listed_bytes x)) k.bytes
      ∙ listed_rewritten (table_of l) i x (omega (arith, replicas_held l, few_replicas l)) (omega (arith, entries_held l))

  -- a part of replica slot i is rewritten
  part_rewritten : (i o : ℕ) (vs : List ℕ) (r : Replica) → i < replicas_used l → o + length vs ≤ 48 →
      splice (replica_bytes (replica_in l i)) o vs ≡ replica_bytes r →
      splice l (replica_slot i + o) vs ≡ table_bytes (with_replicas (table_of l) (set (table_of l).replicas i r))
  part_rewritten i o vs r h f e =
      splice_within l (replica_slot i) 48 o vs f (omega (arith, k.size, few_replicas l))
      ∙ ap (λ (c : List ℕ). splice l (replica_slot i) (splice c o vs)) (replica_bytes_law k i h)
      ∙ ap (splice l (replica_slot i)) e
      ∙ slot_rewritten i r h

  -- its pending set is rewritten
  pub pending_rewritten : (i p : ℕ) → i < replicas_used l →
      splice l (replica_slot i + 44) (p ∷ [])
      ≡ table_bytes (with_replicas (table_of l) (set (table_of l).replicas i (with_pending (replica_in l i) p)))
  pending_rewritten i p h =
      part_rewritten i 44 (p ∷ []) (with_pending (replica_in l i) p) h (omega arith) (pending_byte (replica_in l i) p)

  -- its head is rewritten
  pub head_rewritten : (i : ℕ) (g : Head) → i < replicas_used l →
      splice l (replica_slot i) (head_bytes g)
      ≡ table_bytes (with_replicas (table_of l) (set (table_of l).replicas i (renewed g (replica_in l i))))
  head_rewritten i g h =
      ap (λ (o : ℕ). splice l o (head_bytes g)) (sym (add-zero (replica_slot i)))
      ∙ part_rewritten i 0 (head_bytes g) (renewed g (replica_in l i)) h (omega (arith, length_head_bytes g))
      (head_part (replica_in l i) g)

-- ---- a list in which the first element that passes is changed, or which gets one more where none passes

module _ {A : Type 0} (test : A → Bool) (change : A → A) (new : A) (into : List A → List A) (last : into [] ≡ new ∷ [])
    (step : (y : A) (ys : List A) → into (y ∷ ys) ≡ cond (test y) (change y ∷ ys) (y ∷ into ys)) where
  pub into_none : (xs : List A) → first test xs ≡ none → into xs ≡ xs ++ (new ∷ [])
  unfolding first
  into_none [] e = last
  into_none (y ∷ ys) e = step y ys ∙ go (test y) e (into_none ys)
    where
      go : (b : Bool) → ◌≡◌ {A = Option A} (cond b (some y) (first test ys)) none →
          (first test ys ≡ none → into ys ≡ ys ++ (new ∷ [])) →
          cond b (change y ∷ ys) (y ∷ into ys) ≡ y ∷ (ys ++ (new ∷ []))
      go true q ih = let z : ◌≡◌ {A = ℕ} 0 1 = cc in absurd (omega arith)
      go false q ih = ap (λ (z : List A). y ∷ z) (ih q)

  -- where they are slots, and one was found
  pub into_found : (g : ℕ → A) (s n i : ℕ) → first_slot (λ (k : ℕ). test (g k)) s n ≡ Some i →
      into (slots_from g s n) ≡ set (slots_from g s n) (i - s) (change (g i))
  unfolding first_slot slots_from
  into_found g s zero i e = let z : ◌≡◌ {A = ℕ} 0 1 = cc in absurd (omega arith)
  into_found g s (suc n) i e =
      step (g s) (slots_from g (suc s) n)
      ∙ go (test (g s)) e (λ f. (found_slot test g (suc s) n i f).0) (into_found g (suc s) n i)
    where
      go : (b : Bool) → cond b (Some s) (first_slot (λ (k : ℕ). test (g k)) (suc s) n) ≡ Some i →
          (first_slot (λ (k : ℕ). test (g k)) (suc s) n ≡ Some i → suc s ≤ i) →
          (first_slot (λ (k : ℕ). test (g k)) (suc s) n ≡ Some i →
          into (slots_from g (suc s) n) ≡ set (slots_from g (suc s) n) (i - suc s) (change (g i))) →
          cond b (change (g s) ∷ slots_from g (suc s) n) (g s ∷ into (slots_from g (suc s) n))
          ≡ set (g s ∷ slots_from g (suc s) n) (i - s) (change (g i))
      go true f low ih =
          let same : s ≡ i = cc in
          ap (λ (k : ℕ). change (g k) ∷ slots_from g (suc s) n) same
          ∙ ap (λ (k : ℕ). set (g s ∷ slots_from g (suc s) n) k (change (g i))) {x = 0} {y = i - s} (omega arith)
      go false f low ih =
          let least = low f in
          ap (λ (r : List A). g s ∷ r) (ih f)
          ∙ ap (λ (k : ℕ). set (g s ∷ slots_from g (suc s) n) k (change (g i))) {x = suc (i - suc s)} {y = i - s}
          (omega arith)
