-- Slots as loops pass them: the first that passes a test, how many pass, and whether all do, with the step and the end of
-- each, and what they say of the lists of `document`. What the contracts of `table::find` cite. Assumes nothing.
use Rattle.std.specs.Prelude.{◌≡◌, refl, Bool, true, false, ◌&&◌, cond, List, ◌∷◌, ℕ, zero, suc, ◌+◌, ◌*◌, ◌-◌, ◌≤◌, ◌<◌, eqb, length, Option, Some, None}
use Rattle.std.specs.Bool.{⊤}
use Rattle.std.specs.Option.{MatchOption}
use Rattle.std.proofs.Common.{ap, sym, ◌∙◌, arith, mul-add, eqb-true}
use Rattle.std.proofs.Math.Option.{some, none}
use Rattle.std.proofs.lemmas.Bool.{eqb-false}
use Rattle.codec.specs.Bytes.{marked_at, u32_at}
use Rattle.codec.specs.Lists.{every, and_true}
use Rattle.names.specs.declared.Name.{Name}
use Rattle.names.specs.Names.{name_at}
use Rattle.records.specs.declared.head.Head.{Head}
use Rattle.records.specs.declared.entry.Entry.{Entry}
use Rattle.records.specs.Heads.{head_at, head_fields}
use Rattle.records.specs.Entries.{entry_at, entry_fields}
use Rattle.slots.specs.declared.replica.Replica.{Replica}
use Rattle.slots.specs.declared.listed.Listed.{Listed}
use Rattle.slots.specs.Replicas.{replica_fields}
use Rattle.slots.specs.Listings.{listed_fields}
use Rattle.document.specs.Tables.{first, has_id, is_key, entries_of, used, slots_from, every_slot, replica_slot, entry_slot, replica_in, entry_in}

-- the first of n slots from s on that passes
unfoldable pub first_slot : (ℕ → Bool) → ℕ → ℕ → Option ℕ
first_slot f s zero = None
first_slot f s (suc n) = cond (f s) (Some s) (first_slot f (suc s) n)

-- how many of n slots from s on pass
unfoldable pub count_slots : (ℕ → Bool) → ℕ → ℕ → ℕ
count_slots f s zero = 0
count_slots f s (suc n) = cond (f s) (suc (count_slots f (suc s) n)) (count_slots f (suc s) n)

abbrev pub first_replica : List ℕ → ℕ → ℕ → Option ℕ
first_replica l m id = first_slot (λ (s : ℕ). has_id id (replica_in l s)) 0 m

abbrev pub first_entry : List ℕ → ℕ → ℕ → ℕ → Name → Option ℕ
first_entry l k directory child name = first_slot (λ (s : ℕ). is_key directory child name (entry_in l s)) 0 k

abbrev pub is_listed_in : List ℕ → ℕ → ℕ → Bool
is_listed_in l directory s = eqb (entry_in l s).directory directory

abbrev pub entries_in : List ℕ → ℕ → ℕ → ℕ
entries_in l k directory = count_slots (is_listed_in l directory) 0 k

-- ---- a turn of a loop over i below n, and its end

pub used_step : (mark l : List ℕ) (o size n i : ℕ) → i < n →
    used mark l (o + size * i) size (n - i)
    ≡ cond (marked_at l (o + size * i) mark) (suc (used mark l (o + size * (i + 1)) size (n - (i + 1)))) 0
unfolding used
used_step mark l o size n i h =
    ap (used mark l (o + size * i) size) {x = n - i} {y = suc (n - (i + 1))} (omega arith)
    ∙ ap (λ (a : ℕ). cond (marked_at l (o + size * i) mark) (suc (used mark l a size (n - (i + 1)))) 0)
    {x = o + size * i + size} {y = o + size * (i + 1)} (omega (arith, mul-add size i 1))

pub used_none : (mark l : List ℕ) (o size n i : ℕ) → n ≤ i → used mark l o size (n - i) ≡ 0
unfolding used
used_none mark l o size n i h = ap (used mark l o size) {x = n - i} {y = 0} (omega arith)

pub first_step : (f : ℕ → Bool) (n i : ℕ) → i < n →
    first_slot f i (n - i) ≡ cond (f i) (Some i) (first_slot f (i + 1) (n - (i + 1)))
unfolding first_slot
first_step f n i h =
    ap (first_slot f i) {x = n - i} {y = suc (n - (i + 1))} (omega arith)
    ∙ ap (λ (j : ℕ). cond (f i) (Some i) (first_slot f j (n - (i + 1)))) {x = suc i} {y = i + 1} (omega arith)

pub first_none : (f : ℕ → Bool) (n i : ℕ) → n ≤ i → first_slot f i (n - i) ≡ None
unfolding first_slot
first_none f n i h = ap (first_slot f i) {x = n - i} {y = 0} (omega arith)

pub count_step : (f : ℕ → Bool) (n i : ℕ) → i < n →
    count_slots f i (n - i) ≡ cond (f i) (suc (count_slots f (i + 1) (n - (i + 1)))) (count_slots f (i + 1) (n - (i + 1)))
unfolding count_slots
count_step f n i h =
    ap (count_slots f i) {x = n - i} {y = suc (n - (i + 1))} (omega arith)
    ∙ ap (λ (j : ℕ). cond (f i) (suc (count_slots f j (n - (i + 1)))) (count_slots f j (n - (i + 1)))) {x = suc i} {y = i + 1}
    (omega arith)

pub count_none : (f : ℕ → Bool) (n i : ℕ) → n ≤ i → count_slots f i (n - i) ≡ 0
unfolding count_slots
count_none f n i h = ap (count_slots f i) {x = n - i} {y = 0} (omega arith)

pub slots_step : (f : ℕ → Bool) (n i : ℕ) → i < n → every_slot f i (n - i) ≡ (f i && every_slot f (i + 1) (n - (i + 1)))
unfolding every_slot
slots_step f n i h =
    ap (every_slot f i) {x = n - i} {y = suc (n - (i + 1))} (omega arith)
    ∙ ap (λ (j : ℕ). f i && every_slot f j (n - (i + 1))) {x = suc i} {y = i + 1} (omega arith)

pub slots_none : (f : ℕ → Bool) (n i : ℕ) → n ≤ i → every_slot f i (n - i) ≡ true
unfolding every_slot
slots_none f n i h = ap (every_slot f i) {x = n - i} {y = 0} (omega arith)

-- where every slot passes, each does
pub slots_get : (f : ℕ → Bool) (s n : ℕ) → every_slot f s n ≡ true → (i : ℕ) → s ≤ i → i < s + n → f i ≡ true
unfolding every_slot
slots_get f s zero e i p q = absurd (omega arith)
slots_get f s (suc n) e i p q =
    let here = and_true (f s) (every_slot f (suc s) n) e in go (eqb s i) refl here.0 (slots_get f (suc s) n here.1 i)
  where
    go : (b : Bool) → eqb s i ≡ b → f s ≡ true → (suc s ≤ i → i < suc s + n → f i ≡ true) → f i ≡ true
    go true z e ih = ap f (sym (eqb-true s i z)) ∙ e
    go false z e ih = let d = eqb-false s i z in ih (omega arith) (omega arith)

-- ---- fields, read in place

pub id_at : (l : List ℕ) (s : ℕ) → (replica_in l s).head.id ≡ u32_at l (replica_slot s + 4)
id_at l s =
    ap (λ (r : Replica). r.head.id) (replica_fields l (replica_slot s)) ∙ ap (λ (h : Head). h.id) (head_fields l (replica_slot s))

pub head_at_law : (l : List ℕ) (s : ℕ) → (replica_in l s).head ≡ head_at l (replica_slot s)
head_at_law l s = ap (λ (r : Replica). r.head) (replica_fields l (replica_slot s))

pub directory_at : (l : List ℕ) (s : ℕ) → (entry_in l s).directory ≡ u32_at l (entry_slot s + 32)
directory_at l s = ap (λ (x : Listed). x.directory) (listed_fields l (entry_slot s))

pub entry_at_law : (l : List ℕ) (s : ℕ) → (entry_in l s).entry ≡ entry_at l (entry_slot s)
entry_at_law l s = ap (λ (x : Listed). x.entry) (listed_fields l (entry_slot s))

pub child_at : (l : List ℕ) (s : ℕ) → (entry_in l s).entry.child ≡ u32_at l (entry_slot s + 4)
child_at l s =
    ap (λ (x : Listed). x.entry.child) (listed_fields l (entry_slot s)) ∙ ap (λ (e : Entry). e.child) (entry_fields l (entry_slot s))

pub name_at_law : (l : List ℕ) (s : ℕ) → (entry_in l s).entry.name ≡ name_at l (entry_slot s + 16)
name_at_law l s =
    ap (λ (x : Listed). x.entry.name) (listed_fields l (entry_slot s)) ∙ ap (λ (e : Entry). e.name) (entry_fields l (entry_slot s))

-- ---- what the slots say of the lists

pub every_slots : {A : Type 0} (f : A → Bool) (g : ℕ → A) (s n : ℕ) → every f (slots_from g s n) ≡ every_slot (λ (i : ℕ). f (g i)) s n
unfolding every slots_from every_slot
every_slots f g s zero = refl
every_slots f g s (suc n) = ap (λ (b : Bool). f (g s) && b) (every_slots f g (suc s) n)

pub entries_count : (l : List ℕ) (directory s k : ℕ) →
    length (entries_of directory (slots_from (entry_in l) s k)) ≡ count_slots (is_listed_in l directory) s k
unfolding entries_of slots_from count_slots
entries_count l directory s zero = refl
entries_count l directory s (suc k) = go (is_listed_in l directory s) (entries_count l directory (suc s) k)
  where
    go : (b : Bool) → length (entries_of directory (slots_from (entry_in l) (suc s) k)) ≡ count_slots (is_listed_in l directory) (suc s) k →
        length (cond b ((entry_in l s).entry ∷ entries_of directory (slots_from (entry_in l) (suc s) k)) (entries_of directory (slots_from (entry_in l) (suc s) k)))
        ≡ cond b (suc (count_slots (is_listed_in l directory) (suc s) k)) (count_slots (is_listed_in l directory) (suc s) k)
    go true e = ap suc e
    go false e = e

-- the slot that was found is one of them, and what stands there is what the list has first
pub found_slot : {A : Type 0} (f : A → Bool) (g : ℕ → A) (s n i : ℕ) → first_slot (λ (k : ℕ). f (g k)) s n ≡ Some i →
    (s ≤ i) × (i < s + n) × (first f (slots_from g s n) ≡ some (g i))
unfolding first_slot first slots_from
found_slot f g s zero i e = let z : ◌≡◌ {A = ℕ} 0 1 = cc in absurd (omega arith)
found_slot f g s (suc n) i e = go (f (g s)) e (found_slot f g (suc s) n i)
  where
    go : (b : Bool) → cond b (Some s) (first_slot (λ (k : ℕ). f (g k)) (suc s) n) ≡ Some i →
        (first_slot (λ (k : ℕ). f (g k)) (suc s) n ≡ Some i → (suc s ≤ i) × (i < suc s + n) × (first f (slots_from g (suc s) n) ≡ some (g i))) →
        (s ≤ i) × (i < s + suc n) × (cond b (some (g s)) (first f (slots_from g (suc s) n)) ≡ some (g i))
    go true p ih = let q : s ≡ i = cc in (omega arith, omega arith, ap (λ (j : ℕ). some (g j)) q)
    go false p ih = let r = ih p in (omega arith, omega arith, r.2)

pub no_slot : {A : Type 0} (f : A → Bool) (g : ℕ → A) (s n : ℕ) → first_slot (λ (k : ℕ). f (g k)) s n ≡ None →
    first f (slots_from g s n) ≡ none
unfolding first_slot first slots_from
no_slot f g s zero e = refl
no_slot f g s (suc n) e = go (f (g s)) e (no_slot f g (suc s) n)
  where
    go : (b : Bool) → cond b (Some s) (first_slot (λ (k : ℕ). f (g k)) (suc s) n) ≡ None →
        (first_slot (λ (k : ℕ). f (g k)) (suc s) n ≡ None → first f (slots_from g (suc s) n) ≡ none) →
        cond b (some (g s)) (first f (slots_from g (suc s) n)) ≡ none
    go true p ih = let z : ◌≡◌ {A = ℕ} 0 1 = cc in absurd (omega arith)
    go false p ih = ih p

-- the slot that was found is one of n
pub found_within : (f : ℕ → Bool) (n : ℕ) (o : Option ℕ) → o ≡ first_slot f 0 n → MatchOption o ⊤ (λ i. i < n)
found_within f n None e = tt
found_within f n (Some i) e = omega (arith, (found_slot f (λ k. k) 0 n i (sym e)).1)
