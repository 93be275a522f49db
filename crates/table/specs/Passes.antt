-- A pass over slots by a method of the library: what `all`, `find`, `count` and `take_while` over a range of slots answer,
-- where the closure computes a test of a slot. What the proofs of `table` cite. Assumes nothing.
use Rattle.std.specs.Prelude.{◌≡◌, refl, Bool, true, false, ◌&&◌, cond, List, ◌∷◌, ℕ, zero, suc, ◌+◌, ◌*◌, ◌-◌, ◌≤◌, length, Option, Some}
use Rattle.std.proofs.Common.{ap, sym, ◌∙◌, arith, mul-add}
use Rattle.std.specs.List.{range_with_len, list_all, find, filter, prefix_len}
use Rattle.std.proofs.lemmas.List.Folds.{length-prefix_len}
use Rattle.std.proofs.iter.Yields.{nat_range_steps}
use Rattle.std.proofs.lemmas.Iterator.{YieldsList-from_range}
use Rattle.std.proofs.lemmas.Iterator.Consumers.{YieldsList-from_filter, count_from_yields_List}
use Rattle.std.proofs.lemmas.Iterator.Search.{all_from_yields_List, find_from_yields_List, YieldsList-from_take_while}
use Rattle.std.proofs.lemmas.Iterator.Adapters.{option_map_id}
use Rattle.std.specs.Bool.{⊤}
use Rattle.std.specs.Fn.{Called, CalledAt}
use Rattle.std.specs.Iterator.{YieldsThen, Drains}
use Rattle.std.specs.Iterator.Adapters.{filter_source, filter_callee, filter_steps, take_while_source, take_while_done, take_while_callee, take_while_steps}
use Rattle.std.specs.List.{FoldsTo}
use Rattle.std.specs.Option.{MatchOption}
use Rattle.std.specs.declared.ops.Range.{Range}
use Rattle.std.specs.declared.iter.TakeWhile.{TakeWhile}
use Rattle.std.specs.declared.iter.Filter.{Filter}
use denote.Param.Members.{Mut}
use denote.Ref.{Bor}
use Rattle.codec.specs.Bytes.{marked_at}
use Rattle.document.specs.Tables.{every_slot, used}
use Rattle.table.specs.Slots.{first_slot, count_slots}

-- ---- the numbers of a range, and the slots of the same numbers

pub every_range : (f : ℕ → Bool) (s n : ℕ) → list_all f (range_with_len s n) ≡ every_slot f s n
unfolding every_slot
every_range f s zero = refl
every_range f s (suc n) =
    ap (λ (b : Bool). f s && b) (ap (λ (j : ℕ). list_all f (range_with_len j n)) {x = s + 1} {y = suc s} (omega arith) ∙ every_range f (suc s) n)

pub first_range : (f : ℕ → Bool) (s n : ℕ) → find f (range_with_len s n) ≡ first_slot f s n
unfolding first_slot
first_range f s zero = refl
first_range f s (suc n) =
    ap (λ (o : Option ℕ). cond (f s) (Some s) o)
    (ap (λ (j : ℕ). find f (range_with_len j n)) {x = s + 1} {y = suc s} (omega arith) ∙ first_range f (suc s) n)

pub count_range : (f : ℕ → Bool) (s n : ℕ) → length (filter f (range_with_len s n)) ≡ count_slots f s n
unfolding count_slots
count_range f s zero = refl
count_range f s (suc n) =
    go (f s) (ap (λ (j : ℕ). length (filter f (range_with_len j n))) {x = s + 1} {y = suc s} (omega arith) ∙ count_range f (suc s) n)
  where
    go : (b : Bool) → length (filter f (range_with_len (s + 1) n)) ≡ count_slots f (suc s) n →
        length (cond b (s ∷ filter f (range_with_len (s + 1) n)) (filter f (range_with_len (s + 1) n)))
        ≡ cond b (suc (count_slots f (suc s) n)) (count_slots f (suc s) n)
    go true e = ap suc e
    go false e = e

-- the leading slots of that size from o on that start with the mark
pub used_range : (mark l : List ℕ) (o size s n : ℕ) →
    prefix_len (λ (i : ℕ). marked_at l (o + size * i) mark) (range_with_len s n) ≡ used mark l (o + size * s) size n
unfolding used
used_range mark l o size s zero = refl
used_range mark l o size s (suc n) =
    let more = used_range mark l o size (s + 1) n ∙ ap (λ (a : ℕ). used mark l a size n) {x = o + size * (s + 1)} {y = o + size * s + size} (omega (arith, mul-add size s 1)) in
    ap (λ (a : ℕ). cond (marked_at l (o + size * s) mark) a 0)
    {x = 1 + prefix_len (λ (i : ℕ). marked_at l (o + size * i) mark) (range_with_len (s + 1) n)}
    {y = suc (used mark l (o + size * s + size) size n)}
    (omega (arith, more))

pub used_most : (mark l : List ℕ) (o size n : ℕ) → used mark l o size n ≤ n
unfolding used
used_most mark l o size zero = omega arith
used_most mark l o size (suc n) = go (marked_at l o mark) (used_most mark l (o + size) size n)
  where
    go : (b : Bool) → used mark l (o + size) size n ≤ n → cond b (suc (used mark l (o + size) size n)) 0 ≤ suc n
    go true h = omega arith
    go false h = omega arith

-- ---- what a pass over the slots of a range answers

module _ {F : Type 0} (f : ℕ → Bool) where
  pub every_ran : {g : Mut F (ℕ × Unit {0}) Bool} (s u : Range ℕ) (c : F) (r : Bool) (n : ℕ) →
      (xs : List ℕ) × (o : Option ℕ) × (j : F) × YieldsThen nat_range_steps s xs o u × FoldsTo (λ p x q. Called g p (x, tt) true q) c xs j × MatchOption o (r ≡ true) (λ x. (r ≡ false) × ((h : F) × Called g j (x, tt) false h)) →
      s.end - s.start ≡ n → ((x : ℕ) (b : Bool) (q : F) → Called g c (x, tt) b q → (q ≡ c) × (b ≡ f x)) → r ≡ every_slot f s.start n
  every_ran s u c r n ran e is =
      all_from_yields_List f u c r ran (YieldsList-from_range s.start s.end n refl e) is ∙ every_range f s.start n

  pub first_ran : {g : Mut F (Bor ℕ × Unit {0}) Bool} (s u : Range ℕ) (c : F) (r : Option ℕ) (n : ℕ) →
      (xs : List ℕ) × (j : F) × YieldsThen nat_range_steps s xs r u × FoldsTo (λ p x q. CalledAt g p x false q) c xs j × MatchOption r ⊤ (λ x. (h : F) × CalledAt g j x true h) →
      s.end - s.start ≡ n → ((x : ℕ) (b : Bool) (q : F) → CalledAt g c x b q → (q ≡ c) × (b ≡ f x)) → r ≡ first_slot f s.start n
  first_ran s u c r n ran e is =
      sym (option_map_id r) ∙ find_from_yields_List f u c r ran (YieldsList-from_range s.start s.end n refl e) is ∙ first_range f s.start n

  pub count_ran : {g : Mut F (Bor ℕ × Unit {0}) Bool} (s : Filter (Range ℕ) F) (c : F) (r n : ℕ) →
      (xs : List ℕ) × Drains (filter_steps nat_range_steps g) s xs × (r ≡ length xs) →
      filter_source s ≡ record { start = 0; end = n } → filter_callee s ≡ c →
      ((x : ℕ) (b : Bool) (q : F) → CalledAt g c x b q → (q ≡ c) × (b ≡ f x)) → r ≡ count_slots f 0 n
  count_ran {g} s c r n ran source callee is =
      count_from_yields_List s r ran (YieldsList-from_filter g f (YieldsList-from_range 0 n n source (omega arith)) callee is) ∙ count_range f 0 n

-- the leading slots of that size from o on that start with the mark; there are no more than n
pub used_ran : {F : Type 0} {g : Mut F (Bor ℕ × Unit {0}) Bool} (mark l : List ℕ) (o size : ℕ) (s : TakeWhile (Range ℕ) F) (c : F) (r n : ℕ) →
    (xs : List ℕ) × Drains (take_while_steps nat_range_steps g) s xs × (r ≡ length xs) →
    take_while_source s ≡ record { start = 0; end = n } → take_while_callee s ≡ c → take_while_done s ≡ false →
    ((x : ℕ) (b : Bool) (q : F) → CalledAt g c x b q → (q ≡ c) × (b ≡ marked_at l (o + size * x) mark)) →
    (r ≡ used mark l o size n) × (r ≤ n)
used_ran {g = g} mark l o size s c r n ran source callee done is =
    let f : ℕ → Bool = λ (i : ℕ). marked_at l (o + size * i) mark in
    let many : r ≡ used mark l o size n =
    count_from_yields_List s r ran (YieldsList-from_take_while g f (YieldsList-from_range 0 n n source (omega arith)) callee done is)
    ∙ length-prefix_len f (range_with_len 0 n) ∙ used_range mark l o size 0 n
    ∙ ap (λ (a : ℕ). used mark l a size n) {x = o + size * 0} {y = o} (omega arith) in
    (many, omega (arith, many, used_most mark l o size n))
