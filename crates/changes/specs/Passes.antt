-- A pass over slots by `any` over a range, where the closure computes a test of a slot. What the proofs of `changes::look`
-- cite. Assumes nothing.
use Rattle.std.specs.Prelude.{◌≡◌, refl, Bool, true, false, ◌||◌, List, ℕ, zero, suc, ◌+◌, ◌-◌, Option}
use Rattle.std.proofs.Common.{ap, ◌∙◌, arith}
use Rattle.std.specs.List.{range_with_len, list_any, FoldsTo}
use Rattle.std.proofs.iter.Yields.{nat_range_steps}
use Rattle.std.proofs.lemmas.Iterator.{YieldsList-from_range}
use Rattle.std.proofs.lemmas.Iterator.Search.{any_from_yields_List}
use Rattle.std.specs.Fn.{Called}
use Rattle.std.specs.Iterator.{YieldsThen}
use Rattle.std.specs.Option.{MatchOption}
use Rattle.std.specs.declared.ops.Range.{Range}
use denote.Param.Members.{Mut}
use Rattle.changes.specs.Looking.{any_slot}

-- one of the numbers of a range passes
any_range : (f : ℕ → Bool) (s n : ℕ) → list_any f (range_with_len s n) ≡ any_slot f s n
unfolding any_slot
any_range f s zero = refl
any_range f s (suc n) =
    ap (λ (b : Bool). f s || b) (ap (λ (j : ℕ). list_any f (range_with_len j n)) {x = s + 1} {y = suc s} (omega arith) ∙ any_range f (suc s) n)

pub any_ran : {F : Type 0} (f : ℕ → Bool) {g : Mut F (ℕ × Unit {0}) Bool} (s u : Range ℕ) (c : F) (r : Bool) (n : ℕ) →
    (xs : List ℕ) × (o : Option ℕ) × (j : F) × YieldsThen nat_range_steps s xs o u × FoldsTo (λ p x q. Called g p (x, tt) false q) c xs j × MatchOption o (r ≡ false) (λ x. (r ≡ true) × ((h : F) × Called g j (x, tt) true h)) →
    s.end - s.start ≡ n → ((x : ℕ) (b : Bool) (q : F) → Called g c (x, tt) b q → (q ≡ c) × (b ≡ f x)) → r ≡ any_slot f s.start n
any_ran f s u c r n ran e is =
    any_from_yields_List f u c r ran (YieldsList-from_range s.start s.end n refl e) is ∙ any_range f s.start n
