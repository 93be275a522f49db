-- A test on every element of a list, and conjunctions as code decides them: what every loop that looks for a fault, and
-- every function with a `return` for each test, cites. Assumes nothing.
use Rattle.std.specs.Prelude.{◌≡◌, refl, ℕ, ◌+◌, ◌≤◌, ◌<◌, Bool, true, false, ◌&&◌, ◌||◌, not, ◌++◌, length, get_or, drop}
use Rattle.std.specs.List.{list_all}
use Rattle.std.proofs.Math.Bool.{and_assoc}
use Rattle.std.proofs.Common.{ap, sym, ◌∙◌, add-one, true≢false, drop_of_length-le, drop-cons}
use mathlib.Core.List.{List, [], ◌∷◌, Memᴰ}
use Rattle.std.proofs.lemmas.Bool.{not-true, not-false}

-- f holds of every element
unfoldable pub every : {A : Type 0} → (A → Bool) → List A → Bool
every f [] = true
every f (x ∷ xs) = f x && every f xs

pub every_append : {A : Type 0} (f : A → Bool) (xs ys : List A) → every f (xs ++ ys) ≡ (every f xs && every f ys)
unfolding every
every_append f [] ys = refl
every_append f (x ∷ xs) ys = ap (λ (b : Bool). f x && b) (every_append f xs ys) ∙ sym (and_assoc (f x) (every f xs) (every f ys))

-- std's test on every element, and this one
pub every_list_all : {A : Type 0} (f : A → Bool) (l : List A) → list_all f l ≡ every f l
unfolding every
every_list_all f [] = refl
every_list_all f (x ∷ xs) = ap (λ (b : Bool). f x && b) (every_list_all f xs)

-- ---- a loop over i: those from i on are the i-th, if there is one, and those after it

pub every_step : {A : Type 0} (f : A → Bool) (s : List A) (z : A) (i : ℕ) → i < length s →
    every f (drop i s) ≡ (f (get_or s i z) && every f (drop (i + 1) s))
unfolding every
every_step f s z i h = rw (drop-cons s i z, add-one)

pub every_none : {A : Type 0} (f : A → Bool) (s : List A) (i : ℕ) → length s ≤ i → every f (drop i s) ≡ true
unfolding every
every_none f s i h = ap (every f) (drop_of_length-le s h)

-- ---- a conjunction: the first test that fails answers, and one that holds leaves the rest

pub and_stop : (a b : Bool) → a ≡ false → false ≡ (a && b)
and_stop a b h = ap (λ (x : Bool). x && b) (sym h)

pub and_go : (a b : Bool) {r : Bool} → a ≡ true → r ≡ b → r ≡ (a && b)
and_go a b h e = e ∙ ap (λ (x : Bool). x && b) (sym h)

-- a disjunction: the first test that holds answers, and one that fails leaves the rest
pub or_stop : (a b : Bool) → a ≡ true → true ≡ (a || b)
or_stop a b h = ap (λ (x : Bool). x || b) (sym h)

pub or_go : (a b : Bool) {r : Bool} → a ≡ false → r ≡ b → r ≡ (a || b)
or_go a b h e = e ∙ ap (λ (x : Bool). x || b) (sym h)

pub and_true : (a b : Bool) → (a && b) ≡ true → (a ≡ true) × (b ≡ true)
and_true true b h = (refl, h)
and_true false b h = absurd (true≢false (sym h))

pub and_both : {a b : Bool} → a ≡ true → b ≡ true → (a && b) ≡ true
and_both {a} {b} p q = sym (and_go a b p (sym q))

pub and_right : (b : Bool) → (b && true) ≡ b
and_right true = refl
and_right false = refl

-- an implication, and two tests that say the same
pub implied : (a b : Bool) → (not a || b) ≡ true → a ≡ true → b ≡ true
implied a b h e = sym (ap (λ (x : Bool). not x || b) e) ∙ h

pub both_ways : (a b : Bool) → (a ≡ true → b ≡ true) → (b ≡ true → a ≡ true) → a ≡ b
both_ways true b f g = sym (f refl)
both_ways false true f g = g refl
both_ways false false f g = refl

-- what a callee's answer r says of the test a that it stands for, where `if !r` was taken and where it was left
pub failed : {r a : Bool} → r ≡ a → not r ≡ true → a ≡ false
failed {r} e h = sym e ∙ not-true r h

pub passed : {r a : Bool} → r ≡ a → not r ≡ false → a ≡ true
passed {r} e h = sym e ∙ not-false r h

-- ---- members

-- what holds of every element holds of a member
pub every_member : {A : Type 0} (f : A → Bool) {x : A} {l : List A} → Memᴰ x l → every f l ≡ true → f x ≡ true
unfolding every
every_member f (Memᴰ.head {x = y} {xs = ys} e) h = ap f e ∙ (and_true (f y) (every f ys) h).0
every_member f (Memᴰ.tail {x = y} {xs = ys} m) h = every_member f m (and_true (f y) (every f ys) h).1
