-- Lists: what is found, what passes, what is no two times there. What the laws of lookups and of soundness are made of.
-- Assumes nothing.
use Rattle.std.specs.Prelude.{◌≡◌, ◌⊎◌, Bool, ◌||◌, ℕ, eqb}
use Rattle.std.proofs.Math.Path.{refl, ap}
use Rattle.std.proofs.Common.{sym, ◌∙◌, inl, inr, true≢false, arith, eqb-true}
use Rattle.std.proofs.Math.Bool.{true, false, not, cond}
use Rattle.std.proofs.Math.Option.{Option, some, none}
use mathlib.Core.List.Memᴰ
use mathlib.Core.List.{List, [], ◌∷◌, Memᴰ}
use Rattle.std.proofs.lemmas.Bool.{eqb-false, not-true}
use Rattle.codec.specs.Lists.{every, and_true, every_member}
use Rattle.document.specs.Tables.{first}
use Rattle.document.specs.Sound.{distinct}

-- x stands in the list
abbrev pub In : {A : Type 0} → A → List A → Type 0
In x l = Memᴰ x l

-- ---- tests

pub no_both : (b : Bool) → b ≡ true → b ≡ false → ⊥
no_both b p q = true≢false (sym p ∙ q)

pub or_false_both : (a b : Bool) → (a || b) ≡ false → (a ≡ false) × (b ≡ false)
or_false_both true b h = absurd (true≢false h)
or_false_both false b h = (refl, h)

-- of a disjunction that holds, the second where the first fails
pub or_second : (a b : Bool) → (a || b) ≡ true → a ≡ false → b ≡ true
or_second a b h e = sym (ap (λ (x : Bool). x || b) e) ∙ h

-- two numbers are the same or not
pub same? : (a b : ℕ) → (a ≡ b) ⊎ (a ≡ b → ⊥)
same? a b = go (eqb a b) refl
  where
    go : (t : Bool) → eqb a b ≡ t → (a ≡ b) ⊎ (a ≡ b → ⊥)
    go true e = inl (eqb-true a b e)
    go false e = inr (eqb-false a b e)

-- what is something is not nothing, and one thing only
pub some_only : {A : Type 0} {a b : A} → some a ≡ some b → a ≡ b
some_only e = cc

pub not_none : {A : Type 0} {a : A} → ◌≡◌ {A = Option A} none (some a) → ⊥
not_none e = let z : ◌≡◌ {A = ℕ} 0 1 = cc in omega arith

-- ---- the first that passes

module _ {A : Type 0} (f : A → Bool) where
  pub first_passes : (l : List A) (x : A) → first f l ≡ some x → f x ≡ true
  unfolding first
  first_passes [] x e = absurd (not_none e)
  first_passes (y ∷ ys) x e = go (f y) refl e (first_passes ys x)
    where
      go : (b : Bool) → f y ≡ b → cond b (some y) (first f ys) ≡ some x → (first f ys ≡ some x → f x ≡ true) → f x ≡ true
      go true p q ih = ap f (sym (some_only q)) ∙ p
      go false p q ih = ih q

  pub first_in : (l : List A) (x : A) → first f l ≡ some x → In x l
  unfolding first
  first_in [] x e = absurd (not_none e)
  first_in (y ∷ ys) x e = go (f y) e (first_in ys x)
    where
      go : (b : Bool) → cond b (some y) (first f ys) ≡ some x → (first f ys ≡ some x → In x ys) → In x (y ∷ ys)
      go true q ih = Memᴰ.head (sym (some_only q))
      go false q ih = Memᴰ.tail (ih q)

-- ---- every element passes

module _ {A : Type 0} (f : A → Bool) where
  pub every_in : (l : List A) → every f l ≡ true → (x : A) → In x l → f x ≡ true
  every_in l h x m = every_member f m h

  pub in_every : (l : List A) → ((x : A) → In x l → f x ≡ true) → every f l ≡ true
  unfolding every
  in_every [] h = refl
  in_every (y ∷ ys) h = rw (h y (Memᴰ.head refl)) (in_every ys (λ x m. h x (Memᴰ.tail m)))

-- ---- no two are the same

module _ {A : Type 0} (same : A → A → Bool) where
  -- of a list with no two the same, the one that passes is found, where those that pass are the same
  pub first_only : (f : A → Bool) → ((y z : A) → f y ≡ true → f z ≡ true → same y z ≡ true) → (l : List A) →
      distinct same l ≡ true → (x : A) → In x l → f x ≡ true → first f l ≡ some x
  unfolding first distinct
  first_only f s [] d x m p = elim m [ ]
  first_only f s (y ∷ ys) d x m p =
      let q = and_true (every (λ z. not (same y z)) ys) _ d in
      go (f y) refl (Memᴰ.cases_cons m) (every_in (λ z. not (same y z)) ys q.0 x)
      (λ i. first_only f s ys q.1 x i p)
    where
      go : (b : Bool) → f y ≡ b → (x ≡ y) ⊎ In x ys → (In x ys → not (same y x) ≡ true) →
          (In x ys → first f ys ≡ some x) → cond b (some y) (first f ys) ≡ some x
      go true e (inl q) n ih = ap some (sym q)
      go true e (inr i) n ih = absurd (no_both (same y x) (s y x e p) (not-true _ (n i)))
      go false e (inl q) n ih = absurd (no_both (f x) p (ap f q ∙ e))
      go false e (inr i) n ih = ih i
