-- Every replica of a list changed, its head kept: what an id finds then, and that ids stay unique. Versions and pending
-- sets change in this way alone. Assumes nothing.
use Rattle.std.specs.Prelude.{◌≡◌, ◌⊎◌, Bool, ℕ, suc, length}
use Rattle.std.proofs.Math.Path.{refl, ap}
use Rattle.std.proofs.Common.{◌∙◌, inl, inr}
use Rattle.std.proofs.Math.Bool.{true, false, not, cond}
use Rattle.std.proofs.Math.Option.{Option, some, none}
use mathlib.Core.List.Memᴰ
use mathlib.Core.List.{List, [], ◌∷◌, map}
use Rattle.std.proofs.Math.Dec.{eqb}
use Rattle.codec.specs.Lists.{every, and_true}
use Rattle.records.specs.declared.head.Head.{Head}
use Rattle.records.specs.Heads.{is_root}
use Rattle.slots.specs.declared.replica.Replica.{Replica}
use Rattle.document.specs.Tables.{first, find, head_of?}
use Rattle.document.specs.Sound.{distinct, same_id, root_in}
use Rattle.views.specs.Lists.{In, every_in, in_every}

-- what becomes of one that is found
abbrev pub on_found : (Replica → Replica) → Option Replica → Option Replica
on_found g none = none
on_found g (some r) = some (g r)

module _ (g : Replica → Replica) (same : (r : Replica) → (g r).head ≡ r.head) where
  pub find_map : (f : ℕ) (l : List Replica) → find f (map g l) ≡ on_found g (find f l)
  unfolding first
  find_map f [] = refl
  find_map f (r ∷ rs) = go (eqb r.head.id f) refl (find_map f rs)
    where
      go : (b : Bool) → eqb r.head.id f ≡ b → find f (map g rs) ≡ on_found g (find f rs) →
          cond (eqb (g r).head.id f) (some (g r)) (find f (map g rs)) ≡ on_found g (cond b (some r) (find f rs))
      go true e ih = rw (ap (λ (h : Head). eqb h.id f) (same r) ∙ e)
      go false e ih = rw (ap (λ (h : Head). eqb h.id f) (same r) ∙ e) ih

  heads_found : (o : Option Replica) → head_of? (on_found g o) ≡ head_of? o
  heads_found none = refl
  heads_found (some r) = ap some (same r)

  pub head_map : (f : ℕ) (l : List Replica) → head_of? (find f (map g l)) ≡ head_of? (find f l)
  head_map f l = ap head_of? (find_map f l) ∙ heads_found (find f l)

  -- each replica after it comes from one before it
  pub map_in : (l : List Replica) (r : Replica) → In r (map g l) → (o : Replica) × In o l × (r ≡ g o)
  map_in [] r m = elim m [ ]
  map_in (x ∷ xs) r m = go (Memᴰ.cases_cons m) (map_in xs r)
    where
      later : (o : Replica) × In o xs × (r ≡ g o) → (o : Replica) × In o (x ∷ xs) × (r ≡ g o)
      later p = (p.0, Memᴰ.tail p.1, p.2)

      go : (r ≡ g x) ⊎ In r (map g xs) → (In r (map g xs) → (o : Replica) × In o xs × (r ≡ g o)) →
          (o : Replica) × In o (x ∷ xs) × (r ≡ g o)
      go (inl e) ih = (x, Memᴰ.head refl, e)
      go (inr i) ih = later (ih i)

  -- ids stay unique
  pub map_distinct : (l : List Replica) → distinct same_id l ≡ true → distinct same_id (map g l) ≡ true
  unfolding distinct
  map_distinct [] d = refl
  map_distinct (x ∷ xs) d =
      let p = and_true (every (λ y. not (same_id x y)) xs) _ d in
      rw (in_every (λ y. not (same_id (g x) y)) (map g xs) (λ y i. apart p.0 y (map_in xs y i)))
      (map_distinct xs p.1)
    where
      apart : every (λ y. not (same_id x y)) xs ≡ true → (y : Replica) → (o : Replica) × In o xs × (y ≡ g o) →
          not (same_id (g x) y) ≡ true
      apart q y z =
          ap (λ (h : Head). not (eqb h.id y.head.id)) (same x)
          ∙ ap (λ (h : Head). not (eqb x.head.id h.id)) (ap (λ (r : Replica). r.head) z.2 ∙ same z.0)
          ∙ every_in (λ y. not (same_id x y)) xs q z.0 z.1

  pub map_length : (l : List Replica) → length (map g l) ≡ length l
  map_length [] = refl
  map_length (x ∷ xs) = ap suc (map_length xs)

  -- the root stays first
  pub map_root : (n : ℕ) (l : List Replica) → root_in n (map g l) ≡ root_in n l
  map_root n [] = refl
  map_root n (x ∷ xs) = ap (is_root n) (same x)
