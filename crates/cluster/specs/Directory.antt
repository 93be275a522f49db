-- The entries of one directory, as a push has them: what a key finds among them, and that they stand in the table.
-- Assumes nothing.
use Rattle.std.specs.Prelude.{◌≡◌, refl, ◌⊎◌, Bool, true, false, cond, List, [], ◌∷◌, map, ℕ, eqb}
use Rattle.std.proofs.Common.{ap, sym, ◌∙◌, inl, inr, eqb-true}
use Rattle.std.proofs.Math.Option.{some}
use mathlib.Core.List.Memᴰ
use Rattle.names.specs.declared.Name.{Name}
use Rattle.slots.specs.declared.listed.Listed.{Listed}
use Rattle.document.specs.Tables.{first, is_key, find_entry, entries_of}
use Rattle.document.specs.Receive.{listed_in}
use Rattle.views.specs.Lists.{In}

-- the entries of directory f, each with its directory
abbrev pub inside : ℕ → List Listed → List Listed
inside f l = map (listed_in f) (entries_of f l)

listed_is : (f : ℕ) (x : Listed) → eqb x.directory f ≡ true → listed_in f x.entry ≡ x
listed_is f x e =
    let d : f ≡ x.directory = sym (eqb-true x.directory f e) in
    λ i. record { entry = x.entry; directory = d i }

pub inside_find : (f c : ℕ) (n : Name) (l : List Listed) → find_entry f c n (inside f l) ≡ find_entry f c n l
unfolding entries_of first
inside_find f c n [] = refl
inside_find f c n (x ∷ xs) = go (eqb x.directory f) refl (inside_find f c n xs)
  where
    go : (b : Bool) → eqb x.directory f ≡ b → find_entry f c n (inside f xs) ≡ find_entry f c n xs →
        find_entry f c n (map (listed_in f) (cond b (x.entry ∷ entries_of f xs) (entries_of f xs))) ≡ find_entry f c n
        (x ∷ xs)
    go true p ih =
        ap (λ (y : Listed). cond (is_key f c n y) (some y) (find_entry f c n (inside f xs))) (listed_is f x p)
        ∙ (rw ih)
    go false p ih = rw p ih

pub inside_in : (f : ℕ) (l : List Listed) (x : Listed) → In x (inside f l) → In x l
unfolding entries_of
inside_in f [] x m = m
inside_in f (y ∷ ys) x m = go (eqb y.directory f) refl m (inside_in f ys x)
  where
    on : (x ≡ listed_in f y.entry) ⊎ In x (inside f ys) → eqb y.directory f ≡ true →
        (In x (inside f ys) → In x ys) →
        In x (y ∷ ys)
    on (inl e) p ih = Memᴰ.head (e ∙ listed_is f y p)
    on (inr i) p ih = Memᴰ.tail (ih i)

    go : (b : Bool) → eqb y.directory f ≡ b →
        In x (map (listed_in f) (cond b (y.entry ∷ entries_of f ys) (entries_of f ys))) →
        (In x (inside f ys) → In x ys) → In x (y ∷ ys)
    go true p m ih = on (Memᴰ.cases_cons m) p ih
    go false p m ih = Memᴰ.tail (ih m)
