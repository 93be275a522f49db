-- Joins that meet different keys are at odds with a table one after the other exactly if one of them is at odds with the
-- table as it stood: none changes what a later one meets. Assumes nothing.
use Rattle.std.specs.Prelude.{◌≡◌, refl, Bool, true, false, ◌&&◌, ◌||◌, not, List, [], ◌∷◌}
use Rattle.std.proofs.Common.{ap, ◌∙◌}
use Rattle.std.proofs.Math.Option.{Option}
use mathlib.Core.List.Memᴰ
use Rattle.std.proofs.lemmas.Bool.{not-true}
use Rattle.codec.specs.Lists.{every, and_true}
use Rattle.slots.specs.declared.listed.Listed.{Listed}
use Rattle.document.specs.Tables.{Table, entry_of?}
use Rattle.document.specs.Sound.{distinct, same_key}
use Rattle.document.specs.Steps.{joined, at_odds, odd_join, odd_all}
use Rattle.views.specs.Lists.{In, every_in}
use Rattle.views.specs.Joins.{find_join_other, same_key_sym}

-- ---- tests over lists

or_not : (a b : Bool) → (a || not b) ≡ not (not a && b)
or_not true b = refl
or_not false b = refl

-- two tests that agree on each element agree on all
pub every_same : {A : Type 0} (f g : A → Bool) (l : List A) → ((x : A) → In x l → f x ≡ g x) → every f l ≡ every g l
unfolding every
every_same f g [] h = refl
every_same f g (x ∷ xs) h =
    cc (h x (Memᴰ.head refl), every_same f g xs (λ y m. h y (Memᴰ.tail m)))

-- ---- joins that meet different keys

-- none of them is at odds with the table
abbrev pub none_odd : Table → List Listed → Bool
none_odd t es = every (λ (e : Listed). not (odd_join e t)) es

-- a join leaves what another key meets
odd_after : (e x : Listed) (t : Table) → same_key e x ≡ false → odd_join x (joined e t) ≡ odd_join x t
odd_after e x t h =
    ap (λ (o : Option Listed). at_odds x (entry_of? o))
    (find_join_other e t.entries x.directory x.entry.child x.entry.name (same_key_sym x e ∙ h))

pub odd_apart : (es : List Listed) (t : Table) → distinct same_key es ≡ true → odd_all es t ≡ not (none_odd t es)
unfolding odd_all distinct every
odd_apart [] t d = refl
odd_apart (e ∷ es) t d =
    let p = and_true (every (λ y. not (same_key e y)) es) _ d in
    let same : none_odd (joined e t) es ≡ none_odd t es =
    every_same _ _ es (λ x m. ap not (odd_after e x t (not-true _ (every_in (λ y. not (same_key e y)) es p.0 x m)))) in
    ap (λ (b : Bool). odd_join e t || b) (odd_apart es (joined e t) p.1 ∙ ap not same)
    ∙ or_not (odd_join e t) (none_odd t es)
