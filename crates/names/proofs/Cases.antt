-- P6 and P7 of document 01, computed: what `Name::from` makes of a text, judged as `Name::is_name` judges it.
-- Assumes nothing.
use Rattle.std.proofs.Common.{◌≡◌}
use Rattle.std.specs.Prelude.{refl, true, false, [], ◌∷◌}
use lib.ListN.{replicate}
use Rattle.codec.specs.Lists.{every}
use Rattle.names.specs.Names.{is_name, is_text, name_from, no_name}

-- "P6 "..." is a name"
three_dots : is_name (name_from (46 ∷ 46 ∷ 46 ∷ [])) ≡ true
unfolding is_name is_text name_from every
three_dots = refl

-- "".." .. and the empty one are not", nor is "."
two_dots : is_name (name_from (46 ∷ 46 ∷ [])) ≡ false
unfolding is_name is_text name_from every
two_dots = refl

one_dot : is_name (name_from (46 ∷ [])) ≡ false
unfolding is_name is_text name_from every
one_dot = refl

slash : is_name (name_from (97 ∷ 47 ∷ 98 ∷ [])) ≡ false
unfolding is_name is_text name_from every
slash = refl

empty : is_name (name_from []) ≡ false
unfolding is_name is_text name_from every
empty = refl

-- "P7 fifteen bytes are a name", and sixteen are not
fifteen : is_name (name_from (replicate 15 97)) ≡ true
unfolding is_name is_text name_from every
fifteen = refl

sixteen : is_name (name_from (replicate 16 97)) ≡ false
unfolding is_name is_text name_from every
sixteen = refl

-- "unused ones zero", and "Only the root's is sixteen zeros"
unused : is_name (record { len = 1; bytes = 97 ∷ 1 ∷ replicate 13 0 }) ≡ false
unfolding is_name is_text every
unused = refl

no_name_law : is_name no_name ≡ false
unfolding is_name is_text every
no_name_law = refl
