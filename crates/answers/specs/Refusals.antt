-- Document 01's refusals: the number and the words of each, and that no two have one number. Assumes nothing.
use Rattle.std.specs.Prelude.{◌≡◌, refl, List, [], ◌∷◌, ℕ, get_or, codes}
use Rattle.std.proofs.Common.{ap, sym, ◌∙◌}
use Rattle.std.proofs.Math.Option.{Option, some, none, some-injective, some-ne-none}
use Rattle.answers.specs.declared.refusal.Refusal.{Refusal}
use Rattle.answers.specs.declared.refusal.Refusal.TheVariants.{NotSound, OutOfRange, TooShort, Malformed, NotAddressed, NotHeld, Dead, WrongKind, NameTaken, NotEmpty, TooDeep, NoPlace, AtOdds, NotPending, NotTold, NoRoom, PastEnd}

abbrev pub code : Refusal → ℕ
code NotSound = 1
code OutOfRange = 2
code TooShort = 3
code Malformed = 4
code NotAddressed = 5
code NotHeld = 6
code Dead = 7
code WrongKind = 8
code NameTaken = 9
code NotEmpty = 10
code TooDeep = 11
code NoPlace = 12
code AtOdds = 13
code NotPending = 14
code NotTold = 15
code NoRoom = 16
code PastEnd = 17

abbrev pub words : Refusal → List ℕ
words NotSound = codes "table not sound"
words OutOfRange = codes "node, N, set, kind or name outside its range; now above 2^40-1; push to oneself"
words TooShort = codes "output buffer too short"
words Malformed = codes "message malformed"
words NotAddressed = codes "not addressed to this node"
words NotHeld = codes "an id named isn't held"
words Dead = codes "it is dead"
words WrongKind = codes "wrong kind, or removal of the root"
words NameTaken = codes "a live entry there has that name"
words NotEmpty = codes "a live entry, or a held live child"
words TooDeep = codes "the directory is 16 deep"
words NoPlace = codes "the place directory isn't held"
words AtOdds = codes "message against table"
words NotPending = codes "that node isn't pending"
words NotTold = codes "another version, or that node not pending"
words NoRoom = codes "needs more than 64 replicas, 256 entries, or 32 in a directory"
words PastEnd = codes "needs a clock, version or count past its end"

-- ---- one number, one refusal

-- the refusal of a number, if there is one
numbered : ℕ → Option Refusal
numbered n =
    get_or
    (none ∷ some NotSound ∷ some OutOfRange ∷ some TooShort ∷ some Malformed ∷ some NotAddressed ∷ some NotHeld ∷ some Dead
    ∷ some WrongKind ∷ some NameTaken ∷ some NotEmpty ∷ some TooDeep ∷ some NoPlace ∷ some AtOdds ∷ some NotPending
    ∷ some NotTold ∷ some NoRoom ∷ some PastEnd ∷ [])
    n none

numbered_law : (r : Refusal) → numbered (code r) ≡ some r
unfolding numbered
numbered_law NotSound = refl
numbered_law OutOfRange = refl
numbered_law TooShort = refl
numbered_law Malformed = refl
numbered_law NotAddressed = refl
numbered_law NotHeld = refl
numbered_law Dead = refl
numbered_law WrongKind = refl
numbered_law NameTaken = refl
numbered_law NotEmpty = refl
numbered_law TooDeep = refl
numbered_law NoPlace = refl
numbered_law AtOdds = refl
numbered_law NotPending = refl
numbered_law NotTold = refl
numbered_law NoRoom = refl
numbered_law PastEnd = refl

pub code_once : (r q : Refusal) → code r ≡ code q → r ≡ q
code_once r q e = some-injective r q (sym (numbered_law r) ∙ ap numbered e ∙ numbered_law q)

-- 0 is the number of none
pub code_some : (r : Refusal) → code r ≡ 0 → ⊥
unfolding numbered
code_some r e = some-ne-none r (sym (numbered_law r) ∙ ap numbered e)
