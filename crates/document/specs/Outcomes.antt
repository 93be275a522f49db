-- "What comes back": a call is refused, or done with a value, a table and what it wrote. Assumes nothing.
use Rattle.std.specs.Prelude.{◌≡◌, refl, Bool, cond, List, [], ◌∷◌, ℕ}
use Rattle.codec.specs.Bytes.{splice}
use Rattle.document.specs.Tables.{Table, table_bytes}

pub data Outcome : Type 0 where
  refused : ℕ → Outcome
  done : ℕ → Table → List ℕ → Outcome

-- "0 is done." "Refusals return value 0"
abbrev pub number_of : Outcome → ℕ
number_of (refused k) = k
number_of (done v t w) = 0

abbrev pub value_of : Outcome → ℕ
value_of (refused k) = 0
value_of (done v t w) = v

-- "and change no byte": the table's bytes and the output buffer's after the call
abbrev pub table_after : Outcome → List ℕ → List ℕ
table_after (refused k) l = l
table_after (done v t w) l = table_bytes t

-- "Bytes past those written keep their value."
abbrev pub output_after : Outcome → List ℕ → List ℕ
output_after (refused k) out = out
output_after (done v t w) out = splice out 0 w

-- a refusal: its number, and whether it holds
pub record Refusal : Type 0 where
  pub number : ℕ
  pub holds : Bool

-- "Where several hold, the lowest number is given.": the refusals of a call stand in the order of their numbers
unfoldable pub judged : List Refusal → Outcome → Outcome
judged [] o = o
judged (r ∷ rs) o = cond r.holds (refused r.number) (judged rs o)

-- where no refusal is left, the outcome is what was to be
pub all_passed : (o : Outcome) → judged [] o ≡ o
unfolding judged
all_passed o = refl
