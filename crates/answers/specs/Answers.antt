-- What a call answers, as its number and its value, and the first refusal of all: what every contract of `service` cites.
-- Assumes nothing.
use Rattle.std.specs.Prelude.{◌≡◌, Bool, true, false, cond, List, ℕ, ◌+◌, ◌*◌, Result, Ok, Err}
use Rattle.std.proofs.Common.{ap, sym, ◌∙◌}
use Rattle.std.proofs.Math.Option.{some, none}
use Rattle.document.specs.Tables.{Table, table_of, table_bytes}
use Rattle.document.specs.Sound.{sound_bytes, read_sound}
use Rattle.document.specs.Outcomes.{Outcome, refused, done, number_of, value_of, table_after}
use Rattle.document.specs.Calls.{on_sound, if_sound}
use Rattle.answers.specs.declared.refusal.Refusal.{Refusal}
use Rattle.answers.specs.Refusals.{code}

-- the value of what was done, or a refusal
abbrev pub Answer : Type 0
Answer = Result ℕ Refusal

-- "0 is done." "Refusals return value 0"
abbrev pub number : Answer → ℕ
number (Ok v) = 0
number (Err r) = code r

abbrev pub value : Answer → ℕ
value (Ok v) = v
value (Err r) = 0

-- how a call answers: the outcome's number, and its value
pub record Answered (o : Outcome) (r : Answer) : Type 0 where
  pub number : number r ≡ number_of o
  pub value : value r ≡ value_of o

-- an exported call answers both in one number
abbrev pub packed_answer : Answer → ℕ
packed_answer a = number a * 4294967296 + value a

abbrev pub packed : Outcome → ℕ
packed o = number_of o * 4294967296 + value_of o

-- ---- "1: table not sound"

pub not_sound : (l : List ℕ) (f : Table → Outcome) → sound_bytes l ≡ false → on_sound l f ≡ refused 1
unfolding read_sound
not_sound l f e = ap (λ (b : Bool). if_sound (cond b (some (table_of l)) none) f) e

pub is_sound : (l : List ℕ) (f : Table → Outcome) → sound_bytes l ≡ true → on_sound l f ≡ f (table_of l)
unfolding read_sound
is_sound l f e = ap (λ (b : Bool). if_sound (cond b (some (table_of l)) none) f) e

-- ---- both halves of a contract, from the outcome

-- "Refusals return value 0 and change no byte."
pub answers_refused : (r : Refusal) {o : Outcome} → o ≡ refused (code r) → Answered o (Err r)
answers_refused r e = record { number = ap number_of (sym e); value = ap value_of (sym e) }

pub answers_done : {o : Outcome} {v : ℕ} {t : Table} {w : List ℕ} → o ≡ done v t w → Answered o (Ok v)
answers_done e = record { number = ap number_of (sym e); value = ap value_of (sym e) }

-- the same of another outcome that is equal
pub answers_instead : {o q : Outcome} {r : Answer} → o ≡ q → Answered o r → Answered q r
answers_instead e p = record { number = p.number ∙ ap number_of e; value = p.value ∙ ap value_of e }

pub refuses : (r : Refusal) {o : Outcome} (l : List ℕ) → o ≡ refused (code r) → Answered o (Err r) × (l ≡ table_after o l)
refuses r l e = (answers_refused r e, ap (λ (o : Outcome). table_after o l) (sym e))

-- what is done gives its value, and the bytes of its table
pub does : {o : Outcome} {v : ℕ} {t : Table} {w : List ℕ} (l : List ℕ) {l' : List ℕ} → o ≡ done v t w →
    l' ≡ table_bytes t → Answered o (Ok v) × (l' ≡ table_after o l)
does l e b = (answers_done e, b ∙ ap (λ (o : Outcome). table_after o l) (sym e))

pub instead : {o q : Outcome} {r : Answer} (l : List ℕ) {l' : List ℕ} → o ≡ q → Answered o r × (l' ≡ table_after o l) →
    Answered q r × (l' ≡ table_after q l)
instead l e p = (answers_instead e p.0, p.1 ∙ ap (λ (o : Outcome). table_after o l) e)
