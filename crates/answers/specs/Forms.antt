-- The forms that the contract of a public call takes, each an equation with its outcome for the number, the value and every byte
-- lent, and that each form leaves one answer and one content of each buffer. Assumes nothing.
use Rattle.std.specs.Prelude.{◌≡◌, List, ℕ, ◌<◌, Ok, Err}
use Rattle.std.proofs.Common.{sym, ap, ◌∙◌, arith}
use Rattle.document.specs.Outcomes.{Outcome, number_of, value_of, table_after, output_after}
use Rattle.answers.specs.Refusals.{code_once, code_some}
use Rattle.answers.specs.Answers.{Answer, number, value, packed, packed_answer}
-- ---- how a call answers: the outcome's number, and its value ..

pub use Rattle.answers.specs.Answers.{Answered}

-- .. or, exported, both in one number, from which either can be had because the value is below 2^32
abbrev pub Packed : Outcome → ℕ → Type 0
Packed o r = (r ≡ packed o) × (value_of o < 4294967296)

-- ---- what a call leaves in what it is lent: a table to be changed, a buffer to be written to, or both

abbrev pub Leaves : {A : Type 0} → (Outcome → A → Type 0) → Outcome → A → List ℕ → List ℕ → Type 0
Leaves P o r l l' = P o r × (l' ≡ table_after o l)

abbrev pub Writes : {A : Type 0} → (Outcome → A → Type 0) → Outcome → A → List ℕ → List ℕ → Type 0
Writes P o r out out' = P o r × (out' ≡ output_after o out)

abbrev pub LeavesAndWrites : {A : Type 0} → (Outcome → A → Type 0) → Outcome → A → List ℕ → List ℕ → List ℕ → List ℕ → Type 0
LeavesAndWrites P o r l l' out out' = P o r × (l' ≡ table_after o l) × (out' ≡ output_after o out)

-- ---- one answer, one content

abbrev pub OneAnswer : {A : Type 0} → (Outcome → A → Type 0) → Type 0
OneAnswer {A = A} P = (o : Outcome) (r r' : A) → P o r → P o r' → r ≡ r'

-- one number and one value are those of one answer
pub one_answer : (r r' : Answer) → number r ≡ number r' → value r ≡ value r' → r ≡ r'
one_answer (Ok v) (Ok v') n e = ap Ok e
one_answer (Ok v) (Err q) n e = absurd (code_some q (sym n))
one_answer (Err r) (Ok v') n e = absurd (code_some r n)
one_answer (Err r) (Err q) n e = ap Err (code_once r q n)

pub answered_once : OneAnswer Answered
answered_once o r r' p q = one_answer r r' (p.number ∙ sym q.number) (p.value ∙ sym q.value)

pub packed_once : OneAnswer Packed
packed_once o r r' p q = p.0 ∙ sym q.0

-- the packed number has the number and the value of one outcome only
pub packed_apart : (o o' : Outcome) (r : ℕ) → Packed o r → Packed o' r → (number_of o ≡ number_of o') × (value_of o ≡ value_of o')
packed_apart o o' r p q = (omega (arith, p.0, q.0, p.1, q.1), omega (arith, p.0, q.0, p.1, q.1))

-- what holds of an answer that is packed holds of the outcome that it is of
pub packs : {o : Outcome} {a : Answer} {r : ℕ} → (r ≡ packed_answer a) × (value a < 4294967296) → Answered o a → Packed o r
packs p e = (omega (arith, p.0, e.number, e.value), omega (arith, p.1, e.value))
