-- A call that is lent a buffer for output: what it answers and leaves there, once its outcome is known.
-- Assumes nothing.
use Rattle.std.specs.Prelude.{◌≡◌, List, ℕ, Ok, Err}
use Rattle.std.proofs.Common.{ap, sym}
use Rattle.codec.specs.Bytes.{splice}
use Rattle.document.specs.Tables.{Table}
use Rattle.document.specs.Outcomes.{Outcome, refused, done, output_after}
use Rattle.answers.specs.declared.refusal.Refusal.{Refusal}
use Rattle.answers.specs.Refusals.{code}
use Rattle.answers.specs.Answers.{Answered, answers_refused, answers_done}

pub refused_out : (out : List ℕ) (r : Refusal) {o : Outcome} → o ≡ refused (code r) →
    Answered o (Err r) × (out ≡ output_after o out)
refused_out out r e = (answers_refused r e, ap (λ (o : Outcome). output_after o out) (sym e))

pub done_out : (out : List ℕ) (v : ℕ) (t : Table) (w : List ℕ) {o : Outcome} → o ≡ done v t w →
    Answered o (Ok v) × (splice out 0 w ≡ output_after o out)
done_out out v t w e = (answers_done e, ap (λ (o : Outcome). output_after o out) (sym e))
