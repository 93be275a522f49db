-- `service::pending::pending` meets its contract: not sound, or the sum over the used slots. Assumes nothing.
use Rattle.std.proofs.Common.{◌≡◌, ap, sym, subst, ◌∙◌}
use Rattle.std.specs.Prelude.{List, ℕ, Ok, true}
use Rattle.document.specs.Tables.{table_of, slots_from, replica_in, replicas_used}
use Rattle.document.specs.Sound.{sound_bytes}
use Rattle.document.specs.Calls.{pending, pending_sum}
use Rattle.answers.specs.Answers.{Answered, answers_done, is_sound}
use Rattle.answers.specs.Passing.{refused_on, unsound}
use Rattle.service.proofs.pending.pending.Goals as goal

pub returns-in_err-t : goal.returns-in_err-t
returns-in_err-t c =
    refused_on _ c.in_err-t.field-0.0 c.from_residual.ensures.1 (unsound c.args.table.now _ _ c.in_err-t.ensures)

pub returns : goal.returns
unfolding table_of
returns c =
    let l = c.in_ok-t.t.now in
    let sound : sound_bytes l ≡ true = ap (λ (z : List ℕ). sound_bytes z) c.in_ok-t.ensures.0 ∙ c.in_ok-t.ensures.1 in
    let sum : c.pending_bits.result ≡ pending_sum (slots_from (replica_in l) 0 (replicas_used l)) =
    c.pending_bits.ensures ∙ ap (λ (m : ℕ). pending_sum (slots_from (replica_in l) 0 m)) c.replicas_used.ensures.0 in
    subst (λ (z : List ℕ). Answered (pending z) (Ok c.pending_bits.result)) c.in_ok-t.ensures.0
    (subst (λ (v : ℕ). Answered (pending l) (Ok v)) (sym sum) (answers_done (is_sound l _ sound)))
