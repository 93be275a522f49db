-- `service::receive::receive` meets its contract. Assumes nothing.
use Rattle.std.proofs.Common.{ap, subst, ◌∙◌}
use Rattle.std.specs.Prelude.{List, ℕ}
use Rattle.document.specs.Sound.{sound_bytes}
use Rattle.answers.specs.Passing.{refused_parts_on, unsound}
use Rattle.answers.specs.Forms.{Answered}
use Rattle.service.specs.Promises.{ReceivePromise}
use Rattle.service.specs.Judging.{lent, not_lent}
use Rattle.service.proofs.receive.receive.Goals as goal

pub returns-in_err-table : goal.returns-in_err-table
returns-in_err-table c =
    refused_parts_on _ c.in_err-table.field-0.0 c.from_residual.ensures.1 _ _ (unsound c.args.table.now _ _ (not_lent _ _ c.sound.ensures.cases c.in_err-table.ensures.value c.in_err-table.ensures.ok_part))

pub judge-requires : goal.judge-requires
judge-requires c =
    let s = lent _ _ c.sound.ensures.cases c.in_ok-table.ensures.ok_part in
    ap (λ (l : List ℕ). sound_bytes l) s.0 ∙ s.1

pub returns : goal.returns
returns c =
    subst (λ (l : List ℕ). ReceivePromise Answered l c.args.time c.args.message.now c.args.out.now c.judge.result c.judge.new.table c.judge.new.out)
    (lent _ _ c.sound.ensures.cases c.in_ok-table.ensures.ok_part).0 c.judge.ensures
