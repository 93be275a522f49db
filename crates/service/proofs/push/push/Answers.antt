-- `service::push::push` meets its contract: not sound, or what a sound table has. Assumes nothing.
use Rattle.std.proofs.Common.{ap, ◌∙◌}
use Rattle.std.specs.Prelude.{List, ℕ}
use Rattle.document.specs.Sound.{sound_bytes}
use Rattle.answers.specs.Passing.{opened_out, refused_out_on, unsound}
use Rattle.service.proofs.push.push.Goals as goal

pub returns-in_err-t : goal.returns-in_err-t
returns-in_err-t c =
    refused_out_on _ c.in_err-t.field-0.0 c.from_residual.ensures.1 c.args.out.now
    (unsound c.args.table.now _ _ c.in_err-t.ensures)

pub push_sound-requires : goal.push_sound-requires
push_sound-requires c = ap (λ (l : List ℕ). sound_bytes l) c.in_ok-t.ensures.0 ∙ c.in_ok-t.ensures.1

pub returns : goal.returns
returns c = opened_out _ c.in_ok-t.ensures.0 c.in_ok-t.ensures.1 _ _ c.push_sound.ensures
