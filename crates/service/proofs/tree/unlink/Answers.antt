-- `service::tree::unlink` meets its contract. Assumes nothing.
use Rattle.std.proofs.Common.{ap, ◌∙◌}
use Rattle.std.specs.Prelude.{List, ℕ}
use Rattle.document.specs.Sound.{sound_bytes}
use Rattle.answers.specs.Passing.{opened, refuses_on, unsound}
use Rattle.service.specs.Judging.{lent, not_lent}
use Rattle.service.proofs.tree.unlink.Goals as goal

pub returns-in_err-table : goal.returns-in_err-table
returns-in_err-table c =
    refuses_on _ c.in_err-table.field-0.0 c.from_residual.ensures.1 _ (unsound c.args.table.now _ _ (not_lent _ _ c.sound.ensures.cases c.in_err-table.ensures.value c.in_err-table.ensures.ok_part))

pub unlink-requires : goal.unlink-requires
unlink-requires c =
    let s = lent _ _ c.sound.ensures.cases c.in_ok-table.ensures.ok_part in
    ap (λ (l : List ℕ). sound_bytes l) s.0 ∙ s.1

pub returns : goal.returns
returns c =
    let s = lent _ _ c.sound.ensures.cases c.in_ok-table.ensures.ok_part in
    opened _ s.0 s.1 _ c.unlink.ensures
