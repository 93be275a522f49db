-- `table::hints::Index::head` meets its contract: none; the slot that was found is one of those in use. Assumes nothing.
use Rattle.std.proofs.Common.{sym, ap, ◌∙◌}
use Rattle.std.proofs.Math.Option.{some}
use Rattle.table.specs.Rules.{held_at, not_held_law}
use Rattle.table.specs.Slots.{head_at_law}
use Rattle.table.proofs.hints.Index.head.Goals as goal

pub returns-in_err-s : goal.returns-in_err-s
returns-in_err-s c = rw c.from_residual.ensures (not_held_law _ _ _ (sym c.replica.ensures.0 ∙ c.in_err-s.was))

pub returns : goal.returns
returns c = (held_at _ _ _ _ (sym c.replica.ensures.0 ∙ c.in_ok-s.was)).1 ∙ ap some (sym (c.head.ensures ∙ head_at_law _ _))
