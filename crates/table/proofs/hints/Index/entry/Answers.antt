-- `table::hints::Index::entry` meets its contract: none; the slot that was found is one of those in use. Assumes nothing.
use Rattle.std.proofs.Common.{sym, ap, ◌∙◌}
use Rattle.std.proofs.Math.Option.{some}
use Rattle.table.specs.Rules.{listed_at, not_listed}
use Rattle.table.specs.Slots.{entry_at_law}
use Rattle.table.proofs.hints.Index.entry.Goals as goal

pub returns-in_err-s : goal.returns-in_err-s
returns-in_err-s c = rw c.from_residual.ensures (not_listed _ _ _ _ _ (sym c.entry_slot.ensures.0 ∙ c.in_err-s.was))

pub returns : goal.returns
returns c = (listed_at _ _ _ _ _ _ (sym c.entry_slot.ensures.0 ∙ c.in_ok-s.was)).1 ∙ ap some (sym (c.entry.ensures ∙ entry_at_law _ _))
