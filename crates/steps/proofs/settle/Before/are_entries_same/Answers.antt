-- `steps::settle::Before::are_entries_same` meets its contract. Assumes nothing.
use Rattle.std.proofs.Common.{rules, arith}
use Rattle.table.specs.Passes.{every_ran}
use Rattle.steps.specs.Settling.{is_slot_same}
use Rattle.steps.proofs.settle.Before.are_entries_same.Goals as goal

pub returns : goal.returns
returns c = every_ran (is_slot_same c.args.self.now.was.t.now c.args.t.now c.args.directory) _ _ _ _ _ c.all.ensures.ran (omega arith) (λ x b q called. search rules)
