-- `table::find::entries_in` meets its contract: a pass that counts. Assumes nothing.
use Rattle.std.proofs.Common.{rules, tests}
use Rattle.table.specs.Passes.{count_ran}
use Rattle.table.specs.Slots.{is_listed_in}
use Rattle.table.proofs.find.entries_in.Goals as goal

pub returns : goal.returns
returns c =
    count_ran (is_listed_in c.args.t.now c.args.directory) _ _ _ _ c.count.ensures.ran c.filter.ensures.source c.filter.ensures.closure
    (λ x b q k. search (rules, tests))
