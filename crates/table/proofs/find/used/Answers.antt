-- `table::find::used` meets its contract: a pass that ends at the first free slot. Assumes nothing.
use Rattle.std.proofs.Common.{rules, tests}
use Rattle.table.specs.Passes.{used_ran}
use Rattle.table.proofs.find.used.Goals as goal

pub returns : goal.returns
returns g c =
    rw (← c.COUNT.ensures)
    (used_ran g.S.First.Record.MARK c.args.t.now g.S.Slot.FIRST g.S.Stored.SIZE _ _ _ _ c.count.ensures.ran c.take_while.ensures.source
    c.take_while.ensures.closure c.take_while.ensures.done (λ x b q k. search (rules, tests)))
