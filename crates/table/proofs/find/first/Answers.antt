-- `table::find::first` meets its contract: a pass that finds the first. Assumes nothing.
use Rattle.std.proofs.Common.{rules, tests, arith}
use Rattle.table.specs.Passes.{first_ran}
use Rattle.table.proofs.find.first.Goals as goal

pub returns : goal.returns
returns g c = first_ran (λ i. g.S.Keyed.has_key c.args.t.now c.args.key i) _ _ _ _ _ c.find.ensures.ran (omega arith) (λ x b q k. search (rules, tests))
