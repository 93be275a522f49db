-- `table::rules::are_unique` meets its contract: a pass over the slots. Assumes nothing.
use Rattle.std.proofs.Common.{rules, tests, arith, ◌+◌, ◌-◌}
use Rattle.std.specs.Prelude.{not}
use Rattle.document.specs.Tables.{every_slot}
use Rattle.table.specs.Passes.{every_ran}
use Rattle.table.proofs.rules.are_unique.Goals as goal

pub returns : goal.returns
returns g c =
    let t = c.args.t.now in
    every_ran (λ i. every_slot (λ j. not (g.S.Keyed.has_key t (g.S.Keyed.key_in t i) j)) (i + 1) (c.args.n - (i + 1))) _ _ _ _ _
    c.all.ensures.ran (omega arith) (λ x b q k. search (rules, tests))
