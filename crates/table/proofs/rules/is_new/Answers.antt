-- `table::rules::is_new` meets its contract: a pass over the later slots. Assumes nothing.
use Rattle.std.proofs.Common.{rules, tests, arith}
use Rattle.std.specs.Prelude.{not}
use Rattle.table.specs.Passes.{every_ran}
use Rattle.table.proofs.rules.is_new.Goals as goal

pub returns : goal.returns
returns g c =
    let t = c.args.t.now in
    every_ran (λ j. not (g.S.Keyed.has_key t (g.S.Keyed.key_in t c.args.i) j)) _ _ _ _ _ c.all.ensures.ran (omega arith)
    (λ x b q k. search (rules, tests))
