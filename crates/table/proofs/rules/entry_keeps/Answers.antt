-- `table::rules::entry_keeps` meets its contract: sentence by sentence, in the order of the definition. Assumes nothing.
use Rattle.std.proofs.Common.{arith}
use Rattle.std.proofs.lemmas.Grind.{common_steps}
use Rattle.table.specs.Rules.{entry_tests}
use Rattle.table.proofs.rules.entry_keeps.Goals as goal

pub returns-then-e-ne0 : goal.returns-then-e-ne0
returns-then-e-ne0 c =
    let u = c.args.index.now.used in
    rw (entry_tests u.t.now u.replicas u.entries c.args.s _ _ c.read-header.ensures c.listed-x.ensures) (grind (arith, common_steps))

pub returns-else-e-ne0 : goal.returns-else-e-ne0
returns-else-e-ne0 c =
    let u = c.args.index.now.used in
    rw (entry_tests u.t.now u.replicas u.entries c.args.s _ _ c.read-header.ensures c.listed-x.ensures) (grind (arith, common_steps))
