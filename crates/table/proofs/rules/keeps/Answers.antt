-- `table::rules::keeps` meets its contract: what is unique, then what is looked up. Assumes nothing.
use Rattle.std.proofs.Common.{arith}
use Rattle.std.proofs.lemmas.Grind.{common_steps}
use Rattle.table.specs.Rules.{rule_tests}
use Rattle.table.proofs.rules.keeps.Goals as goal

pub returns-then-are_unique-2 : goal.returns-then-are_unique-2
returns-then-are_unique-2 c =
    let u = c.args.used.now in
    rw (rule_tests u.t.now u.replicas u.entries) (grind (arith, common_steps))

pub returns-else-are_unique-2 : goal.returns-else-are_unique-2
returns-else-are_unique-2 c =
    let u = c.args.used.now in
    rw (rule_tests u.t.now u.replicas u.entries) (grind (arith, common_steps))
