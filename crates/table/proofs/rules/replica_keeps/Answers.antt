-- `table::rules::replica_keeps` meets its contract: sentence by sentence, in the order of the definition. Assumes nothing.
use Rattle.std.proofs.Common.{arith}
use Rattle.std.proofs.lemmas.Grind.{common_steps}
use Rattle.table.specs.Rules.{replica_tests}
use Rattle.table.specs.Counts.{tallied_at}
use Rattle.table.proofs.rules.replica_keeps.Goals as goal

pub returns-then-place_shown : goal.returns-then-place_shown
returns-then-place_shown c =
    let u = c.args.index.now.used in
    rw
    (replica_tests u.t.now u.replicas u.entries c.args.s _ _ _ c.read-header.ensures c.replica-r.ensures
    (tallied_at u.t.now u.replicas u.entries c.args.s c.args.tallies.now c.requires.0 c.requires.1))
    (grind (arith, common_steps))

pub returns-else-place_shown : goal.returns-else-place_shown
returns-else-place_shown c =
    let u = c.args.index.now.used in
    rw
    (replica_tests u.t.now u.replicas u.entries c.args.s _ _ _ c.read-header.ensures c.replica-r.ensures
    (tallied_at u.t.now u.replicas u.entries c.args.s c.args.tallies.now c.requires.0 c.requires.1))
    (grind (arith, common_steps))
