-- `table::rules::replicas_keep` meets its contract: a pass over the replicas. Assumes nothing.
use Rattle.std.proofs.Common.{rules, tests, arith}
use Rattle.document.specs.Tables.{replica_in}
use Rattle.document.specs.Sound.{replica_keeps}
use Rattle.table.specs.Passes.{every_ran}
use Rattle.table.specs.Rules.{table_at}
use Rattle.table.proofs.rules.replicas_keep.Goals as goal

pub returns : goal.returns
returns c =
    let u = c.args.index.now.used in
    every_ran (λ s. replica_keeps (table_at u.t.now u.replicas u.entries) (replica_in u.t.now s)) _ _ _ _ _ c.all.ensures.ran (omega arith)
    (λ x b q k. search (rules, tests))
