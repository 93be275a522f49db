-- `pushes::judge::Message::entries_fine` meets its contract: each entry from 0 on is fine. Assumes nothing.
use Rattle.std.proofs.Common.{rules, arith}
use borrow.Author.Tests.{tests}
use Rattle.table.specs.Passes.{every_ran}
use Rattle.pushes.proofs.judge.Message.entries_fine.Goals as goal

pub returns : goal.returns
returns c = every_ran _ _ _ _ _ _ c.all.ensures.ran (omega arith) (λ x b q k. search (rules, tests))
