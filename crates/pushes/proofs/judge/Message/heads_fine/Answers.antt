-- `pushes::judge::Message::heads_fine` meets its contract: each head from 1 on is fine. Assumes nothing.
use Rattle.std.proofs.Common.{rules, arith}
use borrow.Author.Tests.{tests}
use Rattle.table.specs.Passes.{every_ran}
use Rattle.pushes.proofs.judge.Message.heads_fine.Goals as goal

pub returns : goal.returns
returns c = every_ran _ _ _ _ _ _ c.all.ensures.ran (omega arith) (λ x b q k. search (rules, tests))
