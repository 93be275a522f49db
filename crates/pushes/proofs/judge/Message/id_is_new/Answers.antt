-- `pushes::judge::Message::id_is_new` meets its contract: the id is not that of any head before it. Assumes nothing.
use Rattle.std.proofs.Common.{rules, arith}
use borrow.Author.Tests.{tests}
use Rattle.table.specs.Passes.{every_ran}
use Rattle.pushes.proofs.judge.Message.id_is_new.Goals as goal

pub returns : goal.returns
returns c = every_ran _ _ _ _ _ _ c.all.ensures.ran (omega arith) (λ x b q k. search (rules, tests))
