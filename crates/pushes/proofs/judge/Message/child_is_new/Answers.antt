-- `pushes::judge::Message::child_is_new` meets its contract: child and name are not those of any entry before it. Assumes nothing.
use Rattle.std.proofs.Common.{rules, arith}
use borrow.Author.Tests.{tests}
use Rattle.table.specs.Passes.{every_ran}
use Rattle.pushes.proofs.judge.Message.child_is_new.Goals as goal

pub returns : goal.returns
returns c = every_ran _ _ _ _ _ _ c.all.ensures.ran (omega arith) (λ x b q k. search (rules, tests))
