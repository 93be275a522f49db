-- `judge::heads::agree` meets its contract: a pass over the heads. Assumes nothing.
use Rattle.std.proofs.Common.{rules, arith}
use Rattle.document.specs.Tables.{table_of}
use Rattle.document.specs.ReadingMessages.{head_in}
use Rattle.table.specs.Passes.{every_ran}
use Rattle.judge.specs.Judging.{head_agrees}
use Rattle.judge.proofs.heads.agree.Goals as goal

pub returns : goal.returns
returns c =
    every_ran (λ j. head_agrees (table_of c.args.t.now) (head_in c.args.message.now.bytes.now j)) _ _ _ _ _ c.all.ensures.ran (omega arith)
    (λ x b q k. search rules)
