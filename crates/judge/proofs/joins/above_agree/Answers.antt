-- `judge::joins::above_agree` meets its contract: a pass over the heads behind the first. Assumes nothing.
use Rattle.std.proofs.Common.{rules, arith}
use Rattle.document.specs.Tables.{table_of}
use Rattle.document.specs.ReadingMessages.{head_in}
use Rattle.table.specs.Passes.{every_ran}
use Rattle.judge.specs.Judging.{made_agrees}
use Rattle.judge.proofs.joins.above_agree.Goals as goal

pub returns : goal.returns
returns c =
    every_ran (λ j. made_agrees (table_of c.args.entries.now.t.now) (head_in c.args.message.now.bytes.now j)) _ _ _ _ _ c.all.ensures.ran (omega arith)
    (λ x b q k. search rules)
