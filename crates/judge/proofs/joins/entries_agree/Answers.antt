-- `judge::joins::entries_agree` meets its contract: a pass over the entries. Assumes nothing.
use Rattle.std.specs.Prelude.{not}
use Rattle.std.proofs.Common.{rules, arith}
use Rattle.records.specs.Entries.{entry_at}
use Rattle.document.specs.Tables.{table_of}
use Rattle.document.specs.Steps.{odd_join}
use Rattle.document.specs.Messages.{entry_spot}
use Rattle.document.specs.Receive.{listed_in}
use Rattle.table.specs.Passes.{every_ran}
use Rattle.judge.proofs.joins.entries_agree.Goals as goal

pub returns : goal.returns
returns c =
    let m = c.args.message.now in
    every_ran (λ j. not (odd_join (listed_in m.first.id (entry_at m.bytes.now (entry_spot m.heads j))) (table_of c.args.entries.now.t.now))) _ _ _ _ _
    c.all.ensures.ran (omega arith) (λ x b q k. search rules)
