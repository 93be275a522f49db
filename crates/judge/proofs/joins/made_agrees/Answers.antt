-- `judge::joins::made_agrees` meets its contract: one that is held, or one that is not. Assumes nothing.
use Rattle.std.proofs.Common.{◌∙◌, sym}
use Rattle.document.specs.Tables.{table_of}
use Rattle.steps.specs.Standing.{looked_some, looked_none}
use Rattle.judge.specs.Deciding.{made_held, made_absent}
use Rattle.judge.proofs.joins.made_agrees.Goals as goal

pub returns-then-is_some : goal.returns-then-is_some
returns-then-is_some c =
    c.if-is_some.true ∙ made_held (table_of c.args.entries.now.t.now) c.args.h _ (looked_some _ c.head.ensures (sym c.if-is_some.ensures)).1

pub returns-else-is_some : goal.returns-else-is_some
returns-else-is_some c =
    made_absent (table_of c.args.entries.now.t.now) c.args.h _ _ (looked_none _ c.head.ensures (sym c.if-is_some.ensures)) c.place_entry.ensures c.agrees.ensures
