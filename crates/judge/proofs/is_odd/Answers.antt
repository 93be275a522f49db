-- `judge::is_odd` meets its contract: the heads, the entries of the message, what the ancestors set, and what the
-- pushed replica sets. Assumes nothing.
use Rattle.std.specs.Prelude.{refl}
use Rattle.std.proofs.Common.{rules, tests}
use Rattle.judge.specs.Judging.{odd_judged, counted_sized}
use Rattle.judge.proofs.is_odd.Goals as goal

pub of-message-requires : goal.of-message-requires
of-message-requires c = counted_sized _ c.args.message.now _ c.requires.1

pub returns : goal.returns
returns c =
    let whole = odd_judged c.args.table.now c.args.message.now _ _ c.requires.0 c.requires.1 refl refl in
    search (rules, tests, whole)
