-- `merge::heads::make_missing` meets its contract: held, or made. Assumes nothing.
use Rattle.std.proofs.Common.{sym}
use Rattle.steps.specs.Standing.{looked_some, looked_none}
use Rattle.merge.specs.Heads.{missing_held, missing_made}
use Rattle.merge.proofs.heads.make_missing.Goals as goal

pub returns-then-is_some : goal.returns-then-is_some
returns-then-is_some c =
    let o = looked_some _ c.head.ensures (sym c.if-is_some.ensures) in
    missing_held c.args.h o.0 c.requires.works o.1

pub put-requires : goal.put-requires
put-requires c = c.requires.works.stands

pub returns : goal.returns
returns c =
    missing_made c.args.h _ c.requires.works (looked_none _ c.head.ensures (sym c.if-is_some.ensures)) c.with_own-new.ensures
    c.put.ensures.0 c.put.ensures.1
