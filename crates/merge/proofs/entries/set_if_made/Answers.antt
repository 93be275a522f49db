-- `merge::entries::set_if_made` meets its contract. Assumes nothing.
use Rattle.std.proofs.Common.{sym}
use Rattle.document.specs.Tables.{table_of}
use Rattle.steps.specs.Standing.{looked_some, looked_none}
use Rattle.merge.specs.Entries.{setting_held, setting_made}
use Rattle.merge.proofs.entries.set_if_made.Goals as goal

pub returns-then-is_some : goal.returns-then-is_some
returns-then-is_some c =
    let o = looked_some _ c.head.ensures (sym c.if-is_some.ensures) in
    setting_held (table_of c.args.old.now) c.args.h o.0 c.requires.0 o.1

pub set-requires : goal.set-requires
set-requires c = c.requires.0.stands

pub returns : goal.returns
returns c =
    setting_made (table_of c.args.old.now) c.args.h _ c.requires.0 c.requires.2 (looked_none _ c.head.ensures (sym c.if-is_some.ensures))
    c.place_entry.ensures c.set.ensures.0 c.set.ensures.1
