-- `table::hints::Index::entry_slot` meets its contract: the hinted slot has the key and is the first, since keys are unique; a
-- pass over the slots. Assumes nothing.
use Rattle.std.proofs.Common.{sym, ◌∙◌}
use Rattle.table.specs.Hints.{key_only}
use Rattle.table.specs.Slots.{found_within}
use Rattle.table.proofs.hints.Index.entry_slot.Goals as goal

pub returns-then-has_key : goal.returns-then-has_key
returns-then-has_key c =
    let i = c.args.self.now in
    let k = c.args.key in (
      sym (key_only i.used.t.now i.used.entries k.directory k.child k.name _ i.keys c.if-s-self.true (sym c.has_key.ensures ∙ c.if-has_key.true)),
      c.if-s-self.true,
    )

pub returns : goal.returns
returns c = (c.entry.ensures, found_within _ _ _ c.entry.ensures)
