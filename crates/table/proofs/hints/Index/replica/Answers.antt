-- `table::hints::Index::replica` meets its contract: a slot that has the id, which is the first, since ids are unique; a pass
-- over the slots. Assumes nothing.
use Rattle.std.proofs.Common.{sym}
use Rattle.table.specs.Hints.{id_only}
use Rattle.table.specs.Slots.{found_within}
use Rattle.table.proofs.hints.Index.replica.Goals as goal

pub returns-in-Some : goal.returns-in-Some
returns-in-Some c =
    let i = c.args.self.now in
    let led = c.in-Some.ensures in
    (sym (id_only i.used.t.now i.used.replicas c.args.id _ i.ids led.0 (led.1 led.0)), led.0)

pub returns : goal.returns
returns c = (c.replica.ensures, found_within _ _ _ c.replica.ensures)
