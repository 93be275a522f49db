-- `pushes::write::header_of` meets its contract: each field is told from the table. Assumes nothing.
use Rattle.std.proofs.Common.{arith}
use Rattle.pushes.specs.Pushing.{entries_few, header_told}
use Rattle.pushes.proofs.write.header_of.Goals as goal

pub overflow_cast-result : goal.overflow_cast-result
overflow_cast-result c =
    omega (arith, entries_few _ _ c.requires _ _ c.entries_used.ensures.0 c.entries_in-listed.ensures)

pub returns : goal.returns
returns c =
    header_told _ _ c.requires c.args.node _ _ _ _ c.read.ensures c.head_count.ensures
    c.entries_used.ensures.0 c.entries_in-listed.ensures
