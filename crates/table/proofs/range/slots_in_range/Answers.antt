-- `table::range::slots_in_range` meets its contract: the used slots, then the free ones. Assumes nothing.
use Rattle.std.proofs.Common.{rules, tests, arith, ◌+◌, ◌*◌}
use Rattle.codec.specs.Bytes.{chunk, u8_at}
use Rattle.table.specs.Passes.{every_ran}
use Rattle.table.specs.Tests.{and_ended, and_went}
use Rattle.table.proofs.range.slots_in_range.Goals as goal

pub returns-then-all : goal.returns-then-all
returns-then-all g c =
    and_went
    (every_ran (λ s. g.S.Slot.fits (u8_at c.args.t.now 3) (chunk c.args.t.now (g.S.Slot.FIRST + g.S.Stored.SIZE * s) g.S.Stored.SIZE)) _ _ _ _ _
    c.all.ensures.ran (omega arith) (λ x b q k. search (rules, tests)))
    c.if-all.true (cc)

pub returns-else-all : goal.returns-else-all
returns-else-all g c =
    and_ended _
    (every_ran (λ s. g.S.Slot.fits (u8_at c.args.t.now 3) (chunk c.args.t.now (g.S.Slot.FIRST + g.S.Stored.SIZE * s) g.S.Stored.SIZE)) _ _ _ _ _
    c.all.ensures.ran (omega arith) (λ x b q k. search (rules, tests)))
    c.if-all.false
