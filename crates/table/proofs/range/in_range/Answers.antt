-- `table::range::in_range` meets its contract: the header, then the slots of each kind. Assumes nothing.
use Rattle.std.proofs.Common.{arith, sym, ◌∙◌, refl}
use Rattle.std.proofs.lemmas.Grind.{common_steps}
use Rattle.table.specs.Ranges.{header_nodes, range_halves}
use Rattle.table.proofs.range.in_range.Goals as goal

pub returns-then-not-in_range : goal.returns-then-not-in_range
returns-then-not-in_range c =
    rw (range_halves c.args.t.now _ _ (omega (arith, c.told-t)) refl refl) (grind (arith, common_steps))

pub slots_in_range-requires : goal.slots_in_range-requires
slots_in_range-requires c =
    (c.replicas_used-replicas.ensures.1, header_nodes _ (sym c.in_range.ensures ∙ c.if-not-in_range.false))

pub slots_in_range-requires-then-slots_in_range : goal.slots_in_range-requires-then-slots_in_range
slots_in_range-requires-then-slots_in_range c =
    (c.entries_used.ensures.1, header_nodes _ (sym c.in_range.ensures ∙ c.if-not-in_range.false))

pub returns-then-slots_in_range : goal.returns-then-slots_in_range
returns-then-slots_in_range c =
    rw (range_halves c.args.t.now _ _ (omega (arith, c.told-t)) c.replicas_used-replicas.ensures.0 c.entries_used.ensures.0)
    (grind (arith, common_steps))

pub returns-else-slots_in_range : goal.returns-else-slots_in_range
returns-else-slots_in_range c =
    rw (range_halves c.args.t.now _ _ (omega (arith, c.told-t)) c.replicas_used-replicas.ensures.0 refl) (grind (arith, common_steps))
