-- `changes::look::held` meets its contract. Assumes nothing.
use Rattle.std.proofs.Common.{arith, ap, sym, ◌∙◌, refl}
use Rattle.std.proofs.Math.Option.{some}
use Rattle.changes.specs.Looking.{slot_held, slot_none}
use Rattle.changes.proofs.look.held.Goals as goal

pub returns-in_default : goal.returns-in_default
returns-in_default c = (refl, slot_none c.args.t.now c.args.id (λ n. (c.fits-t n)) (sym c.slot_of.ensures ∙ c.in_default.is))

pub overflow_mul-i : goal.overflow_mul-i
overflow_mul-i c = omega (arith, (slot_held c.args.t.now c.args.id c.in-Some.i (sym c.slot_of.ensures ∙ c.in-Some.is)).0)

pub overflow_add-i : goal.overflow_add-i
overflow_add-i c = omega (arith, (slot_held c.args.t.now c.args.id c.in-Some.i (sym c.slot_of.ensures ∙ c.in-Some.is)).0)

pub read-requires : goal.read-requires
read-requires c = omega (arith, c.told-t, (slot_held c.args.t.now c.args.id c.in-Some.i (sym c.slot_of.ensures ∙ c.in-Some.is)).0)

pub returns : goal.returns
returns c =
    (slot_held c.args.t.now c.args.id c.in-Some.i (sym c.slot_of.ensures ∙ c.in-Some.is)).1 ∙ ap some (sym c.read.ensures)
