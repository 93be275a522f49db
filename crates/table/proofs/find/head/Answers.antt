-- `table::find::head` meets its contract: the slot that was found is one of those in use, and what stands there is the head
-- that the table has. Assumes nothing.
use Rattle.std.proofs.Common.{sym, ap, ◌∙◌, arith}
use Rattle.std.specs.Prelude.{refl}
use Rattle.document.specs.Reading.{few_replicas}
use Rattle.std.proofs.Math.Option.{some}
use Rattle.table.specs.Rules.{found_head, not_found}
use Rattle.table.specs.Slots.{head_at_law}
use Rattle.table.proofs.find.head.Goals as goal

pub returns-in_err-i : goal.returns-in_err-i
returns-in_err-i c =
    rw c.from_residual.ensures (not_found _ _ _ refl (sym c.slot_of.ensures ∙ c.in_err-i.was))

pub head-requires : goal.head-requires
head-requires c =
    let f = found_head _ _ _ _ refl (sym c.slot_of.ensures ∙ c.in_ok-i.was) in
    (c.requires, omega (arith, f.0, few_replicas c.args.t.now))

pub returns : goal.returns
returns c =
    let f = found_head _ _ _ _ refl (sym c.slot_of.ensures ∙ c.in_ok-i.was) in
    f.1 ∙ ap some (sym (c.head.ensures ∙ head_at_law _ _))
