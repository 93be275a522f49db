-- `steps::settle::settle` meets its contract. The loop's invariant: the first i replicas are settled. Assumes nothing.
use Rattle.std.proofs.Common.{arith}
use Rattle.std.specs.Prelude.{refl}
use Rattle.steps.specs.Standing.{never, err_not_ok}
use Rattle.steps.specs.Settling.{numbered_none, turn_first, turn_compares, turn_past, turn_done, turn_end}
use Rattle.steps.proofs.settle.settle.Goals as goal

pub loop-i-init : goal.loop-i-init
loop-i-init c = (turn_first c.requires, numbered_none _ _ _)

pub settle_slot-requires : goal.settle_slot-requires
settle_slot-requires c =
    rw c.of.ensures
    (turn_compares c.requires c.loop-i.t c.loop-i.i c.loop-i.invariant.0 c.entries_used.ensures.0
    (omega (arith, c.loop-i-test.true, c.replicas_used-i-end.ensures.0)))

pub returns-in_err-settle_slot : goal.returns-in_err-settle_slot
returns-in_err-settle_slot c =
    let a = rw c.of.ensures at c.in_err-settle_slot.ensures in
    rw (err_not_ok _ c.from_residual.ensures.0) (
      turn_past c.requires c.loop-i.t c.loop-i.i c.loop-i.invariant.0 (omega (arith, c.loop-i-test.true, c.replicas_used-i-end.ensures.0)) a.0,
      λ e. never e,
    )

pub loop-i-preserved : goal.loop-i-preserved
loop-i-preserved c =
    let a = rw c.of.ensures at c.in_ok-settle_slot.ensures in
    turn_done c.requires c.loop-i.t c.loop-i.i c.loop-i.invariant.0 (omega (arith, c.loop-i-test.true, c.replicas_used-i-end.ensures.0))
    a.0 _ (a.1 refl) c.loop-i.invariant.1

pub returns : goal.returns
returns c =
    let p = turn_end c.requires c.loop-i.t c.loop-i.i c.loop-i.invariant.0 (omega (arith, c.loop-i-test.false, c.replicas_used-i-end.ensures.0)) c.loop-i.invariant.1 in
    (p.0, λ _. p.1)
