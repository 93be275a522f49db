-- `merge::live::mend` meets its contract: not held, dead, in a live directory, or in a dead one. Assumes nothing.
use Rattle.std.proofs.Common.{arith, sym}
use Rattle.merge.specs.Live.{mend_none, mend_dead, mend_live, mend_low, mend_lights, mend_made}
use Rattle.merge.proofs.live.mend.Goals as goal
use Rattle.merge.proofs.live.mend.Goals.{else-is_live-via-then-is_live+else-is_dead, else-is_live-via-else-is_live}

pub returns-in_default : goal.returns-in_default
returns-in_default c = mend_none c.args.id c.args.time c.requires c.in_default.ensures

pub overflow_sub-h : goal.overflow_sub-h
overflow_sub-h c =
    omega (arith, mend_low c.args.id c.args.time c.requires _ c.in-Some.ensures (sym c.if-is_live.ensures) (sym c.if-is_dead.ensures))

pub make_live-requires : goal.make_live-requires
make_live-requires c =
    mend_lights c.args.id c.args.time c.requires _ c.in-Some.ensures (sym c.if-is_live.ensures) (sym c.if-is_dead.ensures)

pub returns-then-is_dead : goal.returns-then-is_dead
returns-then-is_dead c =
    mend_made c.args.id c.args.time c.requires _ c.in-Some.ensures (sym c.if-is_live.ensures) (sym c.if-is_dead.ensures) c.make_live.ensures

pub returns : goal.returns
returns c =
    elim c.else-is_live.branch [
      | else-is_live-via-then-is_live+else-is_dead w ↦
          mend_live c.args.id c.args.time c.requires _ c.in-Some.ensures (sym w.if-is_live.ensures) (sym w.if-is_dead.ensures)
      | else-is_live-via-else-is_live w ↦ mend_dead c.args.id c.args.time c.requires _ c.in-Some.ensures (sym w.if-is_live.ensures)
    ]
