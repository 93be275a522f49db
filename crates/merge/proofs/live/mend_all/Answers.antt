-- `merge::live::mend_all` meets its contract. The loop's invariant: the slots from i on are left, and lead to the outcome.
-- Assumes nothing.
use Rattle.std.proofs.Common.{arith, sym, ◌∙◌}
use Rattle.std.specs.Prelude.{◌<◌}
use Rattle.document.specs.Tables.{replicas_used}
use Rattle.table.specs.Slots.{id_at}
use Rattle.steps.specs.Standing.{err_not_ok}
use Rattle.merge.specs.Live.{mending_start, mending_mends, mending_id, mending_full, mending_turn, mending_end}
use Rattle.merge.proofs.live.mend_all.Goals as goal

pub loop-i-init : goal.loop-i-init
loop-i-init c =
    let pre = c.requires in
    mending_start c.args.time c.args.t.now pre.4 pre.0 pre.1 pre.2 pre.3

pub mend-requires : goal.mend-requires
mend-requires c =
    mending_mends c.args.time c.args.t.now c.loop-i.i c.loop-i.invariant
    (omega (arith, c.loop-i-test.true, c.replicas_used-i-end.ensures.0))

pub returns-in_err-mend : goal.returns-in_err-mend
returns-in_err-mend c =
    let t = c.args.t.now in
    let loop = c.loop-i in
    let low : loop.i < replicas_used t = omega (arith, c.loop-i-test.true, c.replicas_used-i-end.ensures.0) in
    let id = c.read-id.ensures ∙ sym (id_at loop.t loop.i) ∙ (mending_id c.args.time t loop.i loop.invariant low).1 in
    rw (err_not_ok _ c.from_residual.ensures.0) (mending_full c.args.time t loop.i loop.invariant low _ id c.in_err-mend.ensures)

pub loop-i-preserved : goal.loop-i-preserved
loop-i-preserved c =
    let t = c.args.t.now in
    let loop = c.loop-i in
    let low : loop.i < replicas_used t = omega (arith, c.loop-i-test.true, c.replicas_used-i-end.ensures.0) in
    let id = c.read-id.ensures ∙ sym (id_at loop.t loop.i) ∙ (mending_id c.args.time t loop.i loop.invariant low).1 in
    mending_turn c.args.time t loop.i loop.invariant low _ id c.in_ok-mend.ensures

pub returns : goal.returns
returns c =
    mending_end c.args.time c.args.t.now c.loop-i.i c.loop-i.invariant
    (omega (arith, c.loop-i-test.false, c.replicas_used-i-end.ensures.0))
