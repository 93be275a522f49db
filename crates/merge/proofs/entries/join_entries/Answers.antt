-- `merge::entries::join_entries` meets its contract. The loop's invariant: what is left to join leads to the outcome.
-- Assumes nothing.
use Rattle.std.proofs.Common.{arith}
use Rattle.std.specs.Prelude.{refl}
use Rattle.document.specs.Tables.{table_of}
use Rattle.document.specs.Messages.{message_of}
use Rattle.document.specs.Steps.{join_all}
use Rattle.document.specs.Receive.{joined_in}
use Rattle.steps.specs.Standing.{err_not_ok}
use Rattle.merge.specs.Turns.{turn_full, turn_next, turn_end}
use Rattle.merge.specs.Message.{entries_in, listed_at}
use Rattle.merge.specs.Entries.{entering_start}
use Rattle.merge.proofs.entries.join_entries.Goals as goal

pub loop-i-init : goal.loop-i-init
loop-i-init c = entering_start c.args.message.now.bytes.now c.args.t.now c.requires.0 c.requires.1

pub set-requires : goal.set-requires
set-requires c = c.loop-i.invariant.works.stands

pub returns-in_err-set : goal.returns-in_err-set
returns-in_err-set c =
    let m = c.args.message.now in
    let l = m.bytes.now in
    rw (err_not_ok _ c.from_residual.ensures.0)
    (turn_full (listed_at l) (entries_in l) (join_all (joined_in (message_of l)) (table_of c.args.t.now)) c.loop-i.i c.loop-i.invariant
    (omega (arith, c.loop-i-test.true, m.entries_are)) _ c.listed.ensures _ c.in_err-set.ensures.0 c.in_err-set.ensures.1 refl)

pub loop-i-preserved : goal.loop-i-preserved
loop-i-preserved c =
    let m = c.args.message.now in
    let l = m.bytes.now in
    turn_next (listed_at l) (entries_in l) (join_all (joined_in (message_of l)) (table_of c.args.t.now)) c.loop-i.i c.loop-i.invariant
    (omega (arith, c.loop-i-test.true, m.entries_are)) _ c.listed.ensures _ c.in_ok-set.ensures.0 c.in_ok-set.ensures.1 refl

pub returns : goal.returns
returns c =
    let m = c.args.message.now in
    let l = m.bytes.now in
    turn_end (listed_at l) (entries_in l) (join_all (joined_in (message_of l)) (table_of c.args.t.now)) c.loop-i.i c.loop-i.invariant
    (omega (arith, c.loop-i-test.false, m.entries_are))
