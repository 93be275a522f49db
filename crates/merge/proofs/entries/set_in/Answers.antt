-- `merge::entries::set_in` meets its contract: the heads above, then the pushed replica. Assumes nothing.
use Rattle.document.specs.Tables.{head_of, table_of}
use Rattle.document.specs.Messages.{message_of}
use Rattle.document.specs.Receive.{set_above, set_if_taken}
use Rattle.steps.specs.Standing.{err_not_ok}
use Rattle.merge.specs.Entries.{both_full, both_works, first_held, first_then}
use mathlib.Core.List.Memᴰ
use Rattle.merge.proofs.entries.set_in.Goals as goal

pub set_above-requires : goal.set_above-requires
set_above-requires c = (c.requires.0, c.requires.1, λ e i. c.requires.2 e (Memᴰ.append_left _ i))

pub returns-in_err-set_above : goal.returns-in_err-set_above
returns-in_err-set_above c =
    let m = message_of c.args.message.now.bytes.now in
    let old = table_of c.args.old.now in
    rw (err_not_ok _ c.from_residual.ensures.0)
    (both_full (set_above old m.above) (set_if_taken (head_of old m.first.id) m.first) c.args.t.now c.in_err-set_above.ensures)

pub set_if_taken-requires : goal.set_if_taken-requires
set_if_taken-requires c =
    let l = c.args.message.now in
    let m = message_of l.bytes.now in
    let old = table_of c.args.old.now in (
      both_works (set_above old m.above) (set_if_taken (head_of old m.first.id) m.first) c.args.t.now c.in_ok-set_above.ensures
          c.requires.0 c.requires.2,
      c.requires.1,
      first_held l.bytes.now old c.args.t.now c.in_ok-set_above.ensures _ l.first_is c.requires.2,
    )

pub returns : goal.returns
returns c =
    let l = c.args.message.now in
    first_then l.bytes.now (table_of c.args.old.now) c.args.t.now c.in_ok-set_above.ensures _ l.first_is c.set_if_taken.ensures
