-- `merge::entries::join_all` meets its contract: the message's entries, then those that are set. Assumes nothing.
use Rattle.document.specs.Tables.{table_of}
use Rattle.document.specs.Messages.{message_of}
use Rattle.document.specs.Receive.{joined_in, set_in}
use Rattle.steps.specs.Standing.{err_not_ok}
use Rattle.merge.specs.Entries.{both_full, both_works, both_held, both_then}
use mathlib.Core.List.Memᴰ
use Rattle.merge.proofs.entries.join_all.Goals as goal

pub join_entries-requires : goal.join_entries-requires
join_entries-requires c = (c.requires.0, λ e i. c.requires.2 e (Memᴰ.append_left _ i))

pub returns-in_err-join_entries : goal.returns-in_err-join_entries
returns-in_err-join_entries c =
    let m = message_of c.args.message.now.bytes.now in
    rw (err_not_ok _ c.from_residual.ensures.0)
    (both_full (joined_in m) (set_in (table_of c.args.old.now) m) c.args.t.now c.in_err-join_entries.ensures)

pub set_in-requires : goal.set_in-requires
set_in-requires c =
    let m = message_of c.args.message.now.bytes.now in
    let ys = set_in (table_of c.args.old.now) m in (
      both_works (joined_in m) ys c.args.t.now c.in_ok-join_entries.ensures c.requires.0 c.requires.2,
      c.requires.1,
      both_held (joined_in m) ys c.args.t.now c.in_ok-join_entries.ensures c.requires.2,
    )

pub returns : goal.returns
returns c =
    let m = message_of c.args.message.now.bytes.now in
    both_then (joined_in m) (set_in (table_of c.args.old.now) m) c.args.t.now c.in_ok-join_entries.ensures c.set_in.ensures
