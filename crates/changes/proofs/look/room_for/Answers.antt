-- `changes::look::room_for` meets its contract. Assumes nothing.
use Rattle.std.proofs.Common.{sym, ◌∙◌}
use Rattle.document.specs.Tables.{table_of}
use Rattle.changes.specs.Looking.{room_9, room_11}
use Rattle.changes.proofs.look.room_for.Goals as goal

pub returns-then-is_name_taken : goal.returns-then-is_name_taken
returns-then-is_name_taken c =
    room_9 (table_of c.args.t.now) c.args.p c.args.name (sym c.is_name_taken.ensures ∙ c.if-is_name_taken.true)

pub returns-then-p-ge-DEEPEST : goal.returns-then-p-ge-DEEPEST
returns-then-p-ge-DEEPEST c =
    room_11 (table_of c.args.t.now) c.args.p c.args.name (sym c.is_name_taken.ensures ∙ c.if-is_name_taken.false)
    c.if-p-ge-DEEPEST.true
