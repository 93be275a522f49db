-- `steps::join::Entries::is_room` meets its contract. Assumes nothing.
use Rattle.std.proofs.Common.{arith, ◌∙◌, le-ltb}
use Rattle.document.specs.Reading.{few_entries}
use Rattle.steps.specs.Joining.{no_room, room_test}
use Rattle.steps.proofs.join.Entries.is_room.Goals as goal

pub returns-then-self-lt256 : goal.returns-then-self-lt256
returns-then-self-lt256 c =
    let k = c.if-self-lt256.true in
    room_test c.args.self.now.t.now c.args.directory c.args.self.now.used _ c.args.self.now.used_are (λ e. omega (arith, e, k)) c.entries_in.ensures

pub returns-else-self-lt256 : goal.returns-else-self-lt256
returns-else-self-lt256 c =
    let k = c.if-self-lt256.false in
    le-ltb _ _ k ∙ no_room c.args.self.now.t.now c.args.directory c.args.self.now.used c.args.self.now.used_are (omega (arith, k, c.args.self.now.used_are, few_entries c.args.self.now.t.now))
