-- `pushes::judge::Message::parse` meets its contract: a header that is fine says how long the message is.
-- Assumes nothing.
use Rattle.std.specs.Prelude.{◌≡◌, true}
use Rattle.std.proofs.Common.{arith}
use Rattle.std.proofs.lemmas.Grind.{common_steps}
use Rattle.pushes.specs.Judging.{header_fine}
use Rattle.pushes.specs.Reading.{sized_by}
use Rattle.pushes.proofs.judge.Message.parse.Goals as goal

pub invariant_of-result : goal.invariant_of-result
unfolding header_fine
invariant_of-result c =
    let fine : header_fine c.args.nodes c.args.bytes.now ≡ true = grind (arith, common_steps) in
    let s = sized_by c.args.nodes c.args.bytes.now c.header-header.result c.header-header.ensures fine in
    record { few_nodes = c.requires; told = c.header-header.ensures; fine = fine; some_heads = s.0; few_heads = s.1; few_entries = s.2; whole = s.3 }
