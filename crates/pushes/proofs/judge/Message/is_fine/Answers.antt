-- `pushes::judge::Message::is_fine` meets its contract: what was judged in order is document 01's judgement.
-- Assumes nothing.
use Rattle.std.proofs.Common.{arith}
use Rattle.std.proofs.lemmas.Grind.{common_steps}
use Rattle.pushes.specs.Reading.{push_tests}
use Rattle.pushes.proofs.judge.Message.is_fine.Goals as goal

pub returns-then-ends_at_root : goal.returns-then-ends_at_root
returns-then-ends_at_root c =
    let m = c.args.self.now in
    grind (arith, common_steps, push_tests m.nodes m.bytes.now m.header m.told, m.fine)

pub returns-else-ends_at_root : goal.returns-else-ends_at_root
returns-else-ends_at_root c =
    let m = c.args.self.now in
    grind (arith, common_steps, push_tests m.nodes m.bytes.now m.header m.told, m.fine)
