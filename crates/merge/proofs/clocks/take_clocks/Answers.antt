-- `merge::clocks::take_clocks` meets its contract: the header with the clock that is the highest then. Assumes nothing.
use Rattle.std.proofs.Common.{arith, ◌≡◌, ◌∙◌}
use borrow.Author.Rules.{rules}
use Rattle.steps.specs.Standing.{moved}
use Rattle.steps.specs.States.{header_read}
use Rattle.document.specs.Tables.{slots_from}
use Rattle.document.specs.Messages.{message_of}
use Rattle.document.specs.Receive.{highest, stamps_of}
use Rattle.merge.specs.Message.{heads_in}
use Rattle.merge.specs.Clocks.{head_stamp, entry_stamp, high_ran, high_all, clocks_taken}
use Rattle.merge.proofs.clocks.take_clocks.Goals as goal

pub returns : goal.returns
returns c =
    let m = c.args.message.now in
    let l = m.bytes.now in
    let seen : c.fold-seen.result ≡ highest c.read-old.result.highest (slots_from (head_stamp l) 0 (heads_in l)) =
    high_ran (head_stamp l) _ _ _ _ _ c.fold-seen.ensures.ran (omega (arith, m.heads_are)) (λ a x b q k. search rules) in
    let all : c.fold-all.result ≡ highest c.read-old.result.highest (stamps_of (message_of l)) =
    high_ran (entry_stamp l) _ _ _ _ _ c.fold-all.ensures.ran (omega (arith, m.entries_are)) (λ a x b q k. search rules)
    ∙ high_all l c.read-old.result.highest c.fold-seen.result (omega (arith, m.some_heads, m.heads_are)) seen in
    moved (clocks_taken l c.requires c.fits-t c.read-old.result c.fold-all.result
    (c.read-old.ensures ∙ header_read c.args.t.now) all (search rules)) c.write.ensures
