-- `service::start::refresh` meets its contract: the header and the root's slot, written over zeros, are the fresh
-- table's bytes. Assumes nothing.
use Rattle.std.proofs.Common.{arith, ◌∙◌}
use Rattle.codec.specs.Laws.{after}
use Rattle.service.specs.Starting.{fresh_bytes, zeros_filled}
use Rattle.service.proofs.start.refresh.Goals as goal

pub returns : goal.returns
returns c =
    after _ _ c.write-2.ensures
    (after _ _ c.write.ensures (zeros_filled _ _ c.fill.ensures.len c.fill.ensures.clones_before_last c.fill.ensures.last))
    ∙ fresh_bytes c.args.t.now c.args.node c.args.n c.root.result (omega arith) c.root.ensures
