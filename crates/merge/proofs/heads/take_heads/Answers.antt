-- `merge::heads::take_heads` meets its contract: one step after the other. Assumes nothing.
use Rattle.std.specs.Prelude.{refl}
use Rattle.steps.specs.Standing.{err_not_ok}
use Rattle.merge.specs.Clocks.{clocks_works}
use Rattle.merge.specs.Heads.{clocks_owns, above_full, above_owns, above_then}
use Rattle.merge.proofs.heads.take_heads.Goals as goal

pub take_clocks-requires : goal.take_clocks-requires
take_clocks-requires c = c.requires.works.stands

pub make_above-requires : goal.make_above-requires
make_above-requires c =
    let m = c.args.message.now.bytes.now in
    clocks_owns m c.requires c.take_clocks.ensures (clocks_works m c.requires.works c.take_clocks.ensures)

pub returns-in_err-make_above : goal.returns-in_err-make_above
returns-in_err-make_above c =
    rw (err_not_ok _ c.from_residual.ensures.0)
    (above_full c.args.message.now.bytes.now c.requires c.take_clocks.ensures c.in_err-make_above.ensures refl)

pub take_first-requires : goal.take_first-requires
take_first-requires c =
    above_owns c.args.message.now.bytes.now c.requires c.take_clocks.ensures c.in_ok-make_above.ensures refl

pub returns : goal.returns
returns c =
    above_then c.args.message.now.bytes.now c.requires c.take_clocks.ensures c.in_ok-make_above.ensures refl c.take_first.ensures
