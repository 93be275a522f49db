-- `merge::live::revive` meets its contract: the clock, then the state. Assumes nothing.
use Rattle.std.specs.Prelude.{refl}
use Rattle.merge.specs.Live.{revive_none, revive_ready, revive_made}
use Rattle.merge.proofs.live.revive.Goals as goal

pub returns-in_default : goal.returns-in_default
returns-in_default c = revive_none c.args.id c.args.time c.requires.works c.in_default.ensures

pub draw-stamp-requires : goal.draw-stamp-requires
draw-stamp-requires c = (c.requires.works.stands, c.requires.clock, c.requires.late)

pub state-requires : goal.state-requires
state-requires c =
    revive_ready c.args.id c.args.time c.requires _ c.in-Some.ensures c.draw-stamp.ensures.0 c.draw-stamp.ensures.1 refl

pub returns : goal.returns
returns c =
    revive_made c.args.id c.args.time c.requires _ c.in-Some.ensures c.draw-stamp.ensures.0 c.draw-stamp.ensures.1 refl c.state.ensures
