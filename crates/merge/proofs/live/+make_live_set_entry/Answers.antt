-- `merge::live::make_live` and `merge::live::set_entry`, which call each other, meet their contracts: depth falls at each
-- turn. Assumes nothing.
use Rattle.std.proofs.Common.{sym, arith}
use Rattle.steps.specs.Standing.{err_not_ok}
use Rattle.merge.specs.Live.{light_low, light_made, over_live, over_live_made, over_dead, over_full, over_next, over_made}
use Rattle.merge.proofs.live.+make_live_set_entry.Goals as goal

pub make_live-returns : goal.make_live-returns
make_live-returns t c =
    let a = c.args in
    light_made a.id a.depth a.time c.requires _ c.directory_of-place.ensures c.set_entry.ensures

pub set_entry-revive-requires : goal.set_entry-revive-requires
set_entry-revive-requires t c =
    let a = c.args in
    over_live a.id a.depth a.time c.requires.0 a.place c.requires.1

pub set_entry-returns-then-not-is_dead : goal.set_entry-returns-then-not-is_dead
set_entry-returns-then-not-is_dead t c =
    let a = c.args in
    over_live_made a.id a.depth a.time c.requires.0 a.place c.requires.1 (sym c.if-not-is_dead.ensures) c.revive.ensures

pub set_entry-overflow_sub-depth : goal.set_entry-overflow_sub-depth
set_entry-overflow_sub-depth t c =
    let a = c.args in
    omega (arith, light_low a.id a.depth a.time c.requires.0)

pub set_entry-make_live-requires : goal.set_entry-make_live-requires
set_entry-make_live-requires t c =
    let a = c.args in (
      omega (arith, c.decreases, light_low a.id a.depth a.time c.requires.0),
      over_dead a.id a.depth a.time c.requires.0 a.place c.requires.1 (sym c.if-not-is_dead.ensures),
    )

pub set_entry-returns-in_err-make_live : goal.set_entry-returns-in_err-make_live
set_entry-returns-in_err-make_live t c =
    let a = c.args in
    rw (err_not_ok _ c.from_residual.ensures.0)
    (over_full a.id a.depth a.time c.requires.0 a.place c.requires.1 (sym c.if-not-is_dead.ensures) c.in_err-make_live.ensures)

pub set_entry-revive-requires-2 : goal.set_entry-revive-requires-2
set_entry-revive-requires-2 t c =
    let a = c.args in
    over_next a.id a.depth a.time c.requires.0 a.place c.requires.1 (sym c.if-not-is_dead.ensures)
    c.in_ok-make_live.ensures

pub set_entry-returns : goal.set_entry-returns
set_entry-returns t c =
    let a = c.args in
    over_made a.id a.depth a.time c.requires.0 a.place c.requires.1 (sym c.if-not-is_dead.ensures)
    c.in_ok-make_live.ensures c.revive-2.ensures
