-- `steps::state::set_places` meets its contract: the entry at the place, and the strike. Assumes nothing.
use Rattle.std.specs.Prelude.{refl}
use Rattle.std.proofs.Common.{sym, ◌∙◌}
use Rattle.steps.specs.Standing.{stands, err_not_ok}
use Rattle.steps.specs.States.{places_full, places_only, places_both}
use Rattle.steps.proofs.state.set_places.Goals as goal

pub set-requires : goal.set-requires
set-requires c = c.requires.stands

pub returns-in_err-set : goal.returns-in_err-set
returns-in_err-set c =
    rw (err_not_ok _ c.from_residual.ensures.0) (places_full c.args.h c.args.old c.requires _ c.place_entry.ensures (sym c.in_err-set.ensures.0) _)

pub returns-then-is_same_place : goal.returns-then-is_same_place
returns-then-is_same_place c =
    places_only c.args.h c.args.old c.requires _ c.place_entry.ensures (sym c.in_ok-set.ensures.0) _ (c.in_ok-set.ensures.1 refl)
    (sym c.is_same_place.ensures ∙ c.if-is_same_place.true)

pub set-requires-2 : goal.set-requires-2
set-requires-2 c = stands (c.in_ok-set.ensures.1 refl)

pub returns : goal.returns
returns c =
    places_both c.args.h c.args.old c.requires _ c.place_entry.ensures (sym c.in_ok-set.ensures.0) _ (c.in_ok-set.ensures.1 refl)
    (sym c.is_same_place.ensures ∙ c.if-is_same_place.false) _ c.strike.ensures _ c.set-2.ensures.0 _ c.set-2.ensures.1
