-- `steps::state::state` meets its contract: a new replica, or one that was another. Assumes nothing.
use Rattle.std.specs.Prelude.{refl}
use Rattle.std.proofs.Common.{sym}
use Rattle.steps.specs.Standing.{err_not_ok}
use Rattle.steps.specs.States.{put_full, then_places, then_set}
use Rattle.steps.proofs.state.state.Goals as goal

pub make-requires : goal.make-requires
make-requires c = (c.requires, c.in_default.ensures)

pub put-requires : goal.put-requires
put-requires c = c.requires.stands

pub returns-in_err-put : goal.returns-in_err-put
returns-in_err-put c =
    rw (err_not_ok _ c.from_residual.ensures.0) (put_full c.args.h c.requires (sym c.in_err-put.ensures.0) _)

pub set_places-requires : goal.set_places-requires
set_places-requires c = then_places c.args.h c.requires (sym c.in_ok-put.ensures.0) _ (c.in_ok-put.ensures.1 refl) _ c.in-Some.ensures

pub returns : goal.returns
returns c =
    then_set c.args.h c.requires (sym c.in_ok-put.ensures.0) _ (c.in_ok-put.ensures.1 refl) _ c.in-Some.ensures _ _ c.set_places.ensures
