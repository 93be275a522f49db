-- `steps::state::make` meets its contract. Assumes nothing.
use Rattle.std.specs.Prelude.{refl}
use Rattle.std.proofs.Common.{sym}
use Rattle.steps.specs.Standing.{stands, err_not_ok}
use Rattle.steps.specs.States.{put_full, then_make}
use Rattle.steps.proofs.state.make.Goals as goal

pub put-requires : goal.put-requires
put-requires c = c.requires.0.stands

pub returns-in_err-put : goal.returns-in_err-put
returns-in_err-put c =
    rw (err_not_ok _ c.from_residual.ensures.0) (put_full c.args.h c.requires.0 (sym c.in_err-put.ensures.0) _)

pub set-requires : goal.set-requires
set-requires c = stands (c.in_ok-put.ensures.1 refl)

pub returns : goal.returns
returns c = then_make c.args.h c.requires.0 (sym c.in_ok-put.ensures.0) _
    (c.in_ok-put.ensures.1 refl) c.requires.1 _ c.place_entry.ensures _ c.set.ensures.0 _ c.set.ensures.1
