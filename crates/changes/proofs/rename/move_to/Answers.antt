-- `changes::rename::move_to` meets its contract. Assumes nothing.
use Rattle.std.specs.Prelude.{refl}
use Rattle.std.proofs.Common.{arith}
use Rattle.answers.specs.Answers.{instead}
use Rattle.changes.specs.Working.{copy_stands, copy_clock}
use Rattle.changes.specs.Renaming.{move_changes, move_is}
use Rattle.changes.proofs.rename.move_to.Goals as goal

pub draw-stamp-requires : goal.draw-stamp-requires
draw-stamp-requires c = (
  copy_stands c.requires.both.file.sound c.fits-table refl,
  omega
      (arith, copy_clock c.requires.both.file.sound refl),
  omega (arith, c.requires.both.file.early),
)

pub placed-requires : goal.placed-requires
placed-requires c = c.requires.shallow

pub change-requires : goal.change-requires
change-requires c = move_changes c.requires c.args.name _ _ refl _ _ c.placed.ensures c.draw-stamp.ensures.1

pub returns : goal.returns
returns c = instead _ (move_is c.requires c.args.name _ _ refl _ _ c.placed.ensures c.draw-stamp.ensures.0 c.draw-stamp.ensures.1) c.change.ensures
