-- `changes::unlink::kill` meets its contract. Assumes nothing.
use Rattle.std.specs.Prelude.{refl}
use Rattle.std.proofs.Common.{arith}
use Rattle.answers.specs.Answers.{instead}
use Rattle.changes.specs.Working.{copy_stands, copy_clock}
use Rattle.changes.specs.Killing.{kill_changes, kill_is}
use Rattle.changes.proofs.unlink.kill.Goals as goal

pub draw-stamp-requires : goal.draw-stamp-requires
draw-stamp-requires c = (
  copy_stands c.requires.sound c.fits-table refl,
  omega
      (arith, copy_clock c.requires.sound refl),
  omega (arith, c.requires.early),
)

pub change-requires : goal.change-requires
change-requires c = kill_changes c.requires _ _ refl _ _ c.dead.ensures c.draw-stamp.ensures.1

pub returns : goal.returns
returns c = instead _ (kill_is c.requires _ _ refl _ _ c.dead.ensures c.draw-stamp.ensures.0 c.draw-stamp.ensures.1) c.change.ensures
