-- `changes::create::make` meets its contract. Assumes nothing.
use Rattle.std.specs.Prelude.{refl}
use Rattle.std.proofs.Common.{arith, ap, ◌∙◌}
use Rattle.answers.specs.Answers.{instead}
use Rattle.steps.specs.Standing.{stands}
use Rattle.numbers.specs.Nodes.{join, single}
use Rattle.document.specs.Reading.{own_at}
use Rattle.changes.specs.Working.{copy_stands, copy_own, own_few}
use Rattle.changes.specs.Creating.{make_changes, make_is, make_clock}
use Rattle.changes.proofs.create.make.Goals as goal

pub take_id-id-requires : goal.take_id-id-requires
take_id-id-requires c =
    let o = copy_own c.requires.takes.sound refl in
    (copy_stands c.requires.takes.sound c.fits-table refl, o.0, o.1)

pub draw-stamp-requires : goal.draw-stamp-requires
draw-stamp-requires c = (
  stands c.take_id-id.ensures.1,
  omega (arith, make_clock c.requires refl c.take_id-id.ensures.1),
  omega
      (arith, c.requires.takes.early),
)

pub read-requires : goal.read-requires
read-requires c = omega (arith, c.told-table)

pub single-requires : goal.single-requires
single-requires c = omega (arith, c.read.ensures, own_at c.args.table.now, own_few c.args.table.now c.requires.takes.sound)

pub born-requires : goal.born-requires
born-requires c = c.requires.shallow

pub change-requires : goal.change-requires
change-requires c = make_changes c.requires refl c.take_id-id.ensures.1 c.draw-stamp.ensures.1 _ _ _ _ _ _ c.born.ensures c.take_id-id.ensures.0

pub returns : goal.returns
returns c =
    let own = c.read.ensures ∙ own_at c.args.table.now in
    instead _
    (make_is c.requires refl c.take_id-id.ensures.1 c.draw-stamp.ensures.1 _ _ c.args.set _ _ _ _ c.born.ensures
    c.take_id-id.ensures.0 c.draw-stamp.ensures.0
    (c.join-holders.ensures ∙ ap (join c.args.set) (c.single.ensures ∙ ap single own)))
    c.change.ensures
