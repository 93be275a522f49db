-- `merge::entries::set_if_taken` meets its contract: made, taken, or as it was. Assumes nothing.
use Rattle.document.specs.Tables.{table_of}
use Rattle.merge.specs.Entries.{first_made, first_places, first_taken, first_kept}
use Rattle.merge.proofs.entries.set_if_taken.Goals as goal

pub set-requires : goal.set-requires
set-requires c = c.requires.0.stands

pub returns-in_default : goal.returns-in_default
returns-in_default c =
    first_made (table_of c.args.old.now) c.args.h c.requires.0 c.requires.2 _ c.in_default.ensures c.place_entry.ensures
    c.set.ensures.0 c.set.ensures.1

pub set_places-requires : goal.set_places-requires
set_places-requires c =
    first_places (table_of c.args.old.now) c.args.h c.requires.0 c.requires.2 _ c.in-Some.ensures c.if-was-h.true

pub returns-then-was-h : goal.returns-then-was-h
returns-then-was-h c =
    first_taken (table_of c.args.old.now) c.args.h c.requires.0 c.requires.2 _ c.in-Some.ensures c.if-was-h.true c.set_places.ensures

pub returns : goal.returns
returns c = first_kept (table_of c.args.old.now) c.args.h c.requires.0 c.requires.2 _ c.in-Some.ensures c.if-was-h.false
