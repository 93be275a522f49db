-- `judge::joins::first_agrees` meets its contract: not held, not newer, or taken. Assumes nothing.
use Rattle.std.proofs.Common.{◌∙◌}
use Rattle.std.proofs.lemmas.Bool.{le-leb}
use Rattle.document.specs.Tables.{table_of}
use Rattle.judge.specs.Deciding.{first_absent, first_left}
use Rattle.judge.proofs.joins.first_agrees.Goals as goal

pub returns-then-h-old : goal.returns-then-h-old
returns-then-h-old c = le-leb _ _ c.if-h-old.true ∙ first_left (table_of c.args.entries.now.t.now) c.args.h _ c.in-Some.ensures c.if-h-old.true

pub returns-in-None : goal.returns-in-None
returns-in-None c = first_absent (table_of c.args.entries.now.t.now) c.args.h _ _ c.in-None.ensures c.place_entry.ensures c.agrees.ensures
