-- `changes::look::takes_name` meets its contract: shown in the directory, then the name. Assumes nothing.
use Rattle.std.proofs.Common.{ap, sym, ◌∙◌}
use Rattle.codec.specs.Lists.{and_go}
use Rattle.names.specs.declared.Name.{Name}
use Rattle.names.specs.Names.{same_name, same_derived}
use Rattle.document.specs.Tables.{entry_in}
use Rattle.table.specs.Slots.{name_at_law}
use Rattle.changes.specs.Looking.{taken_shown}
use Rattle.changes.proofs.look.takes_name.Goals as goal

pub returns-then-shows : goal.returns-then-shows
returns-then-shows c =
    let a = c.args in
    let name = c.read.ensures ∙ sym (name_at_law a.t.now a.s) in
    and_go _ _ (sym c.shows.ensures ∙ c.if-shows.true)
    (c.eq.ensures ∙ same_derived _ _ ∙ ap (λ (n : Name). same_name n a.name) name)
    ∙ sym (taken_shown a.directory a.name (entry_in a.t.now a.s))
