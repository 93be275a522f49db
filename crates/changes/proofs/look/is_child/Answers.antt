-- `changes::look::is_child` meets its contract. Assumes nothing.
use Rattle.std.proofs.Common.{sym, ◌∙◌, eq-eqb, ne_eqb, refl}
use Rattle.codec.specs.Lists.{and_stop, and_go}
use Rattle.changes.specs.Looking.{child_head}
use Rattle.changes.proofs.look.is_child.Goals as goal

pub returns-then-is_live : goal.returns-then-is_live
returns-then-is_live c =
    and_go _ _ (eq-eqb _ _ c.if-h-directory.true) (and_go _ _ (sym c.is_live.ensures ∙ c.if-is_live.true) refl)
    ∙ sym (child_head c.args.t.now c.args.directory c.args.s c.read-h.ensures)

pub returns-else-is_live : goal.returns-else-is_live
returns-else-is_live c =
    c.if-is_live.false
    ∙ and_go _ _ (eq-eqb _ _ c.if-h-directory.true) (and_stop _ _ (sym c.is_live.ensures ∙ c.if-is_live.false))
    ∙ sym (child_head c.args.t.now c.args.directory c.args.s c.read-h.ensures)

pub returns-else-h-directory : goal.returns-else-h-directory
returns-else-h-directory c =
    ne_eqb _ _ c.if-h-directory.false ∙ and_stop _ _ (ne_eqb _ _ c.if-h-directory.false)
    ∙ sym (child_head c.args.t.now c.args.directory c.args.s c.read-h.ensures)
