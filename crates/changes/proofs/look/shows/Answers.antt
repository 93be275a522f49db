-- `changes::look::shows` meets its contract. Assumes nothing.
use Rattle.std.proofs.Common.{ap, sym, ◌∙◌, eq-eqb, ne_eqb}
use Rattle.std.specs.Prelude.{ℕ, eqb}
use Rattle.codec.specs.Lists.{and_stop, and_go}
use Rattle.changes.specs.Looking.{shown_test}
use Rattle.changes.proofs.look.shows.Goals as goal

pub returns-then-read-directory : goal.returns-then-read-directory
returns-then-read-directory c =
    let a = c.args in
    and_go _ _ (ap (λ (z : ℕ). eqb z a.directory) (sym c.read.ensures) ∙ eq-eqb _ _ c.if-read-directory.true)
    (ap (λ (z : ℕ). eqb z 1) c.read-then-read-directory.ensures) ∙ sym (shown_test a.t.now a.directory a.s)

pub returns-else-read-directory : goal.returns-else-read-directory
returns-else-read-directory c =
    let a = c.args in
    ne_eqb _ _ c.if-read-directory.false
    ∙ and_stop _ _ (ap (λ (z : ℕ). eqb z a.directory) (sym c.read.ensures) ∙ ne_eqb _ _ c.if-read-directory.false)
    ∙ sym (shown_test a.t.now a.directory a.s)
