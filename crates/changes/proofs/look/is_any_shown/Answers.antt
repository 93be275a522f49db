-- `changes::look::is_any_shown` meets its contract: a pass over the entry slots. Assumes nothing.
use Rattle.std.proofs.Common.{rules, tests, arith, sym, ◌∙◌, ◌-◌}
use Rattle.document.specs.Tables.{entry_in}
use Rattle.changes.specs.Looking.{is_shown_in, shown_any}
use Rattle.changes.specs.Passes.{any_ran}
use Rattle.changes.proofs.look.is_any_shown.Goals as goal

pub returns : goal.returns
returns c =
    let a = c.args in
    let k = c.entries_used.result in
    any_ran (λ s. is_shown_in a.directory (entry_in a.t.now s)) _ _ _ _ (k - 0) c.any.ensures.ran (omega arith) (λ x b q h. search (rules, tests))
    ∙ sym (shown_any a.t.now k a.directory c.entries_used.ensures.0)
