-- `service::list::shown_in` meets its contract: a pass that counts. Assumes nothing.
use Rattle.std.proofs.Common.{rules, tests}
use Rattle.std.specs.Prelude.{ℕ}
use Rattle.document.specs.Tables.{entry_in}
use Rattle.table.specs.Passes.{count_ran}
use Rattle.changes.specs.Looking.{is_shown_in}
use Rattle.service.specs.Listing.{shown_most}
use Rattle.service.proofs.list.shown_in.Goals as goal

pub returns : goal.returns
returns c =
    let a = c.args in
    shown_most a.t.now a.directory a.k
    (count_ran (λ (i : ℕ). is_shown_in a.directory (entry_in a.t.now i)) _ _ _ _ c.count.ensures.ran c.filter.ensures.source c.filter.ensures.closure
    (λ x b q k. search (rules, tests)))
