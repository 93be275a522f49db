-- `changes::look::is_child_live` meets its contract: a pass over the replica slots. Assumes nothing.
use Rattle.std.proofs.Common.{rules, tests, arith, sym, ◌∙◌, ◌-◌}
use Rattle.document.specs.Tables.{replica_in}
use Rattle.changes.specs.Looking.{is_child_of, child_any}
use Rattle.changes.specs.Passes.{any_ran}
use Rattle.changes.proofs.look.is_child_live.Goals as goal

pub returns : goal.returns
returns c =
    let a = c.args in
    let m = c.replicas_used.result in
    any_ran (λ s. is_child_of a.directory (replica_in a.t.now s)) _ _ _ _ (m - 0) c.any.ensures.ran (omega arith) (λ x b q h. search (rules, tests))
    ∙ sym (child_any a.t.now m a.directory c.replicas_used.ensures.0)
