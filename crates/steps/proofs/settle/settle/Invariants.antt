-- `steps::settle::settle` meets its contract. The loop's invariant: the first i replicas are settled. Assumes nothing.
use Rattle.std.proofs.Common.{◌≡◌}
use Rattle.std.specs.Prelude.{true}
use Rattle.document.specs.Tables.{table_of, with_replicas}
use Rattle.steps.specs.Standing.{Is}
use Rattle.steps.specs.Settling.{settled_to, numbered_to}
use Rattle.steps.proofs.settle.settle.Given as goal

abbrev pub invariant-loop-i : goal.invariant-loop-i
invariant-loop-i l =
    Is l.t (with_replicas (table_of l.initial.t) (settled_to (table_of l.old) (table_of l.initial.t) l.i (table_of l.initial.t).replicas))
    × (numbered_to (table_of l.old) (table_of l.initial.t) l.i (table_of l.initial.t).replicas ≡ true)
