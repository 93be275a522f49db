-- `table::counts::raise` meets its contract: the directory is not held; it is, and its count is raised, which is at most e.
-- Assumes nothing.
use Rattle.std.proofs.Common.{ap, sym, ◌∙◌, arith}
use Rattle.std.specs.Prelude.{map}
use Rattle.table.specs.declared.counts.Tally.{Tally}
use Rattle.table.specs.Rules.{held_at}
use Rattle.table.specs.Slots.{first_replica}
use Rattle.table.specs.Counts.{counted_other, counted_most, tallied_at, tallied_raised}
use Rattle.table.proofs.counts.raise.Goals as goal

pub returns-in_default : goal.returns-in_default
returns-in_default c =
    let i = c.args.index.now in
    counted_other i.used.t.now i.used.replicas c.args.e _ i.ids
    (ap (first_replica i.used.t.now i.used.replicas) (sym c.directory.ensures) ∙ sym c.replica.ensures.0 ∙ c.in_default.is)
    c.requires.1

pub overflow_add-tallies : goal.overflow_add-tallies
overflow_add-tallies c =
    let i = c.args.index.now in
    let f = held_at _ _ _ _ (sym c.replica.ensures.0 ∙ c.in-Some.is) in
    let now = tallied_at i.used.t.now i.used.replicas c.args.e _ c.args.tallies.now f.0 c.requires.1 in
    omega (
      arith,
      now,
      counted_most i.used.t.now i.used.replicas c.args.e _ (map (λ (x : Tally). x.count) c.args.tallies.now) f.0 c.requires.1,
      c.requires.1.1 _ f.0,
      c.requires.0,
      i.used.entries_fit,
    )

pub returns : goal.returns
returns c =
    let i = c.args.index.now in
    let f = held_at _ _ _ _ (sym c.replica.ensures.0 ∙ c.in-Some.is) in
    tallied_raised i.used.t.now i.used.replicas c.args.e _ c.args.tallies.now i.ids (omega (arith, f.0, i.used.replicas_fit))
    (ap (first_replica i.used.t.now i.used.replicas) (sym c.directory.ensures) ∙ sym c.replica.ensures.0 ∙ c.in-Some.is)
    c.requires.1
