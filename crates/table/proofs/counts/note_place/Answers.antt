-- `table::counts::note_place` meets its contract: the counts stay. Assumes nothing.
use Rattle.std.specs.Prelude.{refl}
use Rattle.std.proofs.Math.Seq.{map-set_same}
use Rattle.table.specs.declared.counts.Tally.{Tally}
use Rattle.table.proofs.counts.note_place.Goals as goal

pub returns-then-is_at_place : goal.returns-then-is_at_place
returns-then-is_at_place c = map-set_same (λ (x : Tally). x.count) c.args.tallies.now _ _ (record { count = 0; place = 0 }) refl
