-- `table::is_sound` meets its contract: the length, the ranges, the rules. Assumes nothing.
use Rattle.std.proofs.Common.{ap, arith, sym, ◌∙◌, refl}
use Rattle.std.proofs.lemmas.Grind.{common_steps}
use Rattle.codec.specs.Lists.{and_stop}
use Rattle.document.specs.Tables.{table_in_range}
use Rattle.document.specs.Sound.{sound_bytes}
use Rattle.table.specs.Ranges.{range_nodes, range_other}
use Rattle.table.specs.Rules.{sound_tests}
use Rattle.table.specs.Tests.{and_ended, and_went}
use Rattle.table.proofs.is_sound.Goals as goal

pub returns-in_default : goal.returns-in_default
unfolding sound_bytes
returns-in_default c = and_stop _ _ (range_other c.args.t.now (λ e. grind (arith, common_steps)))

pub keeps-requires : goal.keeps-requires
keeps-requires c = rw c.of.ensures (range_nodes _ (sym c.in_range.ensures ∙ c.if-in_range.true))

pub returns-then-in_range : goal.returns-then-in_range
returns-then-in_range c =
    let u = c.of.result in
    let same = c.of.ensures ∙ c.in-Ok.ensures.1.same in
    rw (← same, sound_tests u.t.now u.replicas u.entries u.replicas_are u.entries_are)
    (and_went (c.in_range.ensures ∙ ap table_in_range (sym c.of.ensures)) c.if-in_range.true c.keeps.ensures)

pub returns-else-in_range : goal.returns-else-in_range
returns-else-in_range c =
    rw (← c.in-Ok.ensures.1.same, sound_tests _ _ _ refl refl) (and_ended _ c.in_range.ensures c.if-in_range.false)
