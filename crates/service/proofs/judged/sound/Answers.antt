-- `service::judged::sound` meets its contract: sound bytes are as many as a table has. Assumes nothing.
use Rattle.std.proofs.Common.{refl, sym, ◌∙◌}
use Rattle.service.specs.Judging.{lent_cases}
use Rattle.service.proofs.judged.sound.Goals as goal

pub returns : goal.returns
returns c =
    (refl, record { writes_back = tt; cases = lent_cases c.args.table.now c.as_mut_array.result c.as_mut_array.ensures.cases (sym c.is_sound.ensures ∙ c.if-not-is_sound.false) })
