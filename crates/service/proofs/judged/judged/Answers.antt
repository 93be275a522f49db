-- `service::judged::judged` meets its contract: sound bytes are as many as a table has. Assumes nothing.
use Rattle.std.proofs.Common.{sym, ◌∙◌}
use Rattle.service.specs.Judging.{judged_cases}
use Rattle.service.proofs.judged.judged.Goals as goal

pub returns : goal.returns
returns c =
    judged_cases c.args.table.now _ _ c.ok_or.ensures.value c.as_array.ensures.cases
    (sym c.is_sound.ensures ∙ c.if-not-is_sound.false)
