-- `names::is_clean` meets its contract: std's test on every byte. Assumes nothing.
use Rattle.std.specs.Prelude.{ℕ, ◌&&◌, not, eqb}
use Rattle.std.proofs.Common.{rules, tests, ◌∙◌}
use Rattle.std.proofs.lemmas.Iterator.{YieldsList-from_slice}
use Rattle.std.proofs.lemmas.Iterator.Search.{all_from_yields_List}
use Rattle.codec.specs.Lists.{every_list_all}
use Rattle.names.proofs.is_clean.Goals as goal

pub returns : goal.returns
returns c =
    all_from_yields_List (λ (b : ℕ). not (eqb b 0) && not (eqb b 47)) _ _ c.all.result c.all.ensures.ran
    (YieldsList-from_slice c.args.s.now cc) (λ x b q k. search (rules, tests))
    ∙ every_list_all _ c.args.s.now
