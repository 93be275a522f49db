-- `codec::all_are` meets its contract: std's test on every byte. Assumes nothing.
use Rattle.std.specs.Prelude.{ℕ, eqb}
use Rattle.std.proofs.Common.{rules, tests, ◌∙◌}
use Rattle.std.proofs.lemmas.Iterator.{YieldsList-from_slice}
use Rattle.std.proofs.lemmas.Iterator.Search.{all_from_yields_List}
use Rattle.codec.specs.Lists.{every_list_all}
use Rattle.codec.proofs.all_are.Goals as goal

pub returns : goal.returns
returns c =
    all_from_yields_List (λ (b : ℕ). eqb b c.args.v) _ _ c.all.result c.all.ensures.ran (YieldsList-from_slice c.args.s.now cc) (λ x b q k. search (rules, tests))
    ∙ every_list_all _ c.args.s.now
