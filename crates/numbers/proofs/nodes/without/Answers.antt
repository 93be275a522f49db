-- `numbers::nodes::without` meets its contract: a bit that stands is turned over. Assumes nothing.
use Rattle.std.proofs.Common.{sym, ◌∙◌}
use borrow.Author.Rules.{rules}
use Rattle.numbers.specs.Laws.{has_within}
use Rattle.numbers.proofs.nodes.without.Goals as goal

pub single-requires : goal.single-requires
single-requires c = has_within 8 _ _ (search rules) (sym c.has.ensures ∙ c.if-has.true)
