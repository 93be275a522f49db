-- `codec::is_zero` meets its contract: the eights, and what is left behind them. Assumes nothing.
use Rattle.std.specs.Prelude.{List, ℕ, ◌/◌, eqb, length}
use Rattle.std.specs.List.{list_all}
use Rattle.std.specs.Int.{w64, from_le_bytes}
use Rattle.std.proofs.Common.{rules, tests, sym, ap, ◌∙◌}
use Rattle.std.proofs.lemmas.Iterator.{YieldsList-from_slice}
use Rattle.std.proofs.lemmas.Iterator.Search.{all_from_yields_List}
use Rattle.codec.specs.Bytes.{all_are}
use Rattle.codec.specs.Lists.{and_stop, and_go}
use Rattle.codec.specs.Laws.{zero_eights}
use Rattle.codec.proofs.is_zero.Goals as goal

pub returns-then-all : goal.returns-then-all
returns-then-all c =
    let s : List ℕ = c.part.result.now in
    let eights = all_from_yields_List (λ (x : List ℕ). eqb (from_le_bytes w64 x) 0) _ _ c.all.result c.all.ensures.ran
    (YieldsList-from_slice c.as_chunks.result.0.now cc) (λ x b q k. search (rules, tests))
    ∙ ap (list_all (λ (x : List ℕ). eqb (from_le_bytes w64 x) 0)) c.as_chunks.ensures.front in
    and_go _ _ (sym eights ∙ c.if-all.true) (c.all_are.ensures ∙ ap (all_are 0) c.as_chunks.ensures.back)
    ∙ zero_eights (length s / 8) s
    ∙ ap (all_are 0) c.part.ensures

pub returns-else-all : goal.returns-else-all
returns-else-all c =
    let s : List ℕ = c.part.result.now in
    let eights = all_from_yields_List (λ (x : List ℕ). eqb (from_le_bytes w64 x) 0) _ _ c.all.result c.all.ensures.ran
    (YieldsList-from_slice c.as_chunks.result.0.now cc) (λ x b q k. search (rules, tests))
    ∙ ap (list_all (λ (x : List ℕ). eqb (from_le_bytes w64 x) 0)) c.as_chunks.ensures.front in
    c.if-all.false ∙ and_stop _ _ (sym eights ∙ c.if-all.false)
    ∙ zero_eights (length s / 8) s
    ∙ ap (all_are 0) c.part.ensures
