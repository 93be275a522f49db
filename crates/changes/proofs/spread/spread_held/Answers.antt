-- `changes::spread::spread_held` meets its contract. Assumes nothing.
use Rattle.std.specs.Prelude.{refl}
use Rattle.std.proofs.Common.{ap, sym, ◌∙◌, true≢false}
use Rattle.answers.specs.declared.refusal.Refusal.TheVariants.{NoRoom}
use Rattle.answers.specs.Answers.{instead}
use Rattle.answers.specs.Passing.{or_refused}
use Rattle.document.specs.Steps.{with_holders}
use Rattle.changes.specs.Working.{copy_stands}
use Rattle.changes.specs.Spreading.{spread_slot, spread_ends, spread_is}
use Rattle.changes.proofs.spread.spread_held.Goals as goal

pub put-requires : goal.put-requires
put-requires c = copy_stands c.requires.sound c.fits-table refl

pub returns-in_err-or : goal.returns-in_err-or
returns-in_err-or c =
    let w = c.with_holders-wider.ensures ∙ ap (with_holders c.args.h) c.join.ensures in
    let p = or_refused c.put.result NoRoom (sym c.or.ensures ∙ c.in_err-or.was) in
    absurd (true≢false (sym (c.put.ensures.0 ∙ spread_slot c.requires refl _ w) ∙ p.0))

pub finish-requires : goal.finish-requires
finish-requires c =
    let w = c.with_holders-wider.ensures ∙ ap (with_holders c.args.h) c.join.ensures in
    spread_ends c.requires refl _ (c.put.ensures.1 (c.put.ensures.0 ∙ spread_slot c.requires refl _ w))

pub returns : goal.returns
returns c =
    let w = c.with_holders-wider.ensures ∙ ap (with_holders c.args.h) c.join.ensures in
    instead _
    (spread_is c.requires refl _ w (c.put.ensures.1 (c.put.ensures.0 ∙ spread_slot c.requires refl _ w)))
    c.finish.ensures
