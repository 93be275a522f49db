-- `changes::unlink::alive` meets its contract. Assumes nothing.
use Rattle.std.proofs.Common.{sym, ◌∙◌, eqb-true, subst}
use Rattle.std.proofs.lemmas.Bool.{eqb-false}
use Rattle.answers.specs.declared.refusal.Refusal.{Refusal}
use Rattle.answers.specs.Passing.{handed_on}
use Rattle.changes.specs.Killing.{Spared, takes_held, spared_late, spared_not_held, spared_dead}
use Rattle.changes.proofs.unlink.alive.Goals as goal

pub returns-then-time-gt-LATEST : goal.returns-then-time-gt-LATEST
returns-then-time-gt-LATEST c = spared_late c.args.table.now c.args.time c.args.id c.if-time-gt-LATEST.true

pub returns-in_err-h : goal.returns-in_err-h
returns-in_err-h c =
    handed_on c.from_residual.result c.in_err-h.field-0.0 c.from_residual.ensures.1 _ _
    (subst (λ (e : Refusal). Spared c.args.table.now c.args.time c.args.id e) (sym c.in_err-h.ensures.0)
    (spared_not_held c.args.table.now c.args.time c.args.id c.if-time-gt-LATEST.false c.in_err-h.ensures.1))

pub returns-then-not-is_live : goal.returns-then-not-is_live
returns-then-not-is_live c =
    let a = c.args in
    spared_dead a.table.now a.time a.id (takes_held a.table.now a.id a.time c.requires c.if-time-gt-LATEST.false c.in_ok-h.ensures)
    (eqb-false _ 1 (sym c.is_live.ensures ∙ c.if-not-is_live.true))

pub returns : goal.returns
returns c =
    let a = c.args in
    let k = takes_held a.table.now a.id a.time c.requires c.if-time-gt-LATEST.false c.in_ok-h.ensures in
    (k.0, k.1, eqb-true _ 1 (sym c.is_live.ensures ∙ c.if-not-is_live.false))
