-- `merge::entries::set_above` meets its contract. The loop's invariant: the heads from j on are through. Assumes nothing.
use Rattle.std.proofs.Common.{arith, sym, subst}
use Rattle.std.specs.Prelude.{refl, ℕ}
use Rattle.document.specs.Tables.{table_of}
use Rattle.steps.specs.Standing.{err_not_ok}
use Rattle.merge.specs.Entries.{Setting, setting_start, setting_turn, setting_full, setting_end, setting_held_now}
use Rattle.merge.proofs.entries.set_above.Goals as goal

pub loop-j-init : goal.loop-j-init
loop-j-init c =
    let m = c.args.message.now in
    let old = table_of c.args.old.now in
    let t = c.args.t.now in
    subst (λ (k : ℕ). Setting m.bytes.now old (table_of t) k t) (sym m.heads_are)
    (setting_start m.bytes.now old (table_of t) (omega (arith, m.some_heads, m.heads_are)) c.requires.0 refl c.requires.2)

pub set_if_made-requires : goal.set_if_made-requires
set_if_made-requires c = (
  c.loop-j.invariant.works,
  c.requires.1,
  setting_held_now c.args.message.now.bytes.now (table_of c.args.old.now) (table_of c.args.t.now) _ c.loop-j.invariant
      c.loop-j-test.true _ c.head.ensures,
)

pub returns-in_err-set_if_made : goal.returns-in_err-set_if_made
returns-in_err-set_if_made c =
    rw (err_not_ok _ c.from_residual.ensures.0)
    (setting_full c.args.message.now.bytes.now (table_of c.args.old.now) (table_of c.args.t.now) _ c.loop-j.invariant
    c.loop-j-test.true _ c.head.ensures _ c.in_err-set_if_made.ensures refl)

pub loop-j-preserved : goal.loop-j-preserved
loop-j-preserved c =
    setting_turn c.args.message.now.bytes.now (table_of c.args.old.now) (table_of c.args.t.now) _ c.loop-j.invariant
    c.loop-j-test.true _ c.head.ensures _ c.in_ok-set_if_made.ensures refl

pub returns : goal.returns
returns c =
    setting_end c.args.message.now.bytes.now (table_of c.args.old.now) (table_of c.args.t.now) _ c.loop-j.invariant
    (λ l. omega (arith, l, c.loop-j-test.false))
