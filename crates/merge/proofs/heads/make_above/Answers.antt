-- `merge::heads::make_above` meets its contract. The loop's invariant: the heads from j on are through. Assumes nothing.
use Rattle.std.proofs.Common.{arith, sym, subst}
use Rattle.std.specs.Prelude.{refl, ℕ}
use Rattle.document.specs.Tables.{table_of}
use Rattle.steps.specs.Standing.{err_not_ok}
use Rattle.merge.specs.Heads.{Making, making_start, making_turn, making_full, making_end}
use Rattle.merge.proofs.heads.make_above.Goals as goal

pub loop-j-init : goal.loop-j-init
loop-j-init c =
    let m = c.args.message.now in
    let t = c.args.t.now in
    subst (λ (k : ℕ). Making m.bytes.now (table_of t) k t) (sym m.heads_are)
    (making_start m.bytes.now (table_of t) (omega (arith, m.some_heads, m.heads_are)) c.requires refl)

pub make_missing-requires : goal.make_missing-requires
make_missing-requires c = record { works = c.loop-j.invariant.works; own = c.loop-j.invariant.also.1 }

pub returns-in_err-make_missing : goal.returns-in_err-make_missing
returns-in_err-make_missing c =
    rw (err_not_ok _ c.from_residual.ensures.0)
    (making_full c.args.message.now.bytes.now (table_of c.args.t.now) _ c.loop-j.invariant c.loop-j-test.true _ c.head.ensures _
    c.in_err-make_missing.ensures refl)

pub loop-j-preserved : goal.loop-j-preserved
loop-j-preserved c =
    making_turn c.args.message.now.bytes.now (table_of c.args.t.now) _ c.loop-j.invariant c.loop-j-test.true _ c.head.ensures _
    c.in_ok-make_missing.ensures refl

pub returns : goal.returns
returns c =
    making_end c.args.message.now.bytes.now (table_of c.args.t.now) _ c.loop-j.invariant (λ l. omega (arith, l, c.loop-j-test.false))
