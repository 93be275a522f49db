-- `service::pending::pending_bits` meets its contract. The loop's invariant: n, and those from i on; n is at most 8 for
-- each slot passed. Assumes nothing.
use Rattle.std.proofs.Common.{◌≡◌, ap, sym, ◌∙◌, arith}
use native.Mathlib.Nat.{sub-zero}
use borrow.Author.Rules.{rules}
use Rattle.numbers.specs.Nodes.{size}
use Rattle.document.specs.Tables.{replica_in}
use Rattle.service.specs.Pending.{sum_step, sum_none, pending_at, members_most}
use Rattle.service.proofs.pending.pending_bits.Goals as goal

pub loop-i-init : goal.loop-i-init
loop-i-init c = (search rules, simp sub-zero (omega arith))

pub overflow_add-n : goal.overflow_add-n
overflow_add-n c =
    let l = c.loop-i in
    let g = replica_in c.args.t.now in
    let bits : c.size.result ≡ size (g l.i).pending =
    c.size.ensures ∙ ap size (c.read.ensures ∙ sym (pending_at c.args.t.now l.i)) in
    let most = members_most 8 (g l.i).pending in
    omega (arith, l.invariant.0, c.loop-i-test.true, bits, most)

pub loop-i-preserved : goal.loop-i-preserved
loop-i-preserved c =
    let l = c.loop-i in
    let g = replica_in c.args.t.now in
    let step = sum_step g c.args.m l.i c.loop-i-test.true in
    let bits : c.size.result ≡ size (g l.i).pending =
    c.size.ensures ∙ ap size (c.read.ensures ∙ sym (pending_at c.args.t.now l.i)) in
    let most = members_most 8 (g l.i).pending in
    (omega (arith, l.invariant.0), omega (arith, l.invariant.1))

pub returns : goal.returns
returns c =
    omega (arith, c.loop-i.invariant.1, sum_none (replica_in c.args.t.now) _ _ c.loop-i-test.false)
