-- `pushes::write::write_above` meets its contract. The loop's invariant: what was written, with the heads from d on up
-- behind it, is what is to be written. Assumes nothing.
use Rattle.std.proofs.Common.{ap, sym, ◌∙◌, ◌+◌, ◌*◌, arith, length}
use Rattle.std.specs.Prelude.{List, ℕ}
use Rattle.codec.specs.Bytes.{splice}
use Rattle.records.specs.declared.head.Head.{Head}
use Rattle.records.specs.Heads.{head_bytes}
use Rattle.document.specs.Tables.{rows, table_of}
use Rattle.document.specs.Rows.{rows_end}
use Rattle.views.specs.Chains.{chain_root, chain_gone, chain_up_law, chain_end}
use Rattle.pushes.specs.Writing.{head_written}
use Rattle.pushes.proofs.write.write_above.Invariants.{left}
use Rattle.pushes.proofs.write.write_above.Goals as goal

pub returns-then-d-eq0 : goal.returns-then-d-eq0
returns-then-d-eq0 c =
    rows_end head_bytes c.loop-i.out _ (chain_root _ c.loop-i.d _ c.if-d-eq0.true) ∙ c.loop-i.invariant.all

pub returns-in_default : goal.returns-in_default
returns-in_default c =
    rows_end head_bytes c.loop-i.out _ (chain_gone _ c.loop-i.d _ c.in_default.ensures) ∙ c.loop-i.invariant.all

pub write-requires : goal.write-requires
write-requires c =
    let l = c.loop-i in
    let a = c.args in
    let up = chain_up_law a.h.depth l.i l.d (table_of a.t.now) c.in-Some.up (omega arith) c.if-d-eq0.false c.in-Some.ensures in
    omega (arith, ap length up, l.invariant.count)

pub loop-i-preserved : goal.loop-i-preserved
loop-i-preserved c =
    let l = c.loop-i in
    let a = c.args in
    let h = c.in-Some.up in
    let up = chain_up_law a.h.depth l.i l.d (table_of a.t.now) h (omega arith) c.if-d-eq0.false c.in-Some.ensures in
    let rest = left a.t.now a.h.depth h.directory (l.i + 1) in
    record {
      count = omega (arith, ap length up, l.invariant.count);
      all =
          ap (λ (o : List ℕ). splice o (56 + 40 * (l.i + 1)) (rows head_bytes rest)) c.write.ensures
          ∙ head_written l.out l.i h rest (omega (arith, ap length up, l.invariant.count))
          ∙ ap (λ (hs : List Head). splice l.out (56 + 40 * l.i) (rows head_bytes hs)) (sym up)
          ∙ l.invariant.all;
    }

pub returns : goal.returns
returns c =
    rows_end head_bytes c.loop-i.out _ (chain_end c.args.h.depth c.loop-i.i c.loop-i.d _ (omega arith))
    ∙ c.loop-i.invariant.all
