-- `pushes::write::write_above` meets its contract. The loop's invariant: what was written, with the heads from d on up
-- behind it, is what is to be written. Assumes nothing.
use Rattle.std.proofs.Common.{◌≡◌, ◌+◌, ◌*◌, ◌-◌, length}
use Rattle.std.specs.Prelude.{List, ℕ}
use Rattle.codec.specs.Bytes.{splice}
use Rattle.records.specs.declared.head.Head.{Head}
use Rattle.records.specs.Heads.{head_bytes}
use Rattle.document.specs.Tables.{rows, table_of}
use Rattle.document.specs.Messages.{chain_up}
use Rattle.pushes.proofs.write.write_above.Given as goal

-- the heads that are left
abbrev pub left : List ℕ → ℕ → ℕ → ℕ → List Head
left t most d i = chain_up (most - i) d (table_of t)

abbrev pub invariant-loop-i : goal.invariant-loop-i
invariant-loop-i l = record {
  count : l.i + length (left l.t l.fn.h.depth l.d l.i) ≡ length (chain_up l.fn.h.depth l.fn.h.directory (table_of l.t));
  all : splice l.out (56 + 40 * l.i) (rows head_bytes (left l.t l.fn.h.depth l.d l.i))
      ≡ splice l.initial.out 56 (rows head_bytes (chain_up l.fn.h.depth l.fn.h.directory (table_of l.t)));
}
