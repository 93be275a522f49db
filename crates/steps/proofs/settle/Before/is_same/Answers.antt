-- `steps::settle::Before::is_same` meets its contract: a new replica, another head, or the entries. Assumes nothing.
use Rattle.std.proofs.Common.{arith, ◌∙◌, sym, le-ltb}
use Rattle.document.specs.Reading.{few_replicas, few_entries}
use Rattle.steps.specs.Standing.{never}
use Rattle.steps.specs.Settling.{same_parts, is_new, is_renewed, is_kept}
use Rattle.steps.proofs.settle.Before.is_same.Goals as goal
use Rattle.steps.proofs.settle.Before.is_same.Goals.{then-i-self, else-i-self}

pub overflow_mul-o : goal.overflow_mul-o
overflow_mul-o c = omega (arith, c.requires.slot, few_replicas c.args.t.now)

pub overflow_add-o : goal.overflow_add-o
overflow_add-o c = omega (arith, c.requires.slot, few_replicas c.args.t.now)

pub part-requires : goal.part-requires
part-requires c = omega (arith, c.requires.slot, c.requires.settles.before.size, few_replicas c.args.t.now)

pub part-requires-then-i-self : goal.part-requires-then-i-self
part-requires-then-i-self c = omega (arith, c.requires.slot, c.told-t, few_replicas c.args.t.now)

pub overflow_add-o-then-same_bytes : goal.overflow_add-o-then-same_bytes
overflow_add-o-then-same_bytes c = omega (arith, c.requires.slot, few_replicas c.args.t.now)

pub read-requires : goal.read-requires
read-requires c = omega (arith, c.requires.slot, c.told-t, few_replicas c.args.t.now)

pub are_entries_same-requires : goal.are_entries_same-requires
are_entries_same-requires c = omega (arith, c.requires.present, few_entries c.args.t.now)

pub returns-then-same_bytes : goal.returns-then-same_bytes
returns-then-same_bytes c =
    let used = c.args.self.now.was.replicas_are in
    elim c.if-i-self.branch [
      | then-i-self w ↦
          let q = same_parts w.same_bytes.ensures w.part.ensures w.part-then-i-self.ensures in
          c.are_entries_same.ensures
          ∙ is_kept c.args.self.now.bytes c.fits-t c.requires (omega (arith, w.if-i-self.true, used)) (sym q ∙ sym w.value-is ∙ c.if-same_bytes.true) _ c.read.ensures
      | else-i-self w ↦ never (sym (le-ltb _ _ w.if-i-self.false) ∙ sym w.value-is ∙ c.if-same_bytes.true)
    ]

pub returns-else-same_bytes : goal.returns-else-same_bytes
returns-else-same_bytes c =
    let used = c.args.self.now.was.replicas_are in
    elim c.if-i-self.branch [
      | then-i-self w ↦
          let q = same_parts w.same_bytes.ensures w.part.ensures w.part-then-i-self.ensures in
          let r = sym w.value-is ∙ c.if-same_bytes.false in
          w.value-is ∙ r ∙ is_renewed c.args.self.now.bytes c.fits-t c.requires (omega (arith, w.if-i-self.true, used)) (sym q ∙ r)
      | else-i-self w ↦ w.value-is ∙ le-ltb _ _ w.if-i-self.false ∙ is_new c.args.self.now.bytes c.fits-t c.requires (omega (arith, w.if-i-self.false, used))
    ]
