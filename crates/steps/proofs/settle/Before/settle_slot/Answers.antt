-- `steps::settle::Before::settle_slot` meets its contract: nothing changed, the last version, or the next. Assumes nothing.
use Rattle.std.proofs.Common.{arith, ◌≡◌, ap, sym, ◌∙◌, ◌+◌, ◌*◌}
use Rattle.codec.specs.Bytes.{splice}
use Rattle.slots.specs.declared.replica.Replica.{Replica}
use Rattle.slots.specs.declared.table_header.TableHeader.{TableHeader}
use Rattle.slots.specs.Replicas.{replica_bytes}
use Rattle.steps.specs.Standing.{moved, never}
use Rattle.steps.specs.Settling.{raised_is, slot_kept, slot_past, slot_raised}
use Rattle.document.specs.Reading.{few_replicas}
use Rattle.steps.specs.States.{header_read}
use Rattle.steps.proofs.settle.Before.settle_slot.Goals as goal

pub returns-then-is_same : goal.returns-then-is_same
returns-then-is_same c =
    let p = slot_kept c.args.self.now.bytes c.fits-t c.requires (sym c.is_same.ensures ∙ c.if-is_same.true) in
    (p.0, λ _. p.1)

pub overflow_mul-i : goal.overflow_mul-i
overflow_mul-i c = omega (arith, c.requires.slot, few_replicas c.args.t.now)

pub overflow_add-i : goal.overflow_add-i
overflow_add-i c = omega (arith, c.requires.slot, few_replicas c.args.t.now)

pub read-r-requires : goal.read-r-requires
read-r-requires c = omega (arith, c.requires.slot, c.told-t, few_replicas c.args.t.now)

pub returns-then-r : goal.returns-then-r
returns-then-r c = (
  slot_past c.args.self.now.bytes c.fits-t c.requires (sym c.if-is_same.false ∙ c.is_same.ensures)
      (ap (λ (r : Replica). r.version) (sym c.read-r.ensures) ∙ c.if-r.true),
  λ e. never e,
)

pub overflow_mul-i-2 : goal.overflow_mul-i-2
overflow_mul-i-2 c = omega (arith, c.requires.slot, few_replicas c.args.t.now)

pub overflow_add-i-2 : goal.overflow_add-i-2
overflow_add-i-2 c = omega (arith, c.requires.slot, few_replicas c.args.t.now)

pub write-requires : goal.write-requires
write-requires c = omega (arith, c.requires.slot, c.told-t, few_replicas c.args.t.now)

pub returns : goal.returns
returns c =
    let r = c.read-r.result in
    let same : r ≡ _ = c.read-r.ensures in
    let own = ap (λ (z : TableHeader). z.own) (c.read-own.ensures ∙ header_read c.args.t.now) in
    let p = slot_raised c.args.self.now.bytes c.fits-t c.requires (sym c.if-is_same.false ∙ c.is_same.ensures)
    (λ v. c.if-r.false (ap (λ (r : Replica). r.version) same ∙ v)) in (
      p.0,
      λ _. moved p.1
          (c.write.ensures ∙ ap (λ (z : Replica). splice c.args.t.now (32 + 48 * c.args.i) (replica_bytes z)) (raised_is same own c.without.ensures)),
    )
