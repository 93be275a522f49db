-- `service::acknowledged::clear_slot` meets its contract: the version, the pending bit, and the byte that is
-- written. Assumes nothing.
use Rattle.std.proofs.Common.{ap, sym, ◌∙◌, ◌+◌, ◌*◌, arith, eq-eqb, ne_eqb}
use Rattle.std.specs.Prelude.{[], ◌∷◌, ℕ, eqb}
use Rattle.codec.specs.Bytes.{splice}
use Rattle.codec.specs.Lists.{and_stop, and_go, and_both}
use Rattle.numbers.specs.Nodes.{has, without}
use Rattle.answers.specs.Answers.{refuses, does}
use Rattle.answers.specs.declared.refusal.Refusal.TheVariants.{NotTold}
use Rattle.service.specs.Acknowledging.{within, slot_refused, slot_cleared, slot_written}
use Rattle.service.proofs.acknowledged.clear_slot.Goals as goal
use Rattle.service.proofs.acknowledged.clear_slot.Goals.{then-read-a-via-then-read-a, then-read-a-via-else-read-a+then-not-has}

pub overflow_mul-o : goal.overflow_mul-o
overflow_mul-o c =
    let w = within c.requires in
    omega (arith, w.0, w.1)

pub overflow_add-o : goal.overflow_add-o
overflow_add-o c =
    let w = within c.requires in
    omega (arith, w.0, w.1)

pub overflow_add-o-2 : goal.overflow_add-o-2
overflow_add-o-2 c =
    let w = within c.requires in
    omega (arith, w.0, w.1)

pub read-requires : goal.read-requires
read-requires c =
    let w = within c.requires in
    omega (arith, w.0, w.1)

pub returns-then-read-a : goal.returns-then-read-a
returns-then-read-a c =
    elim c.then-read-a.branch [
      | then-read-a-via-then-read-a w ↦
          refuses NotTold _
          (slot_refused c.requires
          (sym
          (and_stop _ _
          (ap (λ (v : ℕ). eqb v c.args.a.version) (sym c.read.ensures) ∙ ne_eqb _ _ w.if-read-a.true))))
      | then-read-a-via-else-read-a+then-not-has w ↦
          refuses NotTold _
          (slot_refused c.requires
          (sym
          (and_go _ _
          (ap (λ (v : ℕ). eqb v c.args.a.version) (sym c.read.ensures) ∙ eq-eqb _ _ w.if-read-a.false)
          (sym
          (ap (λ (p : ℕ). has p c.args.a.sender) (sym c.read-pending.ensures)
          ∙ (sym w.has.ensures ∙ w.if-not-has.true))))))
    ]

pub overflow_add-o-3 : goal.overflow_add-o-3
overflow_add-o-3 c =
    let w = within c.requires in
    omega (arith, w.0, w.1)

pub read-pending-requires : goal.read-pending-requires
read-pending-requires c =
    let w = within c.requires in
    omega (arith, w.0, w.1)

pub overflow_add-o-4 : goal.overflow_add-o-4
overflow_add-o-4 c =
    let w = within c.requires in
    omega (arith, w.0, w.1)

pub write-requires : goal.write-requires
write-requires c =
    let w = within c.requires in
    omega (arith, w.0, w.1)

pub returns : goal.returns
returns c =
    let a = c.args.a in
    let o = 32 + 48 * c.args.i + 44 in
    does _
    (slot_cleared c.requires
    (and_both
    (ap (λ (v : ℕ). eqb v a.version) (sym c.read.ensures)
    ∙ eq-eqb _ _ c.if-read-a.false)
    (ap (λ (p : ℕ). has p a.sender) (sym c.read-pending.ensures)
    ∙ (sym c.has.ensures ∙ c.if-not-has.false))))
    (c.write.ensures
    ∙ ap (λ (v : ℕ). splice c.args.table.now o (v ∷ []))
    (c.without.ensures ∙ ap (λ (p : ℕ). without p a.sender) c.read-pending.ensures)
    ∙ slot_written c.requires c.fits-table)
