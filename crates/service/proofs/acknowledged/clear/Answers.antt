-- `service::acknowledged::clear` meets its contract: the addressee, then the slot. Assumes nothing.
use Rattle.std.proofs.Common.{ap, sym, ◌∙◌, arith, eq-eqb, ne_eqb}
use Rattle.std.specs.Prelude.{ℕ}
use borrow.Author.Rules.{rules}
use Rattle.document.specs.Tables.{table_of}
use Rattle.document.specs.Reading.{own_at, sound_length}
use Rattle.table.specs.Slots.{first_replica}
use Rattle.answers.specs.Answers.{refuses}
use Rattle.answers.specs.declared.refusal.Refusal.TheVariants.{NotAddressed, NotHeld}
use Rattle.service.specs.Acknowledging.{clear_5, clear_6, not_found}
use Rattle.service.proofs.acknowledged.clear.Goals as goal

pub read-requires : goal.read-requires
read-requires c =
    omega (arith, sound_length c.args.table.now c.requires)

pub returns-then-a-read : goal.returns-then-a-read
returns-then-a-read c =
    refuses NotAddressed _
    (clear_5 (table_of c.args.table.now) c.args.a
    (ne_eqb _ _ (λ e. c.if-a-read.true (e ∙ sym (own_at c.args.table.now) ∙ sym c.read.ensures))))

pub replicas_used-m-requires : goal.replicas_used-m-requires
replicas_used-m-requires c =
    omega (arith, sound_length c.args.table.now c.requires)

pub replica-requires : goal.replica-requires
replica-requires c =
    (omega (arith, sound_length c.args.table.now c.requires), search rules)

pub returns-in_default : goal.returns-in_default
returns-in_default c =
    let l = c.args.table.now in
    let a = c.args.a in
    refuses NotHeld _
    (clear_6 (table_of l) a (eq-eqb _ _ (c.if-a-read.false ∙ c.read.ensures ∙ own_at l))
    (not_found l a.id
    (ap (λ (m : ℕ). first_replica l m a.id) (sym c.replicas_used-m.ensures.0)
    ∙ sym c.replica.ensures ∙ c.in_default.is)))

pub clear_slot-requires : goal.clear_slot-requires
clear_slot-requires c =
    record {
      sound = c.requires;
      own = c.if-a-read.false ∙ c.read.ensures ∙ own_at c.args.table.now;
      found =
          ap (λ (m : ℕ). first_replica c.args.table.now m c.args.a.id) (sym c.replicas_used-m.ensures.0)
          ∙ sym c.replica.ensures ∙ c.in-Some.is;
    }

pub returns : goal.returns
returns c = c.clear_slot.ensures
