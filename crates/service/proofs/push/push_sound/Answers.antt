-- `service::push::push_sound` meets its contract: no other node; not held; what is held. Assumes nothing.
use Rattle.std.proofs.Common.{◌≡◌, ap, sym, subst, ◌∙◌, ◌<◌, arith, length, eq-eqb, ne_eqb}
use Rattle.std.specs.Prelude.{refl, Bool, true, false, List, ℕ, eqb, Some}
use mathlib.Core.Option.{some}
use Rattle.codec.specs.Bytes.{u8_at}
use Rattle.numbers.specs.Nodes.{is_node}
use Rattle.slots.specs.declared.replica.Replica.{Replica}
use Rattle.document.specs.Tables.{find, replica_in, replicas_used, table_of}
use Rattle.document.specs.Outcomes.{Outcome, output_after}
use Rattle.document.specs.Calls.{push_in}
use Rattle.document.specs.Reading.{few_replicas, own_at, sound_length}
use Rattle.table.specs.Ranges.{nodes_at}
use Rattle.pushes.specs.Pushing.{replica_found}
use Rattle.pushes.specs.Writing.{Held}
use Rattle.answers.specs.Answers.{answers_instead}
use Rattle.answers.specs.Outputs.{refused_out}
use Rattle.changes.specs.Looking.{slot_of, slot_found, slot_none}
use Rattle.answers.specs.declared.refusal.Refusal.TheVariants.{OutOfRange, NotHeld}
use Rattle.service.specs.Pushing.{push_no_node, push_to_own, push_not_held, none_held, node_small}
use Rattle.service.proofs.push.push_sound.Goals as goal
use Rattle.service.proofs.push.push_sound.Goals.{then-not-is_node-via-then-not-is_node, then-not-is_node-via-else-not-is_node+then-node-from}

-- what was judged of the node, by the N that was read
told : (l : List ℕ) (n node : ℕ) (b : Bool) → n ≡ u8_at l 3 → b ≡ is_node n node → b ≡ is_node (table_of l).nodes node
told l n node b e h = h ∙ ap (λ (k : ℕ). is_node k node) (e ∙ nodes_at l)

member_of : (l : List ℕ) (n node : ℕ) (b : Bool) → n ≡ u8_at l 3 → b ≡ is_node n node → b ≡ true →
    is_node (table_of l).nodes node ≡ true
member_of l n node b e h t = sym (told l n node b e h) ∙ t

-- it is not the own node
apart_of : (l : List ℕ) (own node : ℕ) → own ≡ u8_at l 2 → (node ≡ own → ⊥) → eqb node (table_of l).own ≡ false
apart_of l own node e other = ne_eqb _ _ (λ h. other (h ∙ sym (e ∙ own_at l)))

-- the replica in the slot that was found
found_in : (l : List ℕ) (id s : ℕ) → slot_of l id ≡ Some s →
    (s < 64) × ((replica_in l s).head.id ≡ id) × (find (replica_in l s).head.id (table_of l).replicas ≡ some (replica_in l s))
found_in l id s h =
    let f = replica_found l (replicas_used l) id s refl (slot_found l id s h).1 in
    (omega (arith, f.0, few_replicas l), f.1, ap (λ (i : ℕ). find i (table_of l).replicas) f.1 ∙ f.2)

pub returns-then-not-is_node : goal.returns-then-not-is_node
returns-then-not-is_node c =
    let a = c.args in
    elim c.then-not-is_node.branch [
      | then-not-is_node-via-then-not-is_node w ↦
          refused_out a.out.now OutOfRange
          (push_no_node a.id a.node (length a.out.now) (table_of a.t.now)
          (sym (told a.t.now _ a.node _ c.read-n.ensures c.is_node.ensures) ∙ w.if-not-is_node.true))
      | then-not-is_node-via-else-not-is_node+then-node-from w ↦
          refused_out a.out.now OutOfRange
          (push_to_own a.id a.node (length a.out.now) (table_of a.t.now)
          (member_of a.t.now _ a.node _ c.read-n.ensures c.is_node.ensures w.if-not-is_node.false)
          (eq-eqb _ _ (w.if-node-from.true ∙ (w.from.ensures ∙ c.read-own.ensures) ∙ own_at a.t.now)))
    ]

pub slot_of-requires : goal.slot_of-requires
slot_of-requires c = sound_length _ c.requires

pub returns-in_default : goal.returns-in_default
returns-in_default c =
    let a = c.args in
    let member = member_of a.t.now _ a.node _ c.read-n.ensures c.is_node.ensures c.if-not-is_node.false in
    let apart = apart_of a.t.now _ a.node (c.from.ensures ∙ c.read-own.ensures) c.if-node-from.false in
    refused_out a.out.now NotHeld
    (push_not_held a.id a.node (length a.out.now) (table_of a.t.now) member apart
    (none_held _ (slot_none a.t.now a.id (λ i. c.fits-t i)
    (sym c.slot_of.ensures ∙ c.in_default.is))))

pub overflow_mul-s : goal.overflow_mul-s
overflow_mul-s c = omega (arith, (found_in _ _ _ (sym c.slot_of.ensures ∙ c.in-Some.is)).0)

pub overflow_add-s : goal.overflow_add-s
overflow_add-s c = omega (arith, (found_in _ _ _ (sym c.slot_of.ensures ∙ c.in-Some.is)).0)

pub read-r-requires : goal.read-r-requires
read-r-requires c =
    let f = found_in _ _ _ (sym c.slot_of.ensures ∙ c.in-Some.is) in
    omega (arith, f.0, sound_length _ c.requires)

pub overflow_cast-node : goal.overflow_cast-node
overflow_cast-node c =
    let a = c.args in
    let member = member_of a.t.now _ a.node _ c.read-n.ensures c.is_node.ensures c.if-not-is_node.false in
    omega (arith, node_small a.t.now a.node c.requires member)

pub push_held-requires : goal.push_held-requires
push_held-requires c =
    let a = c.args in
    record {
      held = subst (Held a.t.now) (sym c.read-r.ensures) (record {
        sound = c.requires;
        found = (found_in a.t.now _ _ (sym c.slot_of.ensures ∙ c.in-Some.is)).2;
      });
      member = member_of a.t.now _ a.node _ c.read-n.ensures c.is_node.ensures c.if-not-is_node.false;
      apart = apart_of a.t.now _ a.node (c.from.ensures ∙ c.read-own.ensures) c.if-node-from.false;
    }

pub returns : goal.returns
returns c =
    let a = c.args in
    let f = found_in a.t.now _ _ (sym c.slot_of.ensures ∙ c.in-Some.is) in
    let id = ap (λ (r : Replica). r.head.id) c.read-r.ensures ∙ f.1 in
    let call : push_in _ a.node (length a.out.now) (table_of a.t.now) ≡ push_in a.id a.node (length a.out.now) (table_of a.t.now) =
    ap (λ (i : ℕ). push_in i a.node (length a.out.now) (table_of a.t.now)) id in (
      answers_instead call c.push_held.ensures.0,
      c.push_held.ensures.1 ∙ ap (λ (o : Outcome). output_after o a.out.now) call,
    )
