-- The acknowledgement's refusals, number by number, and what is done where none holds: what the contracts of
-- `service::acknowledged` cite. Assumes nothing.
use Rattle.std.specs.Prelude.{◌≡◌, refl, Bool, true, false, ◌&&◌, not, cond, List, [], ◌∷◌, ℕ, zero, suc, ◌+◌, ◌-◌, ◌≤◌, ◌<◌, eqb, length, set, Some, None}
use Rattle.std.proofs.Common.{ap, sym, ◌∙◌, arith, eqb-true, eq-eqb, ne_eqb}
use Rattle.std.proofs.Math.Option.{some, none}
use Rattle.std.proofs.Math.Nat.{sub-zero}
use Rattle.std.proofs.lemmas.Bool.{eqb-false, not-true}
use Rattle.codec.specs.Bytes.{chunk, splice, u8_at, u32_at, Bytes}
use Rattle.codec.specs.Laws.{chunk_whole}
use Rattle.codec.specs.Lists.{every, and_true}
use Rattle.numbers.specs.Nodes.{has, without}
use Rattle.messages.specs.declared.acknowledgement.Acknowledgement.{Acknowledgement}
use Rattle.messages.specs.Acknowledgements.{ack_of, ack_in_range}
use Rattle.slots.specs.declared.replica.Replica.{Replica}
use Rattle.slots.specs.Replicas.{replica_fields}
use Rattle.document.specs.Layouts.{replica_layout}
use Rattle.document.specs.Rows.{used_le}
use Rattle.document.specs.Tables.{Table, with_replicas, find, has_id, slots_from, replica_slot, replica_in, replicas_used, table_of, table_in_range, table_bytes}
use Rattle.document.specs.Sound.{distinct, same_id, ids_unique, root_first, sound_bytes, rules}
use Rattle.document.specs.Messages.{read_ack}
use Rattle.document.specs.Outcomes.{refused, done, judged}
use Rattle.document.specs.Calls.{if_ack, clear, clear_in, acknowledged}
use Rattle.document.specs.Reading.{sound_length}
use Rattle.table.specs.Slots.{first_slot, first_replica, found_slot, no_slot}
use Rattle.answers.specs.Answers.{is_sound}
use Rattle.steps.specs.Standing.{sound_stands}
use Rattle.steps.specs.Writes.{with_pending, pending_rewritten}

-- ---- "4: message malformed"

-- the message is an acknowledgement in a cluster of n nodes
abbrev pub is_ack : ℕ → List ℕ → Bool
is_ack n l = eqb (length l) 16 && (ack_in_range n l && not (eqb (ack_of l).sender (ack_of l).addressee))

pub malformed : (l m : List ℕ) → sound_bytes l ≡ true → is_ack (table_of l).nodes m ≡ false →
    acknowledged l m ≡ refused 4
unfolding read_ack
malformed l m s e =
    is_sound l (λ (t : Table). if_ack (read_ack t.nodes m) (clear_in t)) s
    ∙ ap (λ (b : Bool). if_ack (cond b (some (ack_of m)) none) (clear_in (table_of l))) e

pub well_formed : (l m : List ℕ) → sound_bytes l ≡ true → is_ack (table_of l).nodes m ≡ true →
    acknowledged l m ≡ clear_in (table_of l) (ack_of m)
unfolding read_ack
well_formed l m s e =
    is_sound l (λ (t : Table). if_ack (read_ack t.nodes m) (clear_in t)) s
    ∙ ap (λ (b : Bool). if_ack (cond b (some (ack_of m)) none) (clear_in (table_of l))) e

-- ---- the refusals of one that is well formed

module _ (t : Table) (a : Acknowledgement) where
  pub clear_5 : eqb a.addressee t.own ≡ false → clear_in t a ≡ refused 5
  unfolding clear_in judged
  clear_5 p = simp p

  pub clear_6 : eqb a.addressee t.own ≡ true → find a.id t.replicas ≡ none → clear_in t a ≡ refused 6
  unfolding clear_in judged
  clear_6 p q = simp (p, q)

  module _ (r : Replica) (p : eqb a.addressee t.own ≡ true) (q : find a.id t.replicas ≡ some r) where
    pub clear_15 : (eqb r.version a.version && has r.pending a.sender) ≡ false → clear_in t a ≡ refused 15
    unfolding clear_in judged
    clear_15 e = simp (p, q, e)

    pub clear_done : (eqb r.version a.version && has r.pending a.sender) ≡ true →
        clear_in t a ≡ done 0 (with_replicas t (clear a.id a.sender t.replicas)) []
    unfolding clear_in judged
    clear_done e = simp (p, q, e)

-- ---- the slot that is cleared

-- no other replica has the id
clear_others : (x : Replica) (id node : ℕ) (rs : List Replica) → x.head.id ≡ id →
    every (λ (y : Replica). not (same_id x y)) rs ≡ true → clear id node rs ≡ rs
unfolding clear every
clear_others x id node [] e h = refl
clear_others x id node (y ∷ ys) e h =
    let p = and_true (not (same_id x y)) _ h in
    let other : eqb y.head.id id ≡ false =
    ne_eqb _ _ (λ q. eqb-false x.head.id y.head.id (not-true _ p.0) (e ∙ sym q)) in
    simp (other, clear_others x id node ys e p.1)

-- the slot that is found is the one that is cleared
clear_found : (id node : ℕ) (g : ℕ → Replica) (s n i : ℕ) → first_slot (λ (k : ℕ). has_id id (g k)) s n ≡ Some i →
    distinct same_id (slots_from g s n) ≡ true →
    clear id node (slots_from g s n) ≡ set (slots_from g s n) (i - s) (with_pending (g i) (without (g i).pending node))
unfolding clear first_slot slots_from distinct
clear_found id node g s zero i e d = let z : ◌≡◌ {A = ℕ} 0 1 = cc in absurd (omega arith)
clear_found id node g s (suc n) i e d =
    let p = and_true (every (λ (y : Replica). not (same_id (g s) y)) (slots_from g (suc s) n)) _ d in
    go (has_id id (g s)) refl e (λ f. (found_slot (has_id id) g (suc s) n i f).0)
    (λ f. clear_found id node g (suc s) n i f p.1) p.0
  where
    new : ℕ → Replica
    new k = with_pending (g k) (without (g k).pending node)

    go : (b : Bool) → has_id id (g s) ≡ b → cond b (Some s) (first_slot (λ (k : ℕ). has_id id (g k)) (suc s) n) ≡ Some i →
        (first_slot (λ (k : ℕ). has_id id (g k)) (suc s) n ≡ Some i → suc s ≤ i) →
        (first_slot (λ (k : ℕ). has_id id (g k)) (suc s) n ≡ Some i →
        clear id node (slots_from g (suc s) n) ≡ set (slots_from g (suc s) n) (i - suc s) (new i)) →
        every (λ (y : Replica). not (same_id (g s) y)) (slots_from g (suc s) n) ≡ true →
        cond b (new s) (g s) ∷ clear id node (slots_from g (suc s) n) ≡ set (g s ∷ slots_from g (suc s) n) (i - s) (new i)
    go true h f low ih u =
        let same : s ≡ i = cc in
        ap (λ (r : List Replica). new s ∷ r) (clear_others (g s) id node (slots_from g (suc s) n) (eqb-true _ _ h) u)
        ∙ ap (λ (k : ℕ). new k ∷ slots_from g (suc s) n) same
        ∙ ap (λ (k : ℕ). set (g s ∷ slots_from g (suc s) n) k (new i)) {x = 0} {y = i - s} (omega arith)
    go false h f low ih u =
        let least = low f in
        ap (λ (r : List Replica). g s ∷ r) (ih f)
        ∙ ap (λ (k : ℕ). set (g s ∷ slots_from g (suc s) n) k (new i)) {x = suc (i - suc s)} {y = i - s} (omega arith)

-- the byte that is written there, in a sound table
cleared : (l : List ℕ) (id node i : ℕ) → sound_bytes l ≡ true → Bytes l → first_replica l (replicas_used l) id ≡ Some i →
    splice l (replica_slot i + 44) (without (replica_in l i).pending node ∷ [])
    ≡ table_bytes (with_replicas (table_of l) (clear id node (table_of l).replicas))
unfolding sound_bytes rules table_of
cleared l id node i s y e =
    let inside = and_true (table_in_range l) _ s in
    let unique = and_true (ids_unique (table_of l)) _ (and_true (root_first (table_of l)) _ inside.1).1 in
    let low : i < replicas_used l = omega (arith, (found_slot (has_id id) (replica_in l) 0 (replicas_used l) i e).1) in
    pending_rewritten (sound_stands l s y) i (without (replica_in l i).pending node) low
    ∙ ap (λ (rs : List Replica). table_bytes (with_replicas (table_of l) rs))
    (sym (rw sub-zero at (clear_found id node (replica_in l) 0 (replicas_used l) i e unique.0)))

-- ---- as the code has it: what is read in place, in the slot that was found

-- the table is sound, it is addressed, and slot i has the id
pub record Clears (l : List ℕ) (a : Acknowledgement) (i : ℕ) : Type 0 where
  pub sound : sound_bytes l ≡ true
  pub own : a.addressee ≡ (table_of l).own
  pub found : first_replica l (replicas_used l) a.id ≡ Some i

module _ {l : List ℕ} {a : Acknowledgement} {i : ℕ} (k : Clears l a i) where
  -- the slot lies within the table
  pub within : (i < 64) × (13344 ≤ length l)
  within =
      let few : replicas_used l ≤ 64 = used_le (replica_layout 0 (omega arith)) l 32 64 in (
        omega (arith, (found_slot (has_id a.id) (replica_in l) 0 (replicas_used l) i k.found).1),
        sound_length l k.sound,
      )

  -- what stands there is the replica with the id
  held : find a.id (table_of l).replicas ≡ some (replica_in l i)
  unfolding table_of
  held = (found_slot (has_id a.id) (replica_in l) 0 (replicas_used l) i k.found).2

  addressed : eqb a.addressee (table_of l).own ≡ true
  addressed = eq-eqb _ _ k.own

  -- its version and its pending set, read in place
  tests :
      (eqb (replica_in l i).version a.version && has (replica_in l i).pending a.sender)
      ≡ (eqb (u32_at l (replica_slot i + 40)) a.version && has (u8_at l (replica_slot i + 44)) a.sender)
  tests =
      ap (λ (r : Replica). eqb r.version a.version && has r.pending a.sender)
      (replica_fields l (replica_slot i))

  pub slot_refused :
      (eqb (u32_at l (replica_slot i + 40)) a.version && has (u8_at l (replica_slot i + 44)) a.sender) ≡ false →
      clear_in (table_of l) a ≡ refused 15
  slot_refused e = clear_15 (table_of l) a (replica_in l i) addressed held (tests ∙ e)

  pub slot_cleared :
      (eqb (u32_at l (replica_slot i + 40)) a.version && has (u8_at l (replica_slot i + 44)) a.sender) ≡ true →
      clear_in (table_of l) a
      ≡ done 0 (with_replicas (table_of l) (clear a.id a.sender (table_of l).replicas)) []
  slot_cleared e = clear_done (table_of l) a (replica_in l i) addressed held (tests ∙ e)

  pub slot_written : Bytes l →
      splice l (replica_slot i + 44) (without (u8_at l (replica_slot i + 44)) a.sender ∷ [])
      ≡ table_bytes (with_replicas (table_of l) (clear a.id a.sender (table_of l).replicas))
  slot_written y =
      ap (λ (r : Replica). splice l (replica_slot i + 44) (without r.pending a.sender ∷ []))
      (sym (replica_fields l (replica_slot i)))
      ∙ cleared l a.id a.sender i k.sound y k.found

-- ---- whose table it is, and the message's fields, read in place

-- the id is not held
pub not_found : (l : List ℕ) (id : ℕ) → first_replica l (replicas_used l) id ≡ None →
    find id (table_of l).replicas ≡ none
unfolding table_of
not_found l id e = no_slot (has_id id) (replica_in l) 0 (replicas_used l) e

pub ack_whole : (m : List ℕ) → length m ≡ 16 → chunk m 0 16 ≡ m
ack_whole m e = chunk_whole m 16 e

pub ack_length : (n : ℕ) (m : List ℕ) → is_ack n m ≡ true → length m ≡ 16
ack_length n m e = eqb-true _ _ (and_true (eqb (length m) 16) _ e).0
