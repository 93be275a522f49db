-- What a call looks up in a table's bytes: the slot that a number names, and whether one of the slots passes a test.
-- Assumes nothing.
use Rattle.std.specs.Prelude.{◌≡◌, refl, Bool, true, false, ◌&&◌, ◌||◌, not, cond, List, [], ◌∷◌, ℕ, zero, suc, ◌+◌, ◌-◌, ◌≤◌, ◌<◌, eqb, ltb, Option, Some, None}
use Rattle.std.proofs.Common.{ap, sym, ◌∙◌, arith, lt-ltb, le-ltb, le-leb, ltb-true, ltb-false}
use Rattle.std.proofs.Math.Option.{some, none}
use Rattle.std.proofs.Math.Nat.{sub-zero}
use Rattle.codec.specs.Bytes.{u8_at, u32_at, Bytes}
use Rattle.names.specs.declared.Name.{Name}
use Rattle.names.specs.Names.{same_name}
use Rattle.records.specs.declared.head.Head.{Head}
use Rattle.records.specs.Heads.{head_at, head_fields}
use Rattle.slots.specs.declared.replica.Replica.{Replica}
use Rattle.slots.specs.declared.listed.Listed.{Listed}
use Rattle.slots.specs.Replicas.{replica_fields}
use Rattle.document.specs.Tables.{Table, head_of, slots_from, table_of, replica_slot, entry_slot, replica_in, entry_in, replicas_used, entries_used}
use Rattle.document.specs.Sound.{is_live, is_root_id}
use Rattle.document.specs.Outcomes.{Outcome, refused, judged}
use Rattle.document.specs.Calls.{when, is_shown, name_taken, any_shown, live_child, deepest}
use Rattle.document.specs.Reading.{few_replicas, live_at}
use Rattle.answers.specs.declared.refusal.Refusal.{Refusal}
use Rattle.answers.specs.declared.refusal.Refusal.TheVariants.{NameTaken, TooDeep}
use Rattle.answers.specs.Refusals.{code}
use Rattle.answers.specs.Held.{not_an_id}
use Rattle.table.specs.Slots.{first_replica, directory_at}
use Rattle.table.specs.Rules.{found_head, not_found}
use Rattle.changes.specs.Finishing.{skip, stop}

-- ---- the slot that a number names; one past 2^32-1 names none

abbrev pub slot_of : List ℕ → ℕ → Option ℕ
slot_of l id = cond (ltb 4294967295 id) None (first_replica l (replicas_used l) id)

pub slot_large : (l : List ℕ) (id : ℕ) → 4294967295 < id → None ≡ slot_of l id
slot_large l id h = ap (λ (b : Bool). cond b None (first_replica l (replicas_used l) id)) (sym (lt-ltb 4294967295 id h))

pub slot_small : (l : List ℕ) (id m : ℕ) {r : Option ℕ} → id ≤ 4294967295 → m ≡ replicas_used l → r ≡ first_replica l m id → r ≡ slot_of l id
slot_small l id m h u e =
    e ∙ ap (λ (n : ℕ). first_replica l n id) u
    ∙ ap (λ (b : Bool). cond b None (first_replica l (replicas_used l) id)) (sym (le-ltb 4294967295 id h))

pub slot_found : (l : List ℕ) (id i : ℕ) → slot_of l id ≡ Some i →
    (id ≤ 4294967295) × (first_replica l (replicas_used l) id ≡ Some i)
slot_found l id i e = go (ltb 4294967295 id) refl e
  where
    go : (b : Bool) → ltb 4294967295 id ≡ b → cond b None (first_replica l (replicas_used l) id) ≡ Some i →
        (id ≤ 4294967295) × (first_replica l (replicas_used l) id ≡ Some i)
    go true q r = let z : ◌≡◌ {A = ℕ} 0 1 = cc in absurd (omega arith)
    go false q r = (ltb-false 4294967295 id q, r)

pub slot_held : (l : List ℕ) (id i : ℕ) → slot_of l id ≡ Some i → (i < 64) × (head_of (table_of l) id ≡ some (head_at l (replica_slot i)))
slot_held l id i e =
    let p = found_head l (replicas_used l) id i refl (slot_found l id i e).1 in
    (omega (arith, p.0, few_replicas l), p.1)

pub slot_none : (l : List ℕ) (id : ℕ) → Bytes l → slot_of l id ≡ None → head_of (table_of l) id ≡ none
slot_none l id b e = go (ltb 4294967295 id) refl e
  where
    go : (z : Bool) → ltb 4294967295 id ≡ z → cond z None (first_replica l (replicas_used l) id) ≡ None → head_of (table_of l) id ≡ none
    go true q r = not_an_id l id b (ltb-true 4294967295 id q)
    go false q r = not_found l (replicas_used l) id refl r

-- ---- one of the slots passes

unfoldable pub any_slot : (ℕ → Bool) → ℕ → ℕ → Bool
any_slot f s zero = false
any_slot f s (suc n) = f s || any_slot f (suc s) n

pub any_step : (f : ℕ → Bool) (n i : ℕ) → i < n → any_slot f i (n - i) ≡ (f i || any_slot f (i + 1) (n - (i + 1)))
unfolding any_slot
any_step f n i h =
    ap (any_slot f i) {x = n - i} {y = suc (n - (i + 1))} (omega arith)
    ∙ ap (λ (j : ℕ). f i || any_slot f j (n - (i + 1))) {x = suc i} {y = i + 1} (omega arith)

pub any_none : (f : ℕ → Bool) (n i : ℕ) → n ≤ i → any_slot f i (n - i) ≡ false
unfolding any_slot
any_none f n i h = ap (any_slot f i) {x = n - i} {y = 0} (omega arith)

-- the tests of "9" and "10"
abbrev pub is_taken_by : ℕ → Name → Listed → Bool
is_taken_by d name x = eqb x.directory d && (is_shown x && same_name x.entry.name name)

abbrev pub is_shown_in : ℕ → Listed → Bool
is_shown_in d x = eqb x.directory d && is_shown x

abbrev pub is_child_of : ℕ → Replica → Bool
is_child_of d r = eqb r.head.directory d && (is_live r.head && not (is_root_id r.head))

-- a taken name is that of a live entry of the directory
pub taken_shown : (d : ℕ) (name : Name) (x : Listed) → is_taken_by d name x ≡ (is_shown_in d x && same_name x.entry.name name)
taken_shown d name x = go (eqb x.directory d)
  where
    go : (b : Bool) → (b && (is_shown x && same_name x.entry.name name)) ≡ ((b && is_shown x) && same_name x.entry.name name)
    go true = refl
    go false = refl

taken_slots : (d : ℕ) (name : Name) (g : ℕ → Listed) (s n : ℕ) → name_taken d name (slots_from g s n) ≡ any_slot (λ (i : ℕ). is_taken_by d name (g i)) s n
unfolding name_taken slots_from any_slot
taken_slots d name g s zero = refl
taken_slots d name g s (suc n) = ap (λ (b : Bool). is_taken_by d name (g s) || b) (taken_slots d name g (suc s) n)

shown_slots : (d : ℕ) (g : ℕ → Listed) (s n : ℕ) → any_shown d (slots_from g s n) ≡ any_slot (λ (i : ℕ). is_shown_in d (g i)) s n
unfolding any_shown slots_from any_slot
shown_slots d g s zero = refl
shown_slots d g s (suc n) = ap (λ (b : Bool). is_shown_in d (g s) || b) (shown_slots d g (suc s) n)

child_slots : (d : ℕ) (g : ℕ → Replica) (s n : ℕ) → live_child d (slots_from g s n) ≡ any_slot (λ (i : ℕ). is_child_of d (g i)) s n
unfolding live_child slots_from any_slot
child_slots d g s zero = refl
child_slots d g s (suc n) = ap (λ (b : Bool). is_child_of d (g s) || b) (child_slots d g (suc s) n)

pub taken_any : (l : List ℕ) (k d : ℕ) (name : Name) → k ≡ entries_used l →
    name_taken d name (table_of l).entries ≡ any_slot (λ (i : ℕ). is_taken_by d name (entry_in l i)) 0 (k - 0)
unfolding table_of
taken_any l k d name u =
    taken_slots d name (entry_in l) 0 (entries_used l)
    ∙ ap (any_slot (λ (i : ℕ). is_taken_by d name (entry_in l i)) 0) (sym u ∙ sym (sub-zero k))

pub shown_any : (l : List ℕ) (k d : ℕ) → k ≡ entries_used l →
    any_shown d (table_of l).entries ≡ any_slot (λ (i : ℕ). is_shown_in d (entry_in l i)) 0 (k - 0)
unfolding table_of
shown_any l k d u =
    shown_slots d (entry_in l) 0 (entries_used l) ∙ ap (any_slot (λ (i : ℕ). is_shown_in d (entry_in l i)) 0) (sym u ∙ sym (sub-zero k))

pub child_any : (l : List ℕ) (m d : ℕ) → m ≡ replicas_used l →
    live_child d (table_of l).replicas ≡ any_slot (λ (i : ℕ). is_child_of d (replica_in l i)) 0 (m - 0)
unfolding table_of
child_any l m d u =
    child_slots d (replica_in l) 0 (replicas_used l) ∙ ap (any_slot (λ (i : ℕ). is_child_of d (replica_in l i)) 0) (sym u ∙ sym (sub-zero m))

-- the tests, over the fields where they stand
pub shown_test : (l : List ℕ) (d s : ℕ) →
    is_shown_in d (entry_in l s) ≡ (eqb (u32_at l (entry_slot s + 32)) d && eqb (u8_at l (entry_slot s + 2)) 1)
shown_test l d s = rw (directory_at l s, live_at l s) refl

pub child_head : (l : List ℕ) (d s : ℕ) {h : Head} → h ≡ head_at l (replica_slot s) →
    is_child_of d (replica_in l s) ≡ (eqb h.directory d && (is_live h && not (is_root_id h)))
child_head l d s e =
    ap (λ (h : Head). eqb h.directory d && (is_live h && not (is_root_id h)))
    (ap (λ (r : Replica). r.head) (replica_fields l (replica_slot s)) ∙ sym e)

pub child_test : (l : List ℕ) (d s : ℕ) →
    is_child_of d (replica_in l s)
    ≡ (eqb (u32_at l (replica_slot s + 20)) d && (eqb (u8_at l (replica_slot s + 3)) 1 && not (eqb (u32_at l (replica_slot s + 4)) 0)))
child_test l d s = ap (λ (h : Head). eqb h.directory d && (is_live h && not (is_root_id h))) (ap (λ (r : Replica). r.head) (replica_fields l (replica_slot s)) ∙ head_fields l (replica_slot s))

-- ---- "9" and "11": whether there is room for a name

-- whatever is judged after, and done in the end, it is refused
abbrev pub NoRoomFor : Table → Head → Name → Refusal → Type 0
NoRoomFor t p name e =
    (o : Outcome) →
    judged (when 9 (name_taken p.id name t.entries) ∷ when 11 (deepest (some p)) ∷ []) o ≡ refused (code e)

pub room_9 : (t : Table) (p : Head) (name : Name) → name_taken p.id name t.entries ≡ true → NoRoomFor t p name NameTaken
room_9 t p name q o = stop 9 (name_taken p.id name t.entries) _ o q

pub room_11 : (t : Table) (p : Head) (name : Name) → name_taken p.id name t.entries ≡ false → 16 ≤ p.depth →
    NoRoomFor t p name TooDeep
room_11 t p name q d o =
    skip 9 (name_taken p.id name t.entries) _ o q ∙ stop 11 (deepest (some p)) _ o (le-leb 16 p.depth d)
