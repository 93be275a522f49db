-- The rules of a sound table over slots: what the contracts of `table::rules` cite, and the laws that carry them to the
-- lists of `document`. Assumes nothing.
use Rattle.std.specs.Prelude.{◌≡◌, refl, Bool, ◌&&◌, ◌||◌, not, List, ℕ, zero, suc, ◌+◌, ◌-◌, ◌<◌, eqb, leb, ltb, Some, None}
use Rattle.std.proofs.Common.{ap, sym, ◌∙◌, arith, zero-add, lt-ltb}
use Rattle.std.proofs.Math.Bool.{and_comm, and_assoc}
use Rattle.std.proofs.Math.Option.{Option, some, none}
use Rattle.codec.specs.Bytes.{chunk}
use Rattle.names.specs.declared.Name.{Name}
use Rattle.numbers.specs.Nodes.{has, without}
use Rattle.numbers.specs.Ids.{maker, count, clock_of}
use Rattle.records.specs.declared.head.Head.{Head}
use Rattle.records.specs.declared.entry.Entry.{Entry}
use Rattle.records.specs.Heads.{is_root, head_at}
use Rattle.records.specs.Entries.{entry_at}
use Rattle.slots.specs.declared.table_header.TableHeader.{TableHeader}
use Rattle.slots.specs.declared.replica.Replica.{Replica}
use Rattle.slots.specs.declared.listed.Listed.{Listed}
use Rattle.slots.specs.TableHeaders.{table_header_of, table_header_at}
use Rattle.slots.specs.Replicas.{replica_fields}
use Rattle.slots.specs.Listings.{listed_fields}
use Rattle.document.specs.Tables.{Table, find, head_of?, find_entry, entry_of?, is_key, slots_from, every_slot, replica_slot, entry_slot, replica_in, entry_in, replicas_used, entries_used, table_of, head_of, table_in_range}
use Rattle.document.specs.Sound.{distinct, same_id, same_key, root_in, is_root_id, is_live, held_and, is_place_of, shows, maker_holds, is_part_of, is_parent, replica_keeps, entry_keeps, rules, sound_bytes}
use Rattle.table.specs.Slots.{first_replica, first_entry, found_slot, no_slot, every_slots, entries_in, entries_count}

-- the table of the first m replica slots and the first k entry slots
abbrev pub table_at : List ℕ → ℕ → ℕ → Table
table_at l m k =
    record {
      own = (table_header_of (chunk l 0 32)).own;
      nodes = (table_header_of (chunk l 0 32)).nodes;
      next = (table_header_of (chunk l 0 32)).next;
      highest = (table_header_of (chunk l 0 32)).highest;
      replicas = slots_from (replica_in l) 0 m;
      entries = slots_from (entry_in l) 0 k;
    }

-- the head of a replica by its id, and an entry by its key
abbrev pub held_in : List ℕ → ℕ → ℕ → Option Head
held_in l m id = head_of? (find id (slots_from (replica_in l) 0 m))

abbrev pub listed_in : List ℕ → ℕ → ℕ → ℕ → Name → Option Entry
listed_in l k directory child name = entry_of? (find_entry directory child name (slots_from (entry_in l) 0 k))

-- no slot from i + 1 up to e is the same as slot i
abbrev pub new_slot : {A : Type 0} → (A → A → Bool) → (ℕ → A) → ℕ → ℕ → Bool
new_slot same g e i = every_slot (λ (j : ℕ). not (same (g i) (g j))) (i + 1) (e - (i + 1))

abbrev pub id_new : List ℕ → ℕ → ℕ → Bool
id_new l m s = new_slot same_id (replica_in l) m s

abbrev pub ids_new : List ℕ → ℕ → Bool
ids_new l m = every_slot (id_new l m) 0 m

abbrev pub key_new : List ℕ → ℕ → ℕ → Bool
key_new l k s = new_slot same_key (entry_in l) k s

abbrev pub keys_new : List ℕ → ℕ → Bool
keys_new l k = every_slot (key_new l k) 0 k

-- each of k entries and of m replicas keeps what it has to keep
abbrev pub slots_keep : List ℕ → ℕ → ℕ → Bool
slots_keep l m k =
    every_slot (λ (s : ℕ). entry_keeps (table_at l m k) (entry_in l s)) 0 k
    && every_slot (λ (s : ℕ). replica_keeps (table_at l m k) (replica_in l s)) 0 m

-- ---- laws: what was found, and what is the same

pub held_at : (l : List ℕ) (m id i : ℕ) → first_replica l m id ≡ Some i → (i < m) × (held_in l m id ≡ some (head_at l (replica_slot i)))
held_at l m id i e =
    let f = found_slot _ (replica_in l) 0 m i e in
    (omega (arith, f.1), ap head_of? f.2 ∙ ap (λ (r : Replica). some r.head) (replica_fields l (replica_slot i)))

pub not_held_law : (l : List ℕ) (m id : ℕ) → first_replica l m id ≡ None → held_in l m id ≡ none
not_held_law l m id e = ap head_of? (no_slot _ (replica_in l) 0 m e)

pub listed_at : (l : List ℕ) (k directory child : ℕ) (name : Name) (i : ℕ) → first_entry l k directory child name ≡ Some i →
    (i < k) × (listed_in l k directory child name ≡ some (entry_at l (entry_slot i)))
listed_at l k directory child name i e =
    let f = found_slot _ (entry_in l) 0 k i e in
    (omega (arith, f.1), ap entry_of? f.2 ∙ ap (λ (x : Listed). some x.entry) (listed_fields l (entry_slot i)))

pub not_listed : (l : List ℕ) (k directory child : ℕ) (name : Name) → first_entry l k directory child name ≡ None →
    listed_in l k directory child name ≡ none
not_listed l k directory child name e = ap entry_of? (no_slot _ (entry_in l) 0 k e)

-- no two of a list of slots are the same exactly if each is new
pub distinct_slots : {A : Type 0} (same : A → A → Bool) (g : ℕ → A) (s n : ℕ) →
    distinct same (slots_from g s n) ≡ every_slot (new_slot same g (s + n)) s n
unfolding distinct slots_from every_slot
distinct_slots same g s zero = refl
distinct_slots same g s (suc n) =
    let more : s + suc n ≡ suc s + n = omega arith in
    let from : s + 1 ≡ suc s = omega arith in
    let left : s + suc n - (s + 1) ≡ n = omega arith in
    ap (λ (b : Bool). b && distinct same (slots_from g (suc s) n)) (every_slots (λ y. not (same (g s) y)) g (suc s) n)
    ∙ ap (λ (b : Bool). every_slot (λ (j : ℕ). not (same (g s) (g j))) (suc s) n && b) (distinct_slots same g (suc s) n)
    ∙ ap (λ (a : ℕ). every_slot (λ (j : ℕ). not (same (g s) (g j))) a n && every_slot (new_slot same g (suc s + n)) (suc s) n) (sym from)
    ∙ ap (λ (a : ℕ). every_slot (λ (j : ℕ). not (same (g s) (g j))) (s + 1) a && every_slot (new_slot same g (suc s + n)) (suc s) n) (sym left)
    ∙ ap (λ (a : ℕ). every_slot (λ (j : ℕ). not (same (g s) (g j))) (s + 1) (s + suc n - (s + 1)) && every_slot (new_slot same g a) (suc s) n) (sym more)

-- ---- laws: the judgements, over what the code has read

pub replica_tests : (l : List ℕ) (m k s : ℕ) (d : TableHeader) (r : Replica) (n : ℕ) → d ≡ table_header_at l 0 → r ≡ replica_in l s →
    n ≡ entries_in l k (replica_in l s).head.id →
    replica_keeps (table_at l m k) (replica_in l s)
    ≡ ((maker_holds r.head && has r.head.holders d.own)
    && (is_part_of r.pending (without r.head.holders d.own)
    && ((not (eqb (maker r.head.id) d.own) || ltb (count r.head.id) d.next)
    && ((is_root_id r.head || held_and (is_place_of r.head) (held_in l m r.head.directory))
    && (leb n 32
    && ((not (is_live r.head)
    || (is_root_id r.head || shows r.head (listed_in l k r.head.directory r.head.id r.head.name)))
    && leb (clock_of r.head.stamp) d.highest))))))
unfolding replica_keeps
replica_tests l m k s d r n p q e = rw (p, q, e, ← entries_count l (replica_in l s).head.id 0 k)

pub entry_tests : (l : List ℕ) (m k s : ℕ) (d : TableHeader) (x : Listed) → d ≡ table_header_at l 0 → x ≡ entry_in l s →
    entry_keeps (table_at l m k) (entry_in l s)
    ≡ (held_and is_parent (held_in l m x.directory)
    && (not (eqb x.entry.child 0) && leb (clock_of x.entry.stamp) d.highest))
unfolding entry_keeps
entry_tests l m k s d x p q = rw (p, q)

root_slots : (n : ℕ) (g : ℕ → Replica) (m : ℕ) → root_in n (slots_from g 0 m) ≡ (ltb 0 m && is_root n (g 0).head)
unfolding slots_from
root_slots n g zero = refl
root_slots n g (suc m) = simp (lt-ltb 0 (suc m) (omega arith))

-- the same of all slots, from the first
all_new : {A : Type 0} (same : A → A → Bool) (g : ℕ → A) (n : ℕ) →
    distinct same (slots_from g 0 n) ≡ every_slot (new_slot same g n) 0 n
all_new same g n = distinct_slots same g 0 n ∙ ap (λ (e : ℕ). every_slot (new_slot same g e) 0 n) (zero-add n)

-- the order of tests does not matter
turned : (a b c : Bool) → (a && (b && c)) ≡ (c && (b && a))
turned a b c = and_comm a (b && c) ∙ ap (λ (x : Bool). x && a) (and_comm b c) ∙ and_assoc c b a

pub rule_tests : (l : List ℕ) (m k : ℕ) →
    rules (table_at l m k)
    ≡ ((ltb 0 m && is_root (table_header_of (chunk l 0 32)).nodes (replica_in l 0).head)
    && (ids_new l m
    && (keys_new l k && slots_keep l m k)))
unfolding rules
rule_tests l m k =
    cc (
      turned (every_slot (λ (s : ℕ). replica_keeps (table_at l m k) (replica_in l s)) 0 m)
          (every_slot (λ (s : ℕ). entry_keeps (table_at l m k) (entry_in l s)) 0 k) (keys_new l k),
      root_slots (table_header_of (chunk l 0 32)).nodes (replica_in l) m,
      all_new same_id (replica_in l) m,
      every_slots (replica_keeps (table_at l m k)) (replica_in l) 0 m,
      every_slots (entry_keeps (table_at l m k)) (entry_in l) 0 k,
      all_new same_key (entry_in l) k,
    )

-- the table that bytes are, by the slots that they use
pub table_of_law : (l : List ℕ) → table_of l ≡ table_at l (replicas_used l) (entries_used l)
unfolding table_of
table_of_law l = refl

-- "a sound table", over the slots that the code has found to be used
pub sound_tests : (l : List ℕ) (m k : ℕ) → m ≡ replicas_used l → k ≡ entries_used l →
    sound_bytes l ≡ (table_in_range l && rules (table_at l m k))
unfolding sound_bytes table_of
sound_tests l m k p q = rw (p, q)

-- the key of slot s, over what the code has read of it
pub key_test : (l : List ℕ) (s i : ℕ) (x : Listed) (e : Entry) (name : Name) → x ≡ entry_in l s → e ≡ x.entry →
    name ≡ x.entry.name → is_key x.directory e.child name (entry_in l i) ≡ same_key (entry_in l s) (entry_in l i)
key_test l s i x e name p q r = rw (q, r, p)

-- what the table that bytes are holds by an id, by the slot in which it was found over the slots in use
pub found_head : (l : List ℕ) (m id i : ℕ) → m ≡ replicas_used l → first_replica l m id ≡ Some i →
    (i < m) × (head_of (table_of l) id ≡ some (head_at l (replica_slot i)))
unfolding table_of
found_head l m id i u e = let h = held_at l m id i e in (h.0, ap (λ (n : ℕ). held_in l n id) (sym u) ∙ h.1)

pub not_found : (l : List ℕ) (m id : ℕ) → m ≡ replicas_used l → first_replica l m id ≡ None →
    head_of (table_of l) id ≡ none
unfolding table_of
not_found l m id u e = ap (λ (n : ℕ). held_in l n id) (sym u) ∙ not_held_law l m id e
