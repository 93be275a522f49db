-- After a call, slot by slot: what the comparison of two tables says of a replica, the version that is raised, and the
-- loop over all of them. Assumes nothing.
use Rattle.std.specs.Prelude.{◌≡◌, Bool, ◌&&◌, ◌||◌, not, cond, eqb, ltb, set, get_or}
use Rattle.std.proofs.Math.Path.{refl, ap, sym, subst}
use Rattle.std.proofs.Common.{◌∙◌, arith, add-zero, length-set, lt-ltb, le-ltb, ltb-true}
use Rattle.std.proofs.Math.Bool.{true, false}
use Rattle.std.proofs.Math.Option.{Option, some, none}
use mathlib.Core.List.Memᴰ
use mathlib.Core.List.{List, [], ◌∷◌}
use Prim.Native.Nat.{ℕ, zero, suc, ◌+◌, ◌^◌, ◌≤◌, ◌<◌}
use Rattle.std.proofs.Math.Nat.{sub-zero}
use Rattle.std.proofs.Math.ListN.{length}
use Rattle.codec.specs.Bytes.{chunk, splice, u32_at, same_bytes, Bytes}
use Rattle.codec.specs.Laws.{first_chunk, same_eq, same_refl}
use Rattle.codec.specs.Lists.{every, and_true, and_go, and_stop, both_ways}
use Rattle.numbers.specs.Nodes.{without}
use Rattle.records.specs.declared.head.Head.{Head}
use Rattle.records.specs.declared.entry.Entry.{Entry}
use Rattle.records.specs.Heads.{head_bytes, HeadFit, root_head, head_round}
use Rattle.records.specs.Heads.{head_of as head_read}
use Rattle.records.specs.Entries.{entry_of as entry_read}
use Rattle.records.specs.Entries.{entry_bytes, EntryFit, entry_round}
use Rattle.slots.specs.declared.replica.Replica.{Replica}
use Rattle.slots.specs.declared.listed.Listed.{Listed}
use Rattle.slots.specs.Replicas.{replica_bytes, ReplicaFit}
use Rattle.slots.specs.Listings.{ListedFit}
use Rattle.document.specs.Tables.{Table, find, head_of?, head_of, entries_of, slots_from, every_slot, with_replicas, table_bytes, table_of, replica_slot, entry_slot, replica_in, entry_in, replicas_used, entries_used}
use Rattle.document.specs.Sound.{ids_unique}
use Rattle.document.specs.Steps.{same_head, same_entry, same_entries, unchanged, raised, settle_all, settle}
use Rattle.document.specs.Layouts.{replica_head, listed_entry}
use Rattle.document.specs.Reading.{few_replicas}
use Rattle.views.specs.Lists.{In}
use Rattle.views.specs.Puts.{find_member}
use Rattle.views.specs.Settles.{settled, settled_head, settled_kept, settled_raised, same_head_law, head_same, same_entry_law, entry_same}
use Rattle.table.specs.Slots.{id_at, directory_at}
use Rattle.steps.specs.Standing.{Each, end, more, Is, Stands, wide_of, wide_is, stands, never, replicas_held, entries_held, replica_bytes_law, listed_bytes_law}
use Rattle.steps.specs.Joining.{set_same}
use Rattle.steps.specs.Writes.{slot_rewritten}
use Rattle.steps.specs.Grown.{Grown, Grows, rest, next, Slots, grows_slots, each_slots, first_or, SameId, NotIn, SameDirectory, Anything}

-- entry slot s is none of the directory's, or was used and is as it was
abbrev pub is_slot_same : List ℕ → List ℕ → ℕ → ℕ → Bool
is_slot_same old t d s =
    not (eqb (u32_at t (entry_slot s + 32)) d)
    || (ltb s (entries_used old) && same_bytes (chunk old (entry_slot s) 32) (chunk t (entry_slot s) 32))

-- no version is past its end
abbrev pub all_numbered : Table → Bool
all_numbered t = every (λ (r : Replica). ltb r.version (2 ^ 32)) t.replicas

-- both tables stand, and the second came from the first by steps
pub record Settles (old t : List ℕ) : Type 0 where
  pub before : Stands old
  pub after : Stands t
  pub unique : ids_unique (table_of old) ≡ true
  pub grown : Grown (table_of old) (table_of t)

-- and n entry slots of it are used, and slot i is one of its replicas
pub record Compares (old t : List ℕ) (n i : ℕ) : Type 0 where
  pub settles : Settles old t
  pub present : n ≡ entries_used t
  pub slot : i < replicas_used t

-- ---- records that are compared by their bytes

head_test : (a b : Head) → HeadFit a → HeadFit b → same_bytes (head_bytes a) (head_bytes b) ≡ same_head b (some a)
head_test a b f g =
    both_ways (same_bytes (head_bytes a) (head_bytes b)) (same_head b (some a))
    (λ e. head_same b (some a) (ap some (sym (head_round a f) ∙ ap head_read (same_eq _ _ e) ∙ head_round b g)))
    (λ e. ap (λ (o : Option Head). same_bytes (bytes_in o) (head_bytes b)) (same_head_law b (some a) e) ∙ same_refl (head_bytes b))
  where
    bytes_in : Option Head → List ℕ
    bytes_in none = []
    bytes_in (some h) = head_bytes h

entry_test : (a b : Entry) → EntryFit a → EntryFit b → same_bytes (entry_bytes a) (entry_bytes b) ≡ same_entry a b
entry_test a b f g =
    both_ways (same_bytes (entry_bytes a) (entry_bytes b)) (same_entry a b)
    (λ e.
    ap (same_entry a) (sym (sym (entry_round a f) ∙ ap entry_read (same_eq _ _ e) ∙ entry_round b g)) ∙ entry_same a)
    (λ e. ap (λ (z : Entry). same_bytes (entry_bytes z) (entry_bytes b)) (same_entry_law a b e) ∙ same_refl (entry_bytes b))

-- two parts, compared where they stand
pub same_parts : {r : Bool} {x y a b : List ℕ} → r ≡ same_bytes x y → x ≡ a → y ≡ b → r ≡ same_bytes a b
same_parts {r} {x} {y} {a} {b} e p q = e ∙ ap (λ (z : List ℕ). same_bytes z y) p ∙ ap (same_bytes a) q

-- a replica with the next version, as the code makes it
pub raised_is : {r q : Replica} {own o p : ℕ} → r ≡ q → o ≡ own → p ≡ without r.head.holders o →
    record { head = r.head; version = r.version + 1; pending = p } ≡ raised own q
raised_is {r} {q} {own} {o} {p} e f g =
    ap (λ (z : ℕ). record { head = r.head; version = r.version + 1; pending = z }) (g ∙ ap (without r.head.holders) f)
    ∙ ap (raised own) e

-- where they stand in a slot
module _ {l : List ℕ} (k : Stands l) where
  head_bytes_law : (i : ℕ) → i < replicas_used l → chunk l (replica_slot i) 40 ≡ head_bytes (replica_in l i).head
  head_bytes_law i h =
      sym (first_chunk l (replica_slot i) 48 40 (omega arith)) ∙ ap (λ (c : List ℕ). chunk c 0 40) (replica_bytes_law k i h)
      ∙ replica_head (replica_in l i)

  entry_bytes_law : (i : ℕ) → i < entries_used l → chunk l (entry_slot i) 32 ≡ entry_bytes (entry_in l i).entry
  entry_bytes_law i h =
      sym (first_chunk l (entry_slot i) 40 32 (omega arith)) ∙ ap (λ (c : List ℕ). chunk c 0 32) (listed_bytes_law k i h)
      ∙ listed_entry (entry_in l i)

  replica_fits_law : Bytes l → (i : ℕ) → i < replicas_used l → ReplicaFit (replica_in l i)
  unfolding table_of
  replica_fits_law b i h =
      each_slots ReplicaFit (replica_in l) 0 (replicas_used l) (wide_of l b k.size).replicas i (omega arith) (omega arith)

  listed_fits_law : Bytes l → (i : ℕ) → i < entries_used l → ListedFit (entry_in l i)
  unfolding table_of
  listed_fits_law b i h =
      each_slots ListedFit (entry_in l) 0 (entries_used l) (wide_of l b k.size).entries i (omega arith) (omega arith)

-- ---- the entries of a directory, slot by slot

-- entry slot i is none of the directory's, or is one of the first k and as it was
abbrev keeps : (ℕ → Listed) → (ℕ → Listed) → ℕ → ℕ → ℕ → Bool
keeps f g k d i = not (eqb (g i).directory d) || (ltb i k && same_entry (f i).entry (g i).entry)

-- none of them are left
none_left : (f g : ℕ → Listed) (k d s n : ℕ) → k ≤ s →
    same_entries [] (entries_of d (slots_from g s n)) ≡ every_slot (keeps f g k d) s n
unfolding same_entries entries_of slots_from every_slot
none_left f g k d s zero h = refl
none_left f g k d s (suc n) h = go (eqb (g s).directory d) (none_left f g k d (suc s) n (omega arith))
  where
    go : (b : Bool) → same_entries [] (entries_of d (slots_from g (suc s) n)) ≡ every_slot (keeps f g k d) (suc s) n →
        same_entries [] (cond b ((g s).entry ∷ entries_of d (slots_from g (suc s) n)) (entries_of d (slots_from g (suc s) n)))
        ≡ ((not b || (ltb s k && same_entry (f s).entry (g s).entry)) && every_slot (keeps f g k d) (suc s) n)
    go true e = simp (le-ltb s k h)
    go false e = e

entries_test : (f g : ℕ → Listed) (k d s m n : ℕ) → s + m ≡ k → Slots SameDirectory Anything f g s m n →
    same_entries (entries_of d (slots_from f s m)) (entries_of d (slots_from g s n)) ≡ every_slot (keeps f g k d) s n
unfolding same_entries entries_of slots_from every_slot
entries_test f g k d s zero n e p = none_left f g k d s n (omega (arith, e))
entries_test f g k d s (suc m) zero e p = absurd (omega (arith, p.more))
entries_test f g k d s (suc m) (suc n) e p =
    go (eqb (f s).directory d) (eqb (g s).directory d) (ap (λ (z : ℕ). eqb z d) (sym (p.same s (omega arith) (omega arith))))
    (entries_test f g k d (suc s) m n (omega (arith, e))
    (record {
      more = omega (arith, p.more);
      same = λ i low high. p.same i (omega arith) (omega arith);
      new = λ i low high. p.new i (omega arith) (omega arith);
    }))
    (lt-ltb s k (omega (arith, e)))
  where
    go : (a b : Bool) → a ≡ b →
        same_entries (entries_of d (slots_from f (suc s) m)) (entries_of d (slots_from g (suc s) n)) ≡ every_slot (keeps f g k d) (suc s) n →
        ltb s k ≡ true →
        same_entries (cond a ((f s).entry ∷ entries_of d (slots_from f (suc s) m)) (entries_of d (slots_from f (suc s) m)))
        (cond b ((g s).entry ∷ entries_of d (slots_from g (suc s) n)) (entries_of d (slots_from g (suc s) n)))
        ≡ ((not b || (ltb s k && same_entry (f s).entry (g s).entry)) && every_slot (keeps f g k d) (suc s) n)
    go true true q ih low = rw low (ap (λ (z : Bool). same_entry (f s).entry (g s).entry && z) ih)
    go true false q ih low = never (sym q)
    go false true q ih low = never q
    go false false q ih low = ih

-- tests that agree on every slot
slots_agree : (f g : ℕ → Bool) (s n : ℕ) → ((i : ℕ) → i < s + n → f i ≡ g i) → every_slot f s n ≡ every_slot g s n
unfolding every_slot
slots_agree f g s zero h = refl
slots_agree f g s (suc n) h =
    ap (λ (b : Bool). b && every_slot f (suc s) n) (h s (omega arith))
    ∙ ap (λ (b : Bool). g s && b) (slots_agree f g (suc s) n (λ i low. h i (omega arith)))

-- ---- one replica

-- a slot is one of them
slot_in_law : {A : Type 0} (g : ℕ → A) (s n i : ℕ) → s ≤ i → i < s + n → In (g i) (slots_from g s n)
unfolding slots_from
slot_in_law g s zero i low high = absurd (omega arith)
slot_in_law g s (suc n) i low high =
    first_or (λ (i : ℕ). In (g i) (g s ∷ slots_from g (suc s) n)) s i (Memᴰ.head refl)
    (λ l. Memᴰ.tail (slot_in_law g (suc s) n i l (omega arith))) low

-- a slot that is set to what it has, and what holds of each after one is set
set_slot : (t : List ℕ) (i : ℕ) → set (table_of t).replicas i (replica_in t i) ≡ (table_of t).replicas
unfolding table_of
set_slot t i =
    ap (λ (j : ℕ). set (slots_from (replica_in t) 0 (replicas_used t)) j (replica_in t i)) (sym (sub-zero i))
    ∙ set_same (replica_in t) 0 (replicas_used t) i (omega arith)

each_set : {A : Type 0} (P : A → Type 0) (xs : List A) (i : ℕ) (x : A) → P x → Each P xs → Each P (set xs i x)
each_set P [] i x p end = end
each_set P (y ∷ ys) zero x p (more q qs) = more {x = x} p qs
each_set P (y ∷ ys) (suc i) x p (more q qs) = more {x = y} q (each_set P ys i x p qs)

module _ {old t : List ℕ} (b : Bytes old) (c : Bytes t) {n i : ℕ} (p : Compares old t n i) where
  abbrev was : Table
  was = table_of old

  abbrev is : Table
  is = table_of t

  abbrev head : Head
  head = (replica_in t i).head

  replica_slots_law : Slots SameId (NotIn was.replicas) (replica_in old) (replica_in t) 0 (replicas_used old) (replicas_used t)
  unfolding table_of
  replica_slots_law = grows_slots SameId (NotIn was.replicas) (replica_in old) (replica_in t) 0 (replicas_used old) (replicas_used t) p.settles.grown.replicas

  entry_slots_law : Slots SameDirectory Anything (entry_in old) (entry_in t) 0 (entries_used old) (entries_used t)
  unfolding table_of
  entry_slots_law = grows_slots SameDirectory Anything (entry_in old) (entry_in t) 0 (entries_used old) (entries_used t) p.settles.grown.entries

  -- it is new
  pub is_new : replicas_used old ≤ i → false ≡ unchanged was is head
  is_new h =
      and_stop _ _
      (ap (λ (o : Option Replica). same_head head (head_of? o))
      (replica_slots_law.new i (omega arith) (omega (arith, p.slot))))

  -- it was in the same slot
  was_there : i < replicas_used old → head_of was head.id ≡ some (replica_in old i).head
  unfolding table_of
  was_there h =
      ap (λ (f : ℕ). head_of was f) (replica_slots_law.same i (omega arith) (omega arith))
      ∙ ap head_of? (find_member was.replicas p.settles.unique (replica_in old i)
      (slot_in_law (replica_in old) 0 (replicas_used old) i (omega arith) (omega arith)))

  same_there : i < replicas_used old →
      same_head head (head_of was head.id) ≡ same_bytes (chunk old (replica_slot i) 40) (chunk t (replica_slot i) 40)
  same_there h =
      ap (same_head head) (was_there h)
      ∙ sym (head_test (replica_in old i).head head (replica_fits_law p.settles.before b i h).head (replica_fits_law p.settles.after c i p.slot).head)
      ∙ ap (λ (z : List ℕ). same_bytes z (head_bytes head)) (sym (head_bytes_law p.settles.before i h))
      ∙ ap (same_bytes (chunk old (replica_slot i) 40)) (sym (head_bytes_law p.settles.after i p.slot))

  -- another head
  pub is_renewed : i < replicas_used old → same_bytes (chunk old (replica_slot i) 40) (chunk t (replica_slot i) 40) ≡ false →
      false ≡ unchanged was is head
  is_renewed h e = and_stop _ _ (same_there h ∙ e)

  -- its entries
  slot_test : (d s : ℕ) → s < entries_used t → keeps (entry_in old) (entry_in t) (entries_used old) d s ≡ is_slot_same old t d s
  slot_test d s h =
      ap (λ (z : ℕ). not (eqb z d) || (ltb s (entries_used old) && same_entry (entry_in old s).entry (entry_in t s).entry)) (directory_at t s)
      ∙ ap (λ (z : Bool). not (eqb (u32_at t (entry_slot s + 32)) d) || z) (go (ltb s (entries_used old)) refl)
    where
      go : (z : Bool) → ltb s (entries_used old) ≡ z →
          (ltb s (entries_used old) && same_entry (entry_in old s).entry (entry_in t s).entry)
          ≡ (ltb s (entries_used old) && same_bytes (chunk old (entry_slot s) 32) (chunk t (entry_slot s) 32))
      go true e =
          let low = ltb-true _ _ e in
          ap (λ (z : Bool). ltb s (entries_used old) && z)
          (sym (entry_test (entry_in old s).entry (entry_in t s).entry (listed_fits_law p.settles.before b s low).entry (listed_fits_law p.settles.after c s h).entry)
          ∙ ap (λ (z : List ℕ). same_bytes z (entry_bytes (entry_in t s).entry)) (sym (entry_bytes_law p.settles.before s low))
          ∙ ap (same_bytes (chunk old (entry_slot s) 32)) (sym (entry_bytes_law p.settles.after s h)))
      go false e = rw e refl

  pub is_kept : i < replicas_used old → same_bytes (chunk old (replica_slot i) 40) (chunk t (replica_slot i) 40) ≡ true → (d : ℕ) →
      d ≡ u32_at t (replica_slot i + 4) → every_slot (is_slot_same old t d) 0 n ≡ unchanged was is head
  unfolding table_of
  is_kept h e d q =
      and_go _ _ (same_there h ∙ e)
      (ap (λ (z : ℕ). every_slot (is_slot_same old t d) 0 z) p.present
      ∙ sym (slots_agree _ _ 0 (entries_used t) (λ s low. slot_test d s (omega arith)))
      ∙ sym (entries_test (entry_in old) (entry_in t) (entries_used old) d 0 (entries_used old) (entries_used t) (omega arith) entry_slots_law)
      ∙ ap (λ (z : ℕ). same_entries (entries_of z was.entries) (entries_of z is.entries)) (q ∙ sym (id_at t i)))

  -- ---- its version

  abbrev replica : Replica
  replica = replica_in t i

  slot_size : length (set is.replicas i (settled was is replica)) ≤ 64
  slot_size = omega (arith, length-set is.replicas i (settled was is replica), replicas_held t, few_replicas t)

  -- nothing changed
  pub slot_kept : unchanged was is head ≡ true →
      (true ≡ ltb (settled was is replica).version (2 ^ 32))
      × Is t (with_replicas is (set is.replicas i (settled was is replica)))
  slot_kept e =
      let same : settled was is replica ≡ replica = settled_kept was is replica e in (
        sym (ap (λ (r : Replica). ltb r.version (2 ^ 32)) same ∙ lt-ltb _ _ (replica_fits_law p.settles.after c i p.slot).version),
        subst (λ (rs : List Replica). Is t (with_replicas is rs))
            (sym (ap (set is.replicas i) same ∙ set_slot t i)) p.settles.after,
      )

  -- the last version was given
  pub slot_past : false ≡ unchanged was is head → replica.version ≡ 4294967295 →
      false ≡ ltb (settled was is replica).version (2 ^ 32)
  slot_past e v =
      sym (ap (λ (r : Replica). ltb r.version (2 ^ 32)) (settled_raised was is replica (sym e))
      ∙ le-ltb (replica.version + 1) (2 ^ 32) (omega (arith, v)))

  -- the version is raised
  pub slot_raised : false ≡ unchanged was is head → (replica.version ≡ 4294967295 → ⊥) →
      (true ≡ ltb (settled was is replica).version (2 ^ 32))
      × Is (splice t (replica_slot i) (replica_bytes (raised is.own replica)))
      (with_replicas is (set is.replicas i (settled was is replica)))
  slot_raised e v =
      let next : settled was is replica ≡ raised is.own replica = settled_raised was is replica (sym e) in
      let f = replica_fits_law p.settles.after c i p.slot in
      let w = wide_of t c p.settles.after.size in
      let up : replica.version + 1 < 2 ^ 32 = omega (arith, f.version, v) in
      let fit : ReplicaFit (settled was is replica) = subst ReplicaFit (sym next) (record { head = f.head; version = up }) in (
        sym (ap (λ (r : Replica). ltb r.version (2 ^ 32)) next ∙ lt-ltb _ _ up),
        wide_is
            (record {
              header = w.header;
              few_replicas = slot_size;
              replicas = each_set ReplicaFit is.replicas i (settled was is replica) fit w.replicas;
              few_entries = w.few_entries;
              entries = w.entries;
            })
            (slot_rewritten p.settles.after i (raised is.own replica) p.slot
            ∙ ap (λ (r : Replica). table_bytes (with_replicas is (set is.replicas i r))) (sym next)),
      )

-- ---- all of them, from the first slot on

-- the first i are settled, and none of their versions is past its end
unfoldable pub settled_to : Table → Table → ℕ → List Replica → List Replica
settled_to old t zero rs = rs
settled_to old t (suc i) [] = []
settled_to old t (suc i) (r ∷ rs) = settled old t r ∷ settled_to old t i rs

abbrev is_numbered : Replica → Bool
is_numbered r = ltb r.version (2 ^ 32)

unfoldable pub numbered_to : Table → Table → ℕ → List Replica → Bool
numbered_to old t zero rs = true
numbered_to old t (suc i) [] = true
numbered_to old t (suc i) (r ∷ rs) = is_numbered (settled old t r) && numbered_to old t i rs

-- the replica in slot i, if there is one
abbrev at : List Replica → ℕ → Replica
at rs i = get_or rs i (record { head = root_head 0; version = 0; pending = 0 })

at_slot : (g : ℕ → Replica) (s n i : ℕ) → i < n → at (slots_from g s n) i ≡ g (s + i)
unfolding slots_from
at_slot g s zero i h = absurd (omega arith)
at_slot g s (suc n) zero h = ap g (sym (add-zero s))
at_slot g s (suc n) (suc i) h = at_slot g (suc s) n i (omega arith) ∙ ap g {x = suc s + i} {y = s + suc i} (omega arith)

module _ (old t : Table) where
  pub to_none : (rs : List Replica) → settled_to old t 0 rs ≡ rs
  unfolding settled_to
  to_none rs = refl

  pub numbered_none : (rs : List Replica) → numbered_to old t 0 rs ≡ true
  unfolding numbered_to
  numbered_none rs = refl

  to_size : (i : ℕ) (rs : List Replica) → length (settled_to old t i rs) ≡ length rs
  unfolding settled_to
  to_size zero rs = refl
  to_size (suc i) [] = refl
  to_size (suc i) (r ∷ rs) = ap suc (to_size i rs)

  -- the next one is as it was
  to_next : (i : ℕ) (rs : List Replica) → at (settled_to old t i rs) i ≡ at rs i
  unfolding settled_to
  to_next zero rs = refl
  to_next (suc i) [] = refl
  to_next (suc i) (r ∷ rs) = to_next i rs

  to_suc : (i : ℕ) (rs : List Replica) → i < length rs →
      set (settled_to old t i rs) i (settled old t (at rs i)) ≡ settled_to old t (suc i) rs
  unfolding settled_to
  to_suc i [] h = absurd (omega arith)
  to_suc zero (r ∷ rs) h = refl
  to_suc (suc i) (r ∷ rs) h = ap (λ (z : List Replica). settled old t r ∷ z) (to_suc i rs (omega arith))

  numbered_suc : (i : ℕ) (rs : List Replica) → i < length rs → numbered_to old t i rs ≡ true →
      is_numbered (settled old t (at rs i)) ≡ true → numbered_to old t (suc i) rs ≡ true
  unfolding numbered_to
  numbered_suc i [] h n e = refl
  numbered_suc zero (r ∷ rs) h n e = rw e refl
  numbered_suc (suc i) (r ∷ rs) h n e =
      let q = and_true (is_numbered (settled old t r)) _ n in
      rw q.0 (numbered_suc i rs (omega arith) q.1 e)

  -- all of them
  pub to_all : (i : ℕ) (rs : List Replica) → length rs ≤ i → settled_to old t i rs ≡ settle_all old t rs
  unfolding settled_to settle_all
  to_all zero [] h = refl
  to_all zero (r ∷ rs) h = absurd (omega arith)
  to_all (suc i) [] h = refl
  to_all (suc i) (r ∷ rs) h = ap (λ (z : List Replica). settled old t r ∷ z) (to_all i rs (omega arith))

  pub numbered_all : (i : ℕ) (rs : List Replica) → length rs ≤ i → numbered_to old t i rs ≡ every is_numbered (settle_all old t rs)
  unfolding numbered_to settle_all every
  numbered_all zero [] h = refl
  numbered_all zero (r ∷ rs) h = absurd (omega arith)
  numbered_all (suc i) [] h = refl
  numbered_all (suc i) (r ∷ rs) h = ap (λ (z : Bool). is_numbered (settled old t r) && z) (numbered_all i rs (omega arith))

  -- one of them is past its end
  not_numbered : (i : ℕ) (rs : List Replica) → i < length rs → is_numbered (settled old t (at rs i)) ≡ false →
      every is_numbered (settle_all old t rs) ≡ false
  unfolding settle_all every
  not_numbered i [] h e = absurd (omega arith)
  not_numbered zero (r ∷ rs) h e = rw e refl
  not_numbered (suc i) (r ∷ rs) h e =
      sym (and_last (is_numbered (settled old t r)) _ (sym (not_numbered i rs (omega arith) e)))
    where
      and_last : (a b : Bool) → false ≡ b → false ≡ (a && b)
      and_last true b e = e
      and_last false b e = refl

  -- ids stay
  settled_id : (r : Replica) → (settled old t r).head.id ≡ r.head.id
  settled_id r = ap (λ (h : Head). h.id) (settled_head old t r)

  module _ (first : List Replica) where
    each_to : (i : ℕ) (ys : List Replica) → Each (NotIn first) ys → Each (NotIn first) (settled_to old t i ys)
    unfolding settled_to
    each_to zero ys e = e
    each_to (suc i) [] end = end
    each_to (suc i) (y ∷ ys) (more q qs) =
        more {x = settled old t y} (ap (λ (f : ℕ). find f first) (settled_id y) ∙ q) (each_to i ys qs)

    grows_to : (i : ℕ) (xs ys : List Replica) → Grows SameId (NotIn first) xs ys → Grows SameId (NotIn first) xs (settled_to old t i ys)
    unfolding settled_to
    grows_to zero xs ys g = g
    grows_to (suc i) [] ys (rest e) = rest (each_to (suc i) ys e)
    grows_to (suc i) (x ∷ xs) [] g = elim g [ ]
    grows_to (suc i) (x ∷ xs) (y ∷ ys) (next r g) =
        next {x = x} {y = settled old t y} (settled_id y ∙ r) (grows_to i xs ys g)

-- ---- a turn of the loop: l is the working copy, with i replicas settled

module _ {old t : List ℕ} (p : Settles old t) (l : List ℕ) (i : ℕ)
    (k : Is l (with_replicas (table_of t) (settled_to (table_of old) (table_of t) i (table_of t).replicas))) where
  abbrev before : Table
  before = table_of old

  abbrev start : Table
  start = table_of t

  pub turn_used : (replicas_used l ≡ replicas_used t) × (entries_used l ≡ entries_used t)
  turn_used = (
    sym (replicas_held l) ∙ ap (λ (u : Table). length u.replicas) k.table
        ∙ to_size before start i start.replicas ∙ replicas_held t,
    sym (entries_held l) ∙ ap (λ (u : Table). length u.entries) k.table ∙ entries_held t,
  )

  pub turn_compares : {n : ℕ} → n ≡ entries_used t → i < replicas_used t → Compares old l n i
  turn_compares en h =
      record {
        settles =
            record {
              before = p.before;
              after = stands k;
              unique = p.unique;
              grown =
                  subst (λ (u : Table). Grown before u) (sym k.table)
                  (record {
                    replicas = grows_to before start before.replicas i before.replicas start.replicas p.grown.replicas;
                    entries = p.grown.entries;
                  });
            };
        present = en ∙ sym turn_used.1;
        slot = omega (arith, turn_used.0, h);
      }

  -- the replica there, and what becomes of it
  turn_replica : i < replicas_used t → replica_in l i ≡ at start.replicas i
  unfolding table_of
  turn_replica h =
      ap (replica_in l) {x = i} {y = 0 + i} (omega arith)
      ∙ sym (at_slot (replica_in l) 0 (replicas_used l) i (omega (arith, turn_used.0, h)))
      ∙ ap (λ (u : Table). at u.replicas i) k.table
      ∙ to_next before start i start.replicas

  turn_settled : i < replicas_used t →
      settled before (table_of l) (replica_in l i) ≡ settled before start (at start.replicas i)
  turn_settled h =
      ap (λ (u : Table). settled before u (replica_in l i)) k.table ∙ ap (settled before start) (turn_replica h)

  pub turn_past : i < replicas_used t → false ≡ ltb (settled before (table_of l) (replica_in l i)).version (2 ^ 32) →
      false ≡ all_numbered (settle before start)
  unfolding settle
  turn_past h e =
      sym (not_numbered before start i start.replicas (omega (arith, replicas_held t, h))
      (ap is_numbered (sym (turn_settled h)) ∙ sym e))

  pub turn_done : i < replicas_used t → true ≡ ltb (settled before (table_of l) (replica_in l i)).version (2 ^ 32) →
      (l' : List ℕ) → Is l' (with_replicas (table_of l) (set (table_of l).replicas i (settled before (table_of l) (replica_in l i)))) →
      numbered_to before start i start.replicas ≡ true →
      Is l' (with_replicas start (settled_to before start (i + 1) start.replicas))
      × (numbered_to before start (i + 1) start.replicas ≡ true)
  turn_done h e l' q n =
      let low : i < length start.replicas = omega (arith, replicas_held t, h) in
      let one : suc i ≡ i + 1 = omega arith in (
        subst (λ (u : Table). Is l' u)
            (ap (λ (u : Table). with_replicas u (set u.replicas i (settled before (table_of l) (replica_in l i)))) k.table
            ∙ ap (λ (r : Replica). with_replicas start (set (settled_to before start i start.replicas) i r)) (turn_settled h)
            ∙ ap (with_replicas start) (to_suc before start i start.replicas low)
            ∙ ap (λ (j : ℕ). with_replicas start (settled_to before start j start.replicas)) one)
            q,
        ap (λ (j : ℕ). numbered_to before start j start.replicas) (sym one)
            ∙ numbered_suc before start i start.replicas low n (ap is_numbered (sym (turn_settled h)) ∙ sym e),
      )

  -- the end
  pub turn_end : replicas_used t ≤ i → numbered_to before start i start.replicas ≡ true →
      (true ≡ all_numbered (settle before start)) × Is l (settle before start)
  unfolding settle
  turn_end h n =
      let all : length start.replicas ≤ i = omega (arith, replicas_held t, h) in (
        sym n ∙ numbered_all before start i start.replicas all,
        subst (λ (rs : List Replica). Is l (with_replicas start rs)) (to_all before start i start.replicas all) k,
      )

-- the beginning
pub turn_first : {old t : List ℕ} → Settles old t →
    Is t (with_replicas (table_of t) (settled_to (table_of old) (table_of t) 0 (table_of t).replicas))
turn_first {old} {t} p =
    subst (λ (rs : List Replica). Is t (with_replicas (table_of t) rs)) (sym (to_none (table_of old) (table_of t) (table_of t).replicas)) p.after
