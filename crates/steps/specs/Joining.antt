-- The join of an entry: what it comes to, what each case means, whether there is room, and what its bytes make of the
-- table. Assumes nothing.
use Rattle.std.specs.Prelude.{◌≡◌, refl, Bool, true, false, ◌&&◌, ◌||◌, not, cond, List, [], ◌∷◌, ◌++◌, ℕ, zero, suc, ◌-◌, ◌≤◌, ◌<◌, eqb, ltb, length, set, Option as Slot, Some, None}
use Rattle.std.proofs.Common.{ap, sym, subst, ◌∙◌, arith, length-set, length-append, eqb-true, eq-eqb, ne_eqb, lt-ltb, le-ltb, ltb-true}
use Rattle.std.proofs.Math.Option.{Option, some, none}
use Rattle.std.proofs.Math.Nat.{sub-zero}
use Rattle.std.proofs.lemmas.Bool.{eqb-false}
use Rattle.codec.specs.Bytes.{splice, Bytes}
use Rattle.codec.specs.Lists.{and_true, and_stop, and_go}
use Rattle.slots.specs.declared.listed.Listed.{Listed}
use Rattle.records.specs.declared.entry.Entry.{Entry}
use Rattle.slots.specs.Listings.{listed_bytes, ListedFit}
use Rattle.document.specs.Tables.{Table, find_entry, entry_of?, entry_of, entries_of, slots_from, with_entries, table_bytes, table_of, entry_slot, entry_in, entries_used}
use Rattle.document.specs.Sound.{same_key}
use Rattle.document.specs.Steps.{newer, join_into, joined, at_odds, odd_join}
use Rattle.document.specs.Reading.{few_replicas, few_entries}
use Rattle.table.specs.Slots.{first_slot, first_entry, entries_in, entries_count, found_slot, no_slot}
use Rattle.steps.specs.declared.join.Joined.{Joined}
use Rattle.steps.specs.declared.join.Joined.TheVariants.{Added, Replaced, Same, AtOdds}
use Rattle.steps.specs.Standing.{Each, end, more, Wide, Is, Stands, wide_of, wide_is, entries_held, replicas_held}
use Rattle.steps.specs.Writes.{entry_rewritten, listed_added, into_none, into_found}

-- what an entry comes to that meets the one in slot s
abbrev pub meets : Listed → Listed → ℕ → Joined
meets x y s =
    cond (ltb y.entry.stamp x.entry.stamp) (Replaced s)
    (cond (at_odds x (some y.entry)) AtOdds Same)

-- what a join comes to, by the slot in which the key was found
abbrev pub joined_at : Slot ℕ → (ℕ → Listed) → Listed → Joined
joined_at None g x = Added
joined_at (Some s) g x = meets x (g s) s

abbrev pub joined_in : List ℕ → ℕ → Listed → Joined
joined_in l k x = joined_at (first_entry l k x.directory x.entry.child x.entry.name) (entry_in l) x

-- ---- what each case means: the entries after it, and the number that a message is refused with

abbrev pub entries_after : Joined → Listed → List Listed → List Listed
entries_after Added x es = es ++ (x ∷ [])
entries_after (Replaced s) x es = set es s x
entries_after Same x es = es
entries_after AtOdds x es = es

abbrev pub refusal_of : Joined → ℕ
refusal_of Added = 0
refusal_of (Replaced s) = 0
refusal_of Same = 0
refusal_of AtOdds = 13

-- ---- room for one more

abbrev pub is_room : ℕ → Table → Bool
is_room d t = ltb (length t.entries) 256 && ltb (length (entries_of d t.entries)) 32

abbrev pub is_listed : Option Entry → Bool
is_listed none = false
is_listed (some e) = true

abbrev pub has_room : Listed → Table → Bool
has_room x t = is_listed (entry_of t x.directory x.entry.child x.entry.name) || is_room x.directory t

-- ---- the list

pub join_none : (x : Listed) (es : List Listed) → find_entry x.directory x.entry.child x.entry.name es ≡ none →
    join_into x es ≡ es ++ (x ∷ [])
unfolding join_into
join_none x = into_none (same_key x) (newer x) x (join_into x) refl (λ y ys. refl)

pub join_found : (x : Listed) (g : ℕ → Listed) (s n i : ℕ) → first_slot (λ (k : ℕ). same_key x (g k)) s n ≡ Some i →
    join_into x (slots_from g s n) ≡ set (slots_from g s n) (i - s) (newer x (g i))
unfolding join_into
join_found x = into_found (same_key x) (newer x) x (join_into x) refl (λ y ys. refl)

-- a slot that is set to what it has
pub set_same : {A : Type 0} (g : ℕ → A) (s n i : ℕ) → s ≤ i → set (slots_from g s n) (i - s) (g i) ≡ slots_from g s n
unfolding slots_from
set_same g s zero i h = refl
set_same g s (suc n) i h = go (eqb s i) refl (set_same g (suc s) n i)
  where
    go : (b : Bool) → eqb s i ≡ b → (suc s ≤ i → set (slots_from g (suc s) n) (i - suc s) (g i) ≡ slots_from g (suc s) n) →
        set (g s ∷ slots_from g (suc s) n) (i - s) (g i) ≡ g s ∷ slots_from g (suc s) n
    go true q ih =
        let same : s ≡ i = eqb-true s i q in
        ap (λ (k : ℕ). set (g s ∷ slots_from g (suc s) n) k (g i)) {x = i - s} {y = 0} (omega arith)
        ∙ ap (λ (k : ℕ). g k ∷ slots_from g (suc s) n) (sym same)
    go false q ih =
        let other = eqb-false s i q in
        ap (λ (k : ℕ). set (g s ∷ slots_from g (suc s) n) k (g i)) {x = i - s} {y = suc (i - suc s)} (omega arith)
        ∙ ap (λ (r : List _). g s ∷ r) (ih (omega arith))

-- every entry fits its fields
pub join_fits : (x : Listed) (es : List Listed) → ListedFit x → Each ListedFit es → Each ListedFit (join_into x es)
unfolding join_into
join_fits x [] f end = more {x = x} f end
join_fits x (y ∷ ys) f (more p ps) = go (same_key x y) (ltb y.entry.stamp x.entry.stamp) (join_fits x ys f ps)
  where
    go : (b c : Bool) → Each ListedFit (join_into x ys) → Each ListedFit (cond b (cond c x y ∷ ys) (y ∷ join_into x ys))
    go true true q = more {x = x} f ps
    go true false q = more {x = y} p ps
    go false c q = more {x = y} p q

-- ---- the bytes

-- the slot to be replaced
abbrev pub slot_of : Joined → ℕ
slot_of Added = 0
slot_of (Replaced s) = s
slot_of Same = 0
slot_of AtOdds = 0

-- what is written for an entry that is not added
abbrev pub bytes_after : Joined → Listed → List ℕ → List ℕ
bytes_after Added x l = l
bytes_after (Replaced s) x l = splice l (entry_slot s) (listed_bytes x)
bytes_after Same x l = l
bytes_after AtOdds x l = l

-- what an entry comes to that meets one of another stamp, or of its own
pub meets_older : (x y : Listed) (s : ℕ) → y.entry.stamp < x.entry.stamp → Replaced s ≡ meets x y s
meets_older x y s h = ap (λ (b : Bool). cond b (Replaced s) (cond (at_odds x (some y.entry)) AtOdds Same)) (sym (lt-ltb _ _ h))

pub meets_newer : (x y : Listed) (s : ℕ) → x.entry.stamp < y.entry.stamp → Same ≡ meets x y s
meets_newer x y s h =
    let a = le-ltb y.entry.stamp x.entry.stamp (omega arith) in
    let b = ne_eqb y.entry.stamp x.entry.stamp (λ e. omega (arith, e)) in
    sym (simp (a, b))

pub meets_same : (x y : Listed) (s : ℕ) → y.entry.stamp ≡ x.entry.stamp → y.entry.live ≡ x.entry.live →
    Same ≡ meets x y s
meets_same x y s e f =
    let a = le-ltb y.entry.stamp x.entry.stamp (omega arith) in
    let b = eq-eqb y.entry.stamp x.entry.stamp e in
    let d = eq-eqb y.entry.live x.entry.live f in
    sym (simp (a, b, d))

pub meets_odd : (x y : Listed) (s : ℕ) → y.entry.stamp ≡ x.entry.stamp → (y.entry.live ≡ x.entry.live → ⊥) →
    AtOdds ≡ meets x y s
meets_odd x y s e f =
    let a = le-ltb y.entry.stamp x.entry.stamp (omega arith) in
    let b = eq-eqb y.entry.stamp x.entry.stamp e in
    let d = ne_eqb y.entry.live x.entry.live f in
    sym (simp (a, b, d))

-- an entry that meets another is not added
meets_not_added : (x y : Listed) (s : ℕ) → meets x y s ≡ Added → ⊥
meets_not_added x y s e = go (ltb y.entry.stamp x.entry.stamp) (at_odds x (some y.entry)) e
  where
    go : (a b : Bool) → cond a (Replaced s) (cond b AtOdds Same) ≡ Added → ⊥
    go true b e = let z : ◌≡◌ {A = ℕ} 0 1 = cc in absurd (omega arith)
    go false true e = let z : ◌≡◌ {A = ℕ} 0 1 = cc in absurd (omega arith)
    go false false e = let z : ◌≡◌ {A = ℕ} 0 1 = cc in absurd (omega arith)

-- ---- where the key stands, or that it does not

key_there : (l : List ℕ) (x : Listed) (i : ℕ) → first_entry l (entries_used l) x.directory x.entry.child x.entry.name ≡ Some i →
    find_entry x.directory x.entry.child x.entry.name (table_of l).entries ≡ some (entry_in l i)
unfolding table_of
key_there l x i e = (found_slot (same_key x) (entry_in l) 0 (entries_used l) i e).2

key_absent : (l : List ℕ) (x : Listed) → first_entry l (entries_used l) x.directory x.entry.child x.entry.name ≡ None →
    find_entry x.directory x.entry.child x.entry.name (table_of l).entries ≡ none
unfolding table_of
key_absent l x e = no_slot (same_key x) (entry_in l) 0 (entries_used l) e

key_found : (l : List ℕ) (x : Listed) (i : ℕ) → first_entry l (entries_used l) x.directory x.entry.child x.entry.name ≡ Some i →
    join_into x (table_of l).entries ≡ set (table_of l).entries i (newer x (entry_in l i))
unfolding table_of
key_found l x i e =
    join_found x (entry_in l) 0 (entries_used l) i e
    ∙ ap (λ (j : ℕ). set (slots_from (entry_in l) 0 (entries_used l)) j (newer x (entry_in l i))) (sub-zero i)

-- the slot is set to what it has
key_unset : (l : List ℕ) (i : ℕ) → set (table_of l).entries i (entry_in l i) ≡ (table_of l).entries
unfolding table_of
key_unset l i =
    ap (λ (j : ℕ). set (slots_from (entry_in l) 0 (entries_used l)) j (entry_in l i)) (sym (sub-zero i))
    ∙ set_same (entry_in l) 0 (entries_used l) i (omega arith)

module _ {l : List ℕ} (k : Stands l) (b : Bytes l) (x : Listed) (f : ListedFit x) where
  abbrev slot : Slot ℕ
  slot = first_entry l (entries_used l) x.directory x.entry.child x.entry.name

  wide_join : length (join_into x (table_of l).entries) ≤ 256 → Wide (joined x (table_of l))
  wide_join few =
      let w = wide_of l b k.size in
      record {
        header = w.header;
        few_replicas = w.few_replicas;
        replicas = w.replicas;
        few_entries = few;
        entries = join_fits x (table_of l).entries f w.entries;
      }

  -- where the key stands
  found : (i : ℕ) → slot ≡ Some i →
      (i < entries_used l) × (true ≡ has_room x (table_of l))
      × (join_into x (table_of l).entries ≡ set (table_of l).entries i (newer x (entry_in l i)))
  found i e =
      let p = found_slot (same_key x) (entry_in l) 0 (entries_used l) i e in (
        omega (arith, p.1),
        ap (λ (o : Option Listed). is_listed (entry_of? o) || is_room x.directory (table_of l)) (sym (key_there l x i e)),
        key_found l x i e,
      )

  -- it replaces what it meets, or leaves it
  replaced : (i : ℕ) → slot ≡ Some i → (older : Bool) → ltb (entry_in l i).entry.stamp x.entry.stamp ≡ older →
      Is (cond older (splice l (entry_slot i) (listed_bytes x)) l) (joined x (table_of l))
  replaced i e true q =
      let p = found i e in
      let written : join_into x (table_of l).entries ≡ set (table_of l).entries i x =
      p.2 ∙ ap (λ (z : Bool). set (table_of l).entries i (cond z x (entry_in l i))) q in
      let size = ap length written ∙ length-set (table_of l).entries i x ∙ entries_held l in
      wide_is (wide_join (omega (arith, size, few_entries l)))
      (entry_rewritten k i x p.0 ∙ ap (λ (es : List Listed). table_bytes (with_entries (table_of l) es)) (sym written))
  replaced i e false q =
      let p = found i e in
      let left : join_into x (table_of l).entries ≡ (table_of l).entries =
      p.2 ∙ ap (λ (z : Bool). set (table_of l).entries i (cond z x (entry_in l i))) q ∙ key_unset l i in
      let size = ap length left ∙ entries_held l in
      wide_is (wide_join (omega (arith, size, few_entries l)))
      (k.bytes ∙ ap (λ (es : List Listed). table_bytes (with_entries (table_of l) es)) (sym left))

  -- it is not added
  pub joins_there : (o : Joined) → o ≡ joined_in l (entries_used l) x → (o ≡ Added → ⊥) →
      (slot_of o < 256) × (true ≡ has_room x (table_of l)) × Is (bytes_after o x l) (joined x (table_of l))
  joins_there o e n = go slot refl e
    where
      at : (i : ℕ) → slot ≡ Some i → (older odd : Bool) → ltb (entry_in l i).entry.stamp x.entry.stamp ≡ older →
          o ≡ cond older (Replaced i) (cond odd AtOdds Same) →
          (slot_of o < 256) × (true ≡ has_room x (table_of l)) × Is (bytes_after o x l) (joined x (table_of l))
      at i f true odd q z =
          let p = found i f in
          subst (λ (u : Joined). (slot_of u < 256) × (true ≡ has_room x (table_of l)) × Is (bytes_after u x l) (joined x (table_of l)))
          (sym z) (omega (arith, p.0, few_entries l), p.1, replaced i f true q)
      at i f false true q z =
          let p = found i f in
          subst (λ (u : Joined). (slot_of u < 256) × (true ≡ has_room x (table_of l)) × Is (bytes_after u x l) (joined x (table_of l)))
          (sym z) (omega arith, p.1, replaced i f false q)
      at i f false false q z =
          let p = found i f in
          subst (λ (u : Joined). (slot_of u < 256) × (true ≡ has_room x (table_of l)) × Is (bytes_after u x l) (joined x (table_of l)))
          (sym z) (omega arith, p.1, replaced i f false q)

      go : (s : Slot ℕ) → slot ≡ s → o ≡ joined_at s (entry_in l) x →
          (slot_of o < 256) × (true ≡ has_room x (table_of l)) × Is (bytes_after o x l) (joined x (table_of l))
      go None f z = absurd (n z)
      go (Some i) f z =
          at i f (ltb (entry_in l i).entry.stamp x.entry.stamp) (at_odds x (some (entry_in l i).entry)) refl z

  -- it is added
  absent : Added ≡ joined_in l (entries_used l) x → find_entry x.directory x.entry.child x.entry.name (table_of l).entries ≡ none
  absent e = key_absent l x (go slot refl e)
    where
      go : (s : Slot ℕ) → slot ≡ s → Added ≡ joined_at s (entry_in l) x → slot ≡ None
      go None f z = f
      go (Some i) f z = absurd (meets_not_added x (entry_in l i) i (sym z))

  pub room_for : Added ≡ joined_in l (entries_used l) x → is_room x.directory (table_of l) ≡ has_room x (table_of l)
  room_for e =
      ap (λ (o : Option Listed). is_listed (entry_of? o) || is_room x.directory (table_of l)) (sym (absent e))

  pub joins_new : (m : ℕ) → m ≡ entries_used l → Added ≡ joined_in l (entries_used l) x →
      is_room x.directory (table_of l) ≡ true →
      (m < 256) × Is (splice l (entry_slot m) (listed_bytes x)) (joined x (table_of l))
  joins_new m u e r =
      let es = (table_of l).entries in
      let free = ltb-true (length es) 256 (and_true (ltb (length es) 256) _ r).0 in
      let grown = join_none x es (absent e) in
      let size = ap length grown ∙ length-append es (x ∷ []) in (
        omega (arith, free, entries_held l),
        wide_is (wide_join (omega (arith, size, free)))
            (ap (λ (z : List ℕ). splice z (entry_slot m) (listed_bytes x)) k.bytes
            ∙ ap (λ (n : ℕ). splice (table_bytes (table_of l)) (entry_slot n) (listed_bytes x)) (u ∙ sym (entries_held l))
            ∙ listed_added (table_of l) x (omega (arith, replicas_held l, few_replicas l)) free
            ∙ ap (λ (z : List Listed). table_bytes (with_entries (table_of l) z)) (sym grown)),
      )

-- ---- room, as the code counts it

pub no_room : (l : List ℕ) (d m : ℕ) → m ≡ entries_used l → m ≡ 256 → false ≡ is_room d (table_of l)
no_room l d m u full = and_stop _ _ (le-ltb (length (table_of l).entries) 256 (omega (arith, entries_held l)))

pub room_test : (l : List ℕ) (d m n : ℕ) → m ≡ entries_used l → (m ≡ 256 → ⊥) → n ≡ entries_in l m d →
    ltb n 32 ≡ is_room d (table_of l)
unfolding table_of
room_test l d m n u free e =
    and_go _ _ (lt-ltb (length (table_of l).entries) 256 (omega (arith, entries_held l, few_entries l)))
    (ap (λ (k : ℕ). ltb k 32)
    (e ∙ ap (λ (j : ℕ). entries_in l j d) u ∙ sym (entries_count l d 0 (entries_used l))))

-- ---- what the cases mean, against the definitions of document 01

-- the entries after a join are those that its case says
pub join_means : (l : List ℕ) (x : Listed) →
    entries_after (joined_in l (entries_used l) x) x (table_of l).entries ≡ join_into x (table_of l).entries
join_means l x = go (first_entry l (entries_used l) x.directory x.entry.child x.entry.name) refl
  where
    met : (i : ℕ) → join_into x (table_of l).entries ≡ set (table_of l).entries i (newer x (entry_in l i)) →
        set (table_of l).entries i (entry_in l i) ≡ (table_of l).entries →
        (older odd : Bool) → ltb (entry_in l i).entry.stamp x.entry.stamp ≡ older →
        entries_after (cond older (Replaced i) (cond odd AtOdds Same)) x (table_of l).entries ≡ join_into x (table_of l).entries
    met i e u true odd q = sym (e ∙ ap (λ (z : Bool). set (table_of l).entries i (cond z x (entry_in l i))) q)
    met i e u false true q = sym (e ∙ ap (λ (z : Bool). set (table_of l).entries i (cond z x (entry_in l i))) q ∙ u)
    met i e u false false q = sym (e ∙ ap (λ (z : Bool). set (table_of l).entries i (cond z x (entry_in l i))) q ∙ u)

    go : (s : Slot ℕ) → first_entry l (entries_used l) x.directory x.entry.child x.entry.name ≡ s →
        entries_after (joined_at s (entry_in l) x) x (table_of l).entries ≡ join_into x (table_of l).entries
    go None f = sym (join_none x (table_of l).entries (key_absent l x f))
    go (Some i) f =
        met i (key_found l x i f) (key_unset l i) (ltb (entry_in l i).entry.stamp x.entry.stamp)
        (at_odds x (some (entry_in l i).entry)) refl

-- a join is refused with 13 exactly if it meets its stamp with another flag
pub join_refused : (l : List ℕ) (x : Listed) →
    refusal_of (joined_in l (entries_used l) x) ≡ cond (odd_join x (table_of l)) 13 0
join_refused l x = go (first_entry l (entries_used l) x.directory x.entry.child x.entry.name) refl
  where
    met : (i : ℕ) → (older : Bool) → ltb (entry_in l i).entry.stamp x.entry.stamp ≡ older →
        (same : Bool) → eqb (entry_in l i).entry.stamp x.entry.stamp ≡ same → (flag : Bool) →
        refusal_of (cond older (Replaced i) (cond (same && flag) AtOdds Same)) ≡ cond (same && flag) 13 0
    met i true p true q flag =
        absurd (omega (arith, ltb-true (entry_in l i).entry.stamp x.entry.stamp p, eqb-true (entry_in l i).entry.stamp x.entry.stamp q))
    met i true p false q flag = refl
    met i false p true q true = refl
    met i false p true q false = refl
    met i false p false q flag = refl

    go : (s : Slot ℕ) → first_entry l (entries_used l) x.directory x.entry.child x.entry.name ≡ s →
        refusal_of (joined_at s (entry_in l) x) ≡ cond (odd_join x (table_of l)) 13 0
    go None f = ap (λ (o : Option Listed). cond (at_odds x (entry_of? o)) 13 0) (sym (key_absent l x f))
    go (Some i) f =
        met i (ltb (entry_in l i).entry.stamp x.entry.stamp) refl
        (eqb (entry_in l i).entry.stamp x.entry.stamp) refl
        (not (eqb (entry_in l i).entry.live x.entry.live))
        ∙ ap (λ (o : Option Listed). cond (at_odds x (entry_of? o)) 13 0) (sym (key_there l x i f))

-- what `join` answers: the case, and what it means by the two definitions
abbrev pub Joins : List ℕ → Listed → Joined → Type 0
Joins l x r =
    (r ≡ joined_in l (entries_used l) x)
    × (entries_after r x (table_of l).entries ≡ join_into x (table_of l).entries)
    × (refusal_of r ≡ cond (odd_join x (table_of l)) 13 0)

pub joins_so : (l : List ℕ) (k : ℕ) (x : Listed) {r : Joined} → k ≡ entries_used l → r ≡ joined_in l k x → Joins l x r
joins_so l k x u e =
    let case = e ∙ ap (λ (n : ℕ). joined_in l n x) u in (
      case,
      ap (λ (o : Joined). entries_after o x (table_of l).entries) case ∙ join_means l x,
      ap refusal_of case ∙ join_refused l x,
    )
