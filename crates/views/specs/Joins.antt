-- Entries: keys, what a key finds, and what it finds after an entry is joined. Names that are found the same are equal,
-- so a key is three equations. Assumes nothing.
use Rattle.std.specs.Prelude.{◌≡◌, refl, ◌⊎◌, Bool, true, false, not, cond, List, [], ◌∷◌, ℕ, suc, ◌+◌, ◌≤◌, ◌<◌, eqb, ltb, length}
use Rattle.std.proofs.Common.{ap, sym, subst, ◌∙◌, inl, inr, arith, add-zero, eq-eqb, eqb-true, ltb-true, ltb-false}
use Rattle.std.proofs.Math.Option.{Option, some, none}
use mathlib.Core.List.Memᴰ
use Rattle.std.proofs.lemmas.Bool.{not-true}
use Rattle.codec.specs.Lists.{every, and_true, and_both}
use Rattle.names.specs.declared.Name.{Name}
use Rattle.names.specs.Names.{same_name, same_name_eq, same_name_refl}
use Rattle.records.specs.declared.entry.Entry.{Entry}
use Rattle.slots.specs.declared.listed.Listed.{Listed}
use Rattle.document.specs.Tables.{Table, first, is_key, find_entry, entry_of?, entries_of}
use Rattle.document.specs.Sound.{distinct, same_key}
use Rattle.document.specs.Steps.{newer, join_into, joined, join_all}
use Rattle.document.specs.Messages.{same_child_name}
use Rattle.views.specs.Lists.{In, no_both, some_only, not_none, first_passes, first_in, first_only, every_in, in_every}

-- ---- keys

pub record Key (d c : ℕ) (n : Name) (x : Listed) : Type 0 where
  pub directory : x.directory ≡ d
  pub child : x.entry.child ≡ c
  pub name : x.entry.name ≡ n

pub is_key_law : (d c : ℕ) (n : Name) (x : Listed) → is_key d c n x ≡ true → Key d c n x
is_key_law d c n x h =
    let p = and_true (eqb x.directory d) _ h in
    let q = and_true (eqb x.entry.child c) _ p.1 in
    record { directory = eqb-true _ _ p.0; child = eqb-true _ _ q.0; name = same_name_eq _ _ q.1 }

pub key_is : (d c : ℕ) (n : Name) (x : Listed) → Key d c n x → is_key d c n x ≡ true
key_is d c n x k =
    simp (
      eq-eqb x.directory d k.directory,
      eq-eqb x.entry.child c k.child,
      ap (λ (m : Name). same_name x.entry.name m) (sym k.name) ∙ same_name_refl x.entry.name,
    )

-- the key of an entry itself
abbrev pub KeyOf : Listed → Listed → Type 0
KeyOf a b = Key a.directory a.entry.child a.entry.name b

pub same_key_law : (a b : Listed) → same_key a b ≡ true → KeyOf a b
same_key_law a b h = is_key_law a.directory a.entry.child a.entry.name b h

pub key_refl : (a : Listed) → KeyOf a a
key_refl a = record { directory = refl; child = refl; name = refl }

pub key_sym : (a b : Listed) → KeyOf a b → KeyOf b a
key_sym a b k = record { directory = sym k.directory; child = sym k.child; name = sym k.name }

pub key_trans : (d c : ℕ) (n : Name) (a b : Listed) → Key d c n a → KeyOf a b → Key d c n b
key_trans d c n a b p q =
    record {
      directory = q.directory ∙ p.directory;
      child = q.child ∙ p.child;
      name = q.name ∙ p.name;
    }

pub same_key_refl : (a : Listed) → same_key a a ≡ true
same_key_refl a = key_is a.directory a.entry.child a.entry.name a (key_refl a)

-- entries with one key are met by the same keys, and are the same to others
pub key_same : (a b : Listed) → KeyOf a b → (d c : ℕ) (n : Name) → is_key d c n a ≡ is_key d c n b
key_same a b k d c n = rw (k.directory, k.child, k.name)

pub same_key_left : (a b : Listed) → KeyOf a b → (y : Listed) → same_key a y ≡ same_key b y
same_key_left a b k y = rw (k.directory, k.child, k.name)

pub same_key_sym : (a b : Listed) → same_key a b ≡ same_key b a
same_key_sym a b = go (same_key a b) refl (same_key b a) refl
  where
    turn : (a b : Listed) → same_key a b ≡ true → same_key b a ≡ true
    turn a b h = key_is b.directory b.entry.child b.entry.name a (key_sym a b (same_key_law a b h))

    go : (p : Bool) → same_key a b ≡ p → (q : Bool) → same_key b a ≡ q → p ≡ q
    go true e true d = refl
    go true e false d = absurd (no_both (same_key b a) (turn a b e) d)
    go false e true d = absurd (no_both (same_key a b) (turn b a d) e)
    go false e false d = refl

-- ---- what a key finds

pub entry_key : (d c : ℕ) (n : Name) (l : List Listed) (x : Listed) → find_entry d c n l ≡ some x → Key d c n x
entry_key d c n l x e = is_key_law d c n x (first_passes (is_key d c n) l x e)

pub entry_in : (d c : ℕ) (n : Name) (l : List Listed) (x : Listed) → find_entry d c n l ≡ some x → In x l
entry_in d c n l x e = first_in (is_key d c n) l x e

-- the key of an entry finds what that entry's own finds
pub find_at : (d c : ℕ) (n : Name) (e : Listed) → Key d c n e → (l : List Listed) →
    find_entry d c n l ≡ find_entry e.directory e.entry.child e.entry.name l
find_at d c n e k l = rw (k.directory, k.child, k.name)

-- an entry found is that of one listed
pub entry_found : (o : Option Listed) (e : Entry) → entry_of? o ≡ some e → (x : Listed) × (o ≡ some x) × (x.entry ≡ e)
entry_found none e p = absurd (not_none p)
entry_found (some x) e p = (x, refl, some_only p)

-- where no two keys are the same, each entry is found by its key
pub entry_member : (l : List Listed) → distinct same_key l ≡ true → (x : Listed) → In x l →
    find_entry x.directory x.entry.child x.entry.name l ≡ some x
entry_member l d x m =
    first_only same_key (is_key x.directory x.entry.child x.entry.name) apart l d x m (same_key_refl x)
  where
    apart : (y z : Listed) → same_key x y ≡ true → same_key x z ≡ true → same_key y z ≡ true
    apart y z p q = sym (same_key_left x y (same_key_law x y p) z) ∙ q

-- ---- after a join

pub newer_key : (e x : Listed) → same_key e x ≡ true → KeyOf e (newer e x)
newer_key e x h = go (ltb x.entry.stamp e.entry.stamp)
  where
    go : (b : Bool) → KeyOf e (cond b e x)
    go true = key_refl e
    go false = same_key_law e x h

-- what then stands at the key: the entry joined, or the newer of the two
abbrev pub join_on : Listed → Option Listed → Listed
join_on e none = e
join_on e (some x) = newer e x

pub find_join_same : (e : Listed) (l : List Listed) →
    find_entry e.directory e.entry.child e.entry.name (join_into e l)
    ≡ some (join_on e (find_entry e.directory e.entry.child e.entry.name l))
unfolding first join_into
find_join_same e [] = rw (same_key_refl e)
find_join_same e (x ∷ xs) = go (same_key e x) refl (find_join_same e xs)
  where
    go : (b : Bool) → same_key e x ≡ b →
        find_entry e.directory e.entry.child e.entry.name (join_into e xs)
        ≡ some (join_on e (find_entry e.directory e.entry.child e.entry.name xs)) →
        find_entry e.directory e.entry.child e.entry.name (cond b (newer e x ∷ xs) (x ∷ join_into e xs))
        ≡ some (join_on e (cond b (some x) (find_entry e.directory e.entry.child e.entry.name xs)))
    go true h ih =
        rw (key_is e.directory e.entry.child e.entry.name (newer e x) (newer_key e x h))
    go false h ih = rw h ih

pub find_join_other : (e : Listed) (l : List Listed) (d c : ℕ) (n : Name) → is_key d c n e ≡ false →
    find_entry d c n (join_into e l) ≡ find_entry d c n l
unfolding first join_into
find_join_other e [] d c n ne = rw ne
find_join_other e (x ∷ xs) d c n ne = go (same_key e x) refl (find_join_other e xs d c n ne)
  where
    go : (b : Bool) → same_key e x ≡ b → find_entry d c n (join_into e xs) ≡ find_entry d c n xs →
        find_entry d c n (cond b (newer e x ∷ xs) (x ∷ join_into e xs)) ≡ find_entry d c n (x ∷ xs)
    go true h ih =
        rw (
          sym (key_same e (newer e x) (newer_key e x h) d c n) ∙ ne,
          sym (key_same e x (same_key_law e x h) d c n) ∙ ne,
        )
    go false h ih = rw ih

-- the stamp never falls, and what stands at a lower or equal stamp is the entry joined or as it was
pub join_on_stamp : (e : Listed) (o : Option Listed) → e.entry.stamp ≤ (join_on e o).entry.stamp
join_on_stamp e none = omega arith
join_on_stamp e (some x) = go (ltb x.entry.stamp e.entry.stamp) refl
  where
    go : (b : Bool) → ltb x.entry.stamp e.entry.stamp ≡ b → e.entry.stamp ≤ (cond b e x).entry.stamp
    go true h = omega arith
    go false h = omega (arith, ltb-false x.entry.stamp e.entry.stamp h)

-- the entry joined stands there, or one that stood there with no lesser stamp
pub join_on_cases : (e : Listed) (o : Option Listed) →
    (join_on e o ≡ e) ⊎ ((o ≡ some (join_on e o)) × (e.entry.stamp ≤ (join_on e o).entry.stamp))
join_on_cases e none = inl refl
join_on_cases e (some x) = go (ltb x.entry.stamp e.entry.stamp) refl
  where
    go : (b : Bool) → ltb x.entry.stamp e.entry.stamp ≡ b →
        (cond b e x ≡ e) ⊎ ((some x ≡ some (cond b e x)) × (e.entry.stamp ≤ (cond b e x).entry.stamp))
    go true h = inl refl
    go false h = inr (refl, ltb-false x.entry.stamp e.entry.stamp h)

-- what a key found is found still, or something newer is
pub record After (z : Listed) (o : Option Listed) : Type 0 where
  pub entry : Listed
  pub is : o ≡ some entry
  pub how : (entry ≡ z) ⊎ (z.entry.stamp < entry.entry.stamp)

pub after_refl : (z : Listed) (o : Option Listed) → o ≡ some z → After z o
after_refl z o e = record { entry = z; is = e; how = inl refl }

pub join_after : (e : Listed) (l : List Listed) (d c : ℕ) (n : Name) (z : Listed) → find_entry d c n l ≡ some z →
    After z (find_entry d c n (join_into e l))
join_after e l d c n z p = go (is_key d c n e) refl
  where
    newer_than : (b : Bool) → ltb z.entry.stamp e.entry.stamp ≡ b →
        (cond b e z ≡ z) ⊎ (z.entry.stamp < (cond b e z).entry.stamp)
    newer_than true h = inr (ltb-true _ _ h)
    newer_than false h = inl refl

    here : (k : Key d c n e) → find_entry d c n (join_into e l) ≡ some (newer e z)
    here k =
        find_at d c n e k (join_into e l) ∙ find_join_same e l
        ∙ ap (λ (o : Option Listed). some (join_on e o)) (sym (find_at d c n e k l) ∙ p)

    go : (b : Bool) → is_key d c n e ≡ b → After z (find_entry d c n (join_into e l))
    go true h =
        record {
          entry = newer e z;
          is = here (is_key_law d c n e h);
          how = newer_than (ltb z.entry.stamp e.entry.stamp) refl;
        }
    go false h = after_refl z _ (find_join_other e l d c n h ∙ p)

pub after_trans : (z : Listed) (o p : Option Listed) → (a : After z o) → After a.entry p → After z p
after_trans z o p a b = record { entry = b.entry; is = b.is; how = go a.how b.how }
  where
    go : (a.entry ≡ z) ⊎ (z.entry.stamp < a.entry.entry.stamp) →
        (b.entry ≡ a.entry) ⊎ (a.entry.entry.stamp < b.entry.entry.stamp) →
        (b.entry ≡ z) ⊎ (z.entry.stamp < b.entry.entry.stamp)
    go (inl p) (inl q) = inl (q ∙ p)
    go (inl p) (inr q) = inr (subst (λ (y : Listed). y.entry.stamp < b.entry.entry.stamp) p q)
    go (inr p) (inl q) = inr (subst (λ (y : Listed). z.entry.stamp < y.entry.stamp) (sym q) p)
    go (inr p) (inr q) = inr (omega arith)

-- what is joined is there with no lesser stamp
pub join_there : (e : Listed) (l : List Listed) →
    (z : Listed) × (find_entry e.directory e.entry.child e.entry.name (join_into e l) ≡ some z)
    × (e.entry.stamp ≤ z.entry.stamp)
join_there e l =
    let o = find_entry e.directory e.entry.child e.entry.name l in
    (join_on e o, find_join_same e l, join_on_stamp e o)

-- every entry of the list after it is the one joined, or stood there
pub join_in : (e : Listed) (l : List Listed) (y : Listed) → In y (join_into e l) → (y ≡ e) ⊎ In y l
unfolding join_into
join_in e [] y m = Memᴰ.cases_cons m
join_in e (x ∷ xs) y m = go (same_key e x) m (join_in e xs y)
  where
    here : (b : Bool) → (y ≡ cond b e x) ⊎ In y xs → (y ≡ e) ⊎ In y (x ∷ xs)
    here true (inl p) = inl p
    here false (inl p) = inr (Memᴰ.head p)
    here b (inr i) = inr (Memᴰ.tail i)

    later : (y ≡ e) ⊎ In y xs → (y ≡ e) ⊎ In y (x ∷ xs)
    later (inl p) = inl p
    later (inr i) = inr (Memᴰ.tail i)

    there : (In y (join_into e xs) → (y ≡ e) ⊎ In y xs) → (y ≡ x) ⊎ In y (join_into e xs) → (y ≡ e) ⊎ In y (x ∷ xs)
    there ih (inl p) = inr (Memᴰ.head p)
    there ih (inr i) = later (ih i)

    go : (b : Bool) → In y (cond b (newer e x ∷ xs) (x ∷ join_into e xs)) → (In y (join_into e xs) → (y ≡ e) ⊎ In y xs) →
        (y ≡ e) ⊎ In y (x ∷ xs)
    go true i ih = here (ltb x.entry.stamp e.entry.stamp) (Memᴰ.cases_cons i)
    go false i ih = there ih (Memᴰ.cases_cons i)

-- keys stay unique
pub join_distinct : (e : Listed) (l : List Listed) → distinct same_key l ≡ true → distinct same_key (join_into e l) ≡ true
unfolding join_into distinct every
join_distinct e [] d = refl
join_distinct e (x ∷ xs) d =
    let p = and_true (every (λ y. not (same_key x y)) xs) _ d in
    go (same_key e x) refl p.0 p.1 (join_distinct e xs p.1)
  where
    apart : (z : Listed) → KeyOf x z → every (λ y. not (same_key x y)) xs ≡ true → every (λ y. not (same_key z y)) xs ≡ true
    apart z k q =
        in_every (λ y. not (same_key z y)) xs
        (λ y i. ap not (sym (same_key_left x z k y)) ∙ every_in (λ y. not (same_key x y)) xs q y i)

    other : same_key e x ≡ false → every (λ y. not (same_key x y)) xs ≡ true → (y : Listed) → (y ≡ e) ⊎ In y xs →
        not (same_key x y) ≡ true
    other h q y (inl s) = ap (λ (z : Listed). not (same_key x z)) s ∙ ap not (same_key_sym x e ∙ h)
    other h q y (inr i) = every_in (λ y. not (same_key x y)) xs q y i

    go : (b : Bool) → same_key e x ≡ b → every (λ y. not (same_key x y)) xs ≡ true → distinct same_key xs ≡ true →
        distinct same_key (join_into e xs) ≡ true → distinct same_key (cond b (newer e x ∷ xs) (x ∷ join_into e xs)) ≡ true
    go true h q s ih =
        let k = newer_key e x h in
        rw (apart (newer e x) (key_trans _ _ _ e (newer e x) (key_sym e x (same_key_law e x h)) k) q) s
    go false h q s ih =
        rw (in_every (λ y. not (same_key x y)) (join_into e xs) (λ y i. other h q y (join_in e xs y i))) ih

-- how many more there are
abbrev pub extra : Option Listed → ℕ
extra none = 1
extra (some y) = 0

pub join_size : (x : Listed) (es : List Listed) → length (join_into x es) ≡ length es + extra (first (same_key x) es)
unfolding join_into first
join_size x [] = refl
join_size x (y ∷ ys) = go (same_key x y) (join_size x ys)
  where
    go : (b : Bool) → length (join_into x ys) ≡ length ys + extra (first (same_key x) ys) →
        length (cond b (newer x y ∷ ys) (y ∷ join_into x ys)) ≡ suc (length ys) + extra (cond b (some y) (first (same_key x) ys))
    go true h = omega arith
    go false h = omega (arith, h)

-- the newer of two with one key is in their directory
pub newer_directory : (e y : Listed) → same_key e y ≡ true → (newer e y).directory ≡ y.directory
newer_directory e y k = (newer_key e y k).directory ∙ sym (same_key_law e y k).directory

-- as many entries in each directory, where one stands for another of the same
crowd_head : (x y : Listed) (d : ℕ) (ys : List Listed) → x.directory ≡ y.directory →
    length (entries_of d (x ∷ ys)) ≡ length (entries_of d (y ∷ ys))
unfolding entries_of
crowd_head x y d ys e = go (eqb y.directory d) (ap (λ (m : ℕ). eqb m d) e)
  where
    go : (b : Bool) → eqb x.directory d ≡ b →
        length (cond (eqb x.directory d) (x.entry ∷ entries_of d ys) (entries_of d ys))
        ≡ length (cond b (y.entry ∷ entries_of d ys) (entries_of d ys))
    go true k = rw k
    go false k = rw k

crowd_next : (y : Listed) (d : ℕ) (old new : List Listed) → (n : ℕ) → length (entries_of d new) ≡ length (entries_of d old) + n →
    length (entries_of d (y ∷ new)) ≡ length (entries_of d (y ∷ old)) + n
unfolding entries_of
crowd_next y d old new n e = go (eqb y.directory d)
  where
    go : (a : Bool) →
        length (cond a (y.entry ∷ entries_of d new) (entries_of d new)) ≡ length (cond a (y.entry ∷ entries_of d old) (entries_of d old)) + n
    go true = omega (arith, e)
    go false = e

-- how many more a directory has
abbrev pub one_more : Listed → Option Listed → ℕ → ℕ
one_more x none d = cond (eqb x.directory d) 1 0
one_more x (some y) d = 0

pub crowd_join : (x : Listed) (es : List Listed) (d : ℕ) →
    length (entries_of d (join_into x es)) ≡ length (entries_of d es) + one_more x (first (same_key x) es) d
unfolding join_into first entries_of
crowd_join x [] d = alone (eqb x.directory d) refl
  where
    alone : (b : Bool) → eqb x.directory d ≡ b → length (entries_of d (x ∷ [])) ≡ length (entries_of d []) + cond b 1 0
    alone true q = simp q
    alone false q = simp q
crowd_join x (y ∷ ys) d = go (same_key x y) refl (crowd_join x ys d)
  where
    go : (b : Bool) → same_key x y ≡ b → length (entries_of d (join_into x ys)) ≡ length (entries_of d ys) + one_more x (first (same_key x) ys) d →
        length (entries_of d (cond b (newer x y ∷ ys) (y ∷ join_into x ys)))
        ≡ length (entries_of d (y ∷ ys)) + one_more x (cond b (some y) (first (same_key x) ys)) d
    go true q ih = crowd_head (newer x y) y d ys (newer_directory x y q) ∙ sym (add-zero _)
    go false q ih = crowd_next y d ys (join_into x ys) _ ih

-- the entries of a directory are those listed in it
pub in_entries : (d : ℕ) (l : List Listed) (x : Listed) → In x l → x.directory ≡ d → In x.entry (entries_of d l)
unfolding entries_of
in_entries d [] x m e = elim m [ ]
in_entries d (y ∷ ys) x m e = go (eqb y.directory d) refl (Memᴰ.cases_cons m) (λ i. in_entries d ys x i e)
  where
    go : (b : Bool) → eqb y.directory d ≡ b → (x ≡ y) ⊎ In x ys → (In x ys → In x.entry (entries_of d ys)) →
        In x.entry (cond b (y.entry ∷ entries_of d ys) (entries_of d ys))
    go true p (inl q) ih = Memᴰ.head (ap (λ (z : Listed). z.entry) q)
    go true p (inr i) ih = Memᴰ.tail (ih i)
    go false p (inl q) ih = absurd (no_both _ (eq-eqb _ _ (sym (ap (λ (z : Listed). z.directory) q) ∙ e)) p)
    go false p (inr i) ih = ih i

pub entries_in_law : (d : ℕ) (l : List Listed) (e : Entry) → In e (entries_of d l) →
    (x : Listed) × In x l × (x.directory ≡ d) × (x.entry ≡ e)
unfolding entries_of
entries_in_law d [] e m = elim m [ ]
entries_in_law d (y ∷ ys) e m = go (eqb y.directory d) refl m (entries_in_law d ys e)
  where
    T : List Listed → Type 0
    T l = (x : Listed) × In x l × (x.directory ≡ d) × (x.entry ≡ e)

    later : T ys → T (y ∷ ys)
    later p = (p.0, Memᴰ.tail p.1, p.2, p.3)

    here : eqb y.directory d ≡ true → (e ≡ y.entry) ⊎ In e (entries_of d ys) → (In e (entries_of d ys) → T ys) →
        T (y ∷ ys)
    here p (inl q) ih = (y, Memᴰ.head refl, eqb-true _ _ p, sym q)
    here p (inr i) ih = later (ih i)

    go : (b : Bool) → eqb y.directory d ≡ b → In e (cond b (y.entry ∷ entries_of d ys) (entries_of d ys)) →
        (In e (entries_of d ys) → T ys) → T (y ∷ ys)
    go true p i ih = here p (Memᴰ.cases_cons i) ih
    go false p i ih = later (ih i)

-- where no two keys are the same, no two entries of a directory have the same child and name
pub entries_apart : (d : ℕ) (xs : List Listed) → distinct same_key xs ≡ true → distinct same_child_name (entries_of d xs) ≡ true
unfolding entries_of distinct
entries_apart d [] k = refl
entries_apart d (x ∷ xs) k =
    let p = and_true (every (λ (y : Listed). not (same_key x y)) xs) _ k in
    go (eqb x.directory d) refl (every_in (λ (y : Listed). not (same_key x y)) xs p.0) (entries_apart d xs p.1)
  where
    go : (b : Bool) → eqb x.directory d ≡ b → ((y : Listed) → In y xs → not (same_key x y) ≡ true) →
        distinct same_child_name (entries_of d xs) ≡ true →
        distinct same_child_name (cond b (x.entry ∷ entries_of d xs) (entries_of d xs)) ≡ true
    go false z f ih = ih
    go true z f ih = and_both (in_every (λ (e : Entry). not (same_child_name x.entry e)) (entries_of d xs) other) ih
      where
        same : (e : Entry) (y : Listed) → y.directory ≡ d → y.entry ≡ e → same_child_name x.entry e ≡ true →
            same_key x y ≡ true
        same e y at is s =
            let p = and_true (eqb x.entry.child e.child) _ s in
            key_is x.directory x.entry.child x.entry.name y
            (record {
              directory = at ∙ sym (eqb-true _ _ z);
              child = ap (λ (v : Entry). v.child) is ∙ sym (eqb-true _ _ p.0);
              name = ap (λ (v : Entry). v.name) is ∙ sym (same_name_eq _ _ p.1);
            })

        other : (e : Entry) → In e (entries_of d xs) → not (same_child_name x.entry e) ≡ true
        other e m =
            let r = entries_in_law d xs e m in
            told (same_child_name x.entry e) (same e r.0 r.2 r.3) (not-true _ (f r.0 r.1))
          where
            told : (b : Bool) {c : Bool} → (b ≡ true → c ≡ true) → c ≡ false → not b ≡ true
            told true g n = absurd (no_both _ (g refl) n)
            told false g n = refl

-- ---- joins one after the other

-- what each join keeps, all keep
pub join_all_law : (P : Table → Type 0) (es : List Listed) → ((e : Listed) → In e es → (t : Table) → P t → P (joined e t)) →
    (t : Table) → P t → P (join_all es t)
unfolding join_all
join_all_law P [] h t p = p
join_all_law P (e ∷ es) h t p =
    join_all_law P es (λ x m. h x (Memᴰ.tail m)) (joined e t) (h e (Memᴰ.head refl) t p)

-- they touch nothing but the entries
pub record SameBut (t u : Table) : Type 0 where
  pub own : u.own ≡ t.own
  pub nodes : u.nodes ≡ t.nodes
  pub next : u.next ≡ t.next
  pub highest : u.highest ≡ t.highest
  pub replicas : u.replicas ≡ t.replicas

pub join_all_same : (es : List Listed) (t : Table) → SameBut t (join_all es t)
join_all_same es t =
    join_all_law (SameBut t) es (λ e m u s. record {
      own = s.own;
      nodes = s.nodes;
      next = s.next;
      highest = s.highest;
      replicas = s.replicas;
    }) t (record { own = refl; nodes = refl; next = refl; highest = refl; replicas = refl })

-- what a key found is found still, or something newer is
pub join_all_after : (es : List Listed) (t : Table) (d c : ℕ) (n : Name) (z : Listed) →
    find_entry d c n t.entries ≡ some z →
    After z (find_entry d c n (join_all es t).entries)
join_all_after es t d c n z p =
    join_all_law (λ (u : Table). After z (find_entry d c n u.entries)) es
    (λ e m u a. after_trans z _ _ a (join_after e u.entries d c n a.entry a.is)) t (after_refl z _ p)

-- what is joined is there with no lesser stamp
pub join_all_there : (es : List Listed) (t : Table) (e : Listed) → In e es →
    (z : Listed) × (find_entry e.directory e.entry.child e.entry.name (join_all es t).entries ≡ some z)
    × (e.entry.stamp ≤ z.entry.stamp)
unfolding join_all
join_all_there [] t e m = elim m [ ]
join_all_there (x ∷ xs) t e m = go (Memᴰ.cases_cons m) (join_all_there xs (joined x t) e)
  where
    T : Type 0
    T =
        (z : Listed)
        × (find_entry e.directory e.entry.child e.entry.name (join_all xs (joined x t)).entries ≡ some z)
        × (e.entry.stamp ≤ z.entry.stamp)

    stays : (y z : Listed) → y.entry.stamp ≤ z.entry.stamp →
        (a : After z (find_entry e.directory e.entry.child e.entry.name (join_all xs (joined x t)).entries)) →
        y.entry.stamp ≤ a.entry.entry.stamp
    stays y z le a = low a.how
      where
        low : (a.entry ≡ z) ⊎ (z.entry.stamp < a.entry.entry.stamp) → y.entry.stamp ≤ a.entry.entry.stamp
        low (inl p) = subst (λ (w : Listed). y.entry.stamp ≤ w.entry.stamp) (sym p) le
        low (inr p) = omega arith

    go : (e ≡ x) ⊎ In e xs → (In e xs → T) → T
    go (inl p) ih =
        let j = join_there x t.entries in
        let at : find_entry e.directory e.entry.child e.entry.name (join_into x t.entries) ≡ some j.0 =
        ap (λ (y : Listed). find_entry y.directory y.entry.child y.entry.name (join_into x t.entries)) p
        ∙ j.1 in
        let a = join_all_after xs (joined x t) e.directory e.entry.child e.entry.name j.0 at in
        let le : e.entry.stamp ≤ j.0.entry.stamp =
        subst (λ (y : Listed). y.entry.stamp ≤ j.0.entry.stamp) (sym p) j.2 in
        (a.entry, a.is, stays e j.0 le a)
    go (inr i) ih = ih i

pub join_all_in : (es : List Listed) (t : Table) (y : Listed) → In y (join_all es t).entries → In y es ⊎ In y t.entries
unfolding join_all
join_all_in [] t y m = inr m
join_all_in (e ∷ es) t y m = go (join_all_in es (joined e t) y m)
  where
    back : (y ≡ e) ⊎ In y t.entries → In y (e ∷ es) ⊎ In y t.entries
    back (inl p) = inl (Memᴰ.head p)
    back (inr i) = inr i

    go : In y es ⊎ In y (join_into e t.entries) → In y (e ∷ es) ⊎ In y t.entries
    go (inl i) = inl (Memᴰ.tail i)
    go (inr i) = back (join_in e t.entries y i)

pub join_all_distinct : (es : List Listed) (t : Table) → distinct same_key t.entries ≡ true →
    distinct same_key (join_all es t).entries ≡ true
join_all_distinct es t d =
    join_all_law (λ (u : Table). distinct same_key u.entries ≡ true) es (λ e m u s. join_distinct e u.entries s) t d
