-- "After any call": versions and pending sets. Heads and entries stay; each replica stays as it is, or is raised, and
-- which of the two is decided by its head and its entries, before and after. Assumes nothing.
use Rattle.std.specs.Prelude.{◌≡◌, Bool, true, false, cond, ℕ, eqb, length}
use Rattle.std.proofs.Math.Path.{refl, ap}
use Rattle.std.proofs.Common.{sym, subst, ◌∙◌, true≢false, eqb-true, eq-eqb}
use Rattle.std.proofs.Math.Option.{Option, some, none}
use mathlib.Core.List.{List, [], ◌∷◌, map}
use Rattle.codec.specs.Lists.{and_true}
use Rattle.names.specs.Names.{same_name_eq, same_name_refl}
use Rattle.records.specs.declared.head.Head.{Head}
use Rattle.records.specs.declared.entry.Entry.{Entry}
use Rattle.records.specs.Heads.{head_ext}
use Rattle.records.specs.Entries.{entry_ext}
use Rattle.slots.specs.declared.replica.Replica.{Replica}
use Rattle.document.specs.Tables.{Table, find, head_of?, head_of, entries_of}
use Rattle.document.specs.Sound.{distinct, same_id, root_in}
use Rattle.document.specs.Steps.{same_head, same_entry, same_entries, unchanged, raised, settle_all, settle}
use Rattle.views.specs.Lists.{In}
use Rattle.views.specs.Maps.{on_found, find_map, head_map, map_in, map_distinct, map_length, map_root}

-- ---- when a head and entries are the same

pub same_head_law : (h : Head) (o : Option Head) → same_head h o ≡ true → o ≡ some h
same_head_law h none e = absurd (true≢false (sym e))
same_head_law h (some o) e =
    let a = and_true (eqb o.kind h.kind) _ e in
    let b = and_true (eqb o.live h.live) _ a.1 in
    let c = and_true (eqb o.id h.id) _ b.1 in
    let d = and_true (eqb o.stamp h.stamp) _ c.1 in
    let f = and_true (eqb o.holders h.holders) _ d.1 in
    let g = and_true (eqb o.depth h.depth) _ f.1 in
    let k = and_true (eqb o.directory h.directory) _ g.1 in
    ap some
    (head_ext (eqb-true _ _ a.0) (eqb-true _ _ b.0) (eqb-true _ _ c.0) (eqb-true _ _ d.0)
    (eqb-true _ _ f.0)
    (eqb-true _ _ g.0) (eqb-true _ _ k.0) (same_name_eq _ _ k.1))

pub head_same : (h : Head) (o : Option Head) → o ≡ some h → same_head h o ≡ true
head_same h o e =
    ap (same_head h) e
    ∙ simp (
      eq-eqb h.kind h.kind refl,
      eq-eqb h.live h.live refl,
      eq-eqb h.id h.id refl,
      eq-eqb h.stamp h.stamp refl,
      eq-eqb h.holders h.holders refl,
      eq-eqb h.depth h.depth refl,
      eq-eqb h.directory h.directory refl,
      same_name_refl h.name,
    )

pub same_entry_law : (a b : Entry) → same_entry a b ≡ true → a ≡ b
same_entry_law a b e =
    let p = and_true (eqb a.live b.live) _ e in
    let q = and_true (eqb a.child b.child) _ p.1 in
    let r = and_true (eqb a.stamp b.stamp) _ q.1 in
    entry_ext (eqb-true _ _ p.0) (eqb-true _ _ q.0) (eqb-true _ _ r.0) (same_name_eq _ _ r.1)

pub entry_same : (a : Entry) → same_entry a a ≡ true
entry_same a =
    simp (
      eq-eqb a.live a.live refl,
      eq-eqb a.child a.child refl,
      eq-eqb a.stamp a.stamp refl,
      same_name_refl a.name,
    )

pub same_entries_law : (a b : List Entry) → same_entries a b ≡ true → a ≡ b
unfolding same_entries
same_entries_law [] [] e = refl
same_entries_law [] (y ∷ ys) e = absurd (true≢false (sym e))
same_entries_law (x ∷ xs) [] e = absurd (true≢false (sym e))
same_entries_law (x ∷ xs) (y ∷ ys) e =
    let p = and_true (same_entry x y) _ e in
    ap (λ (z : Entry). z ∷ xs) (same_entry_law x y p.0) ∙ ap (λ (zs : List Entry). y ∷ zs) (same_entries_law xs ys p.1)

-- unchanged: the old table has that head, and those entries
pub unchanged_head : (old t : Table) (h : Head) → unchanged old t h ≡ true → head_of old h.id ≡ some h
unchanged_head old t h e = same_head_law h (head_of old h.id) (and_true (same_head h (head_of old h.id)) _ e).0

pub unchanged_entries : (old t : Table) (h : Head) → unchanged old t h ≡ true →
    entries_of h.id old.entries ≡ entries_of h.id t.entries
unchanged_entries old t h e = same_entries_law _ _ (and_true (same_head h (head_of old h.id)) _ e).1

-- ---- slot by slot

-- what becomes of a replica
abbrev pub settled : Table → Table → Replica → Replica
settled old t r = cond (unchanged old t r.head) r (raised t.own r)

abbrev pub settled_in : Table → Table → Option Replica → Option Replica
settled_in old t o = on_found (settled old t) o

pub settled_kept : (old t : Table) (r : Replica) → unchanged old t r.head ≡ true → settled old t r ≡ r
settled_kept old t r e = ap (λ (b : Bool). cond b r (raised t.own r)) e

pub settled_raised : (old t : Table) (r : Replica) → unchanged old t r.head ≡ false →
    settled old t r ≡ raised t.own r
settled_raised old t r e = ap (λ (b : Bool). cond b r (raised t.own r)) e

pub settled_head : (old t : Table) (r : Replica) → (settled old t r).head ≡ r.head
settled_head old t r = go (unchanged old t r.head)
  where
    go : (b : Bool) → (cond b r (raised t.own r)).head ≡ r.head
    go true = refl
    go false = refl

module _ (old t : Table) where
  -- each replica by itself
  pub settle_map : (l : List Replica) → settle_all old t l ≡ map (settled old t) l
  unfolding settle_all
  settle_map [] = refl
  settle_map (r ∷ rs) = ap (λ (l : List Replica). settled old t r ∷ l) (settle_map rs)

  pub find_settle : (f : ℕ) (l : List Replica) → find f (settle_all old t l) ≡ settled_in old t (find f l)
  find_settle f l = ap (find f) (settle_map l) ∙ find_map (settled old t) (settled_head old t) f l

  pub head_settle_all : (f : ℕ) (l : List Replica) → head_of? (find f (settle_all old t l)) ≡ head_of? (find f l)
  head_settle_all f l =
      ap (λ (k : List Replica). head_of? (find f k)) (settle_map l) ∙ head_map (settled old t) (settled_head old t) f l

  -- heads stay, and all but the replicas
  pub head_settle : (f : ℕ) → head_of (settle old t) f ≡ head_of t f
  unfolding settle
  head_settle f = head_settle_all f t.replicas

  pub settle_entries : (settle old t).entries ≡ t.entries
  unfolding settle
  settle_entries = refl

  pub settle_own : (settle old t).own ≡ t.own
  unfolding settle
  settle_own = refl

  pub settle_nodes : (settle old t).nodes ≡ t.nodes
  unfolding settle
  settle_nodes = refl

  pub settle_next : (settle old t).next ≡ t.next
  unfolding settle
  settle_next = refl

  pub settle_highest : (settle old t).highest ≡ t.highest
  unfolding settle
  settle_highest = refl

  pub find_settled : (f : ℕ) → find f (settle old t).replicas ≡ settled_in old t (find f t.replicas)
  unfolding settle
  find_settled f = find_settle f t.replicas

  -- each replica after it comes from one before it
  pub settle_in : (l : List Replica) (r : Replica) → In r (settle_all old t l) →
      (o : Replica) × In o l × (r ≡ settled old t o)
  settle_in l r m =
      map_in (settled old t) (settled_head old t) l r (subst (λ (k : List Replica). In r k) (settle_map l) m)

  -- ids stay unique
  pub settle_distinct : (l : List Replica) → distinct same_id l ≡ true → distinct same_id (settle_all old t l) ≡ true
  settle_distinct l d =
      ap (distinct same_id) (settle_map l) ∙ map_distinct (settled old t) (settled_head old t) l d

  pub settle_length : (l : List Replica) → length (settle_all old t l) ≡ length l
  settle_length l = ap length (settle_map l) ∙ map_length (settled old t) (settled_head old t) l

  -- the root stays first
  pub settle_root : (n : ℕ) (l : List Replica) → root_in n (settle_all old t l) ≡ root_in n l
  settle_root n l = ap (root_in n) (settle_map l) ∙ map_root (settled old t) (settled_head old t) n l
