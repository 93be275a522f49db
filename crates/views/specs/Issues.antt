-- A new state: the entries that it sets, and what stands in the table after `issue` as a whole. Assumes nothing.
use Rattle.std.specs.Prelude.{◌≡◌, refl, ◌⊎◌, Bool, false, ℕ, ◌≤◌, ◌<◌, eqb}
use Rattle.std.proofs.Math.Path.{ap}
use Rattle.std.proofs.Common.{sym, ◌∙◌, inl, inr, arith, eq-eqb, eqb-true}
use Rattle.std.proofs.Math.Bool.{true, cond}
use Rattle.std.proofs.Math.Option.{Option, some, none}
use mathlib.Core.List.Memᴰ
use mathlib.Core.List.{List, [], ◌∷◌}
use Rattle.codec.specs.Lists.{and_true}
use Rattle.names.specs.declared.Name.{Name}
use Rattle.names.specs.Names.{same_name, same_name_eq, same_name_refl}
use Rattle.numbers.specs.Ids.{clock_of}
use Rattle.numbers.specs.Laws.{clock_of_law, new_above}
use Rattle.records.specs.declared.head.Head.{Head}
use Rattle.slots.specs.declared.replica.Replica.{Replica}
use Rattle.slots.specs.declared.listed.Listed.{Listed}
use Rattle.document.specs.Tables.{Table, with_highest, find, head_of?, head_of, find_entry}
use Rattle.document.specs.Sound.{distinct, same_key, same_id}
use Rattle.document.specs.Steps.{join_into, join_all, clock_at, stamp_at, put_head, put, place_entry, strike, same_place, set_by, issue}
use Rattle.views.specs.Lists.{In}
use Rattle.views.specs.Puts.{version_of, pending_of, version_put, pending_put, head_put_same, head_put_other, put_cases, put_distinct}
use Rattle.views.specs.Joins.{After, join_all_same, join_all_after, join_all_in, join_all_distinct}

-- ---- the same place

pub same_place_law : (a b : Head) → same_place a b ≡ true → (a.directory ≡ b.directory) × (a.name ≡ b.name)
same_place_law a b h =
    let p = and_true (eqb a.directory b.directory) _ h in
    (eqb-true _ _ p.0, same_name_eq _ _ p.1)

pub place_same : (a b : Head) → a.directory ≡ b.directory → a.name ≡ b.name → same_place a b ≡ true
place_same a b p q =
    simp (
      eq-eqb a.directory b.directory p,
      ap (λ (n : Name). same_name a.name n) (sym q) ∙ same_name_refl a.name,
    )

-- ---- the entries that a state sets

-- the first is that of the new place
pub set_place : (h : Head) (o : Option Head) → In (place_entry h) (set_by h o)
unfolding set_by
set_place h none = Memᴰ.head refl
set_place h (some old) = Memᴰ.head refl

pub set_strike : (h old : Head) → same_place h old ≡ false → In (strike h old) (set_by h (some old))
unfolding set_by
set_strike h old e = rw e (Memᴰ.tail (Memᴰ.head refl))

-- another is a strike at the old place, which differs
pub set_cases : (h : Head) (o : Option Head) (e : Listed) → In e (set_by h o) →
    (e ≡ place_entry h) ⊎ ((old : Head) × (o ≡ some old) × (same_place h old ≡ false) × (e ≡ strike h old))
unfolding set_by
set_cases h none e m = go (Memᴰ.cases_cons m)
  where
    go : (e ≡ place_entry h) ⊎ In e [] →
        (e ≡ place_entry h) ⊎ ((old : Head) × (none ≡ some old) × (same_place h old ≡ false) × (e ≡ strike h old))
    go (inl p) = inl p
    go (inr i) = elim i [ ]
set_cases h (some old) e m = go (Memᴰ.cases_cons m)
  where
    struck : (b : Bool) → same_place h old ≡ b → In e (cond b [] (strike h old ∷ [])) →
        (e ≡ place_entry h) ⊎ ((x : Head) × (some old ≡ some x) × (same_place h x ≡ false) × (e ≡ strike h x))
    struck true s i = elim i [ ]
    struck false s i = inr (old, refl, s, only (Memᴰ.cases_cons i))
      where
        only : (e ≡ strike h old) ⊎ In e [] → e ≡ strike h old
        only (inl p) = p
        only (inr n) = elim n [ ]

    go : (e ≡ place_entry h) ⊎ In e (cond (same_place h old) [] (strike h old ∷ [])) →
        (e ≡ place_entry h) ⊎ ((x : Head) × (some old ≡ some x) × (same_place h x ≡ false) × (e ≡ strike h x))
    go (inl p) = inl p
    go (inr i) = struck (same_place h old) refl i

-- all of them have the head's id and stamp
pub set_child : (h : Head) (o : Option Head) (e : Listed) → In e (set_by h o) → e.entry.child ≡ h.id
set_child h o e m = go (set_cases h o e m)
  where
    go : (e ≡ place_entry h) ⊎ ((old : Head) × (o ≡ some old) × (same_place h old ≡ false) × (e ≡ strike h old)) →
        e.entry.child ≡ h.id
    go (inl p) = ap (λ (x : Listed). x.entry.child) p
    go (inr p) = ap (λ (x : Listed). x.entry.child) p.3

pub set_stamp : (h : Head) (o : Option Head) (e : Listed) → In e (set_by h o) → e.entry.stamp ≡ h.stamp
set_stamp h o e m = go (set_cases h o e m)
  where
    go : (e ≡ place_entry h) ⊎ ((old : Head) × (o ≡ some old) × (same_place h old ≡ false) × (e ≡ strike h old)) →
        e.entry.stamp ≡ h.stamp
    go (inl p) = ap (λ (x : Listed). x.entry.stamp) p
    go (inr p) = ap (λ (x : Listed). x.entry.stamp) p.3

-- ---- the new clock

pub clock_above : (now : ℕ) (t : Table) → t.highest < clock_at now t
clock_above now t = omega arith

pub stamp_clock : (now : ℕ) (t : Table) → t.own < 256 → clock_of (stamp_at now t) ≡ clock_at now t
stamp_clock now t h = clock_of_law (clock_at now t) t.own h

-- a new stamp is above every stamp whose clock was seen
pub stamp_above : (now : ℕ) (t : Table) (s : ℕ) → clock_of s ≤ t.highest → s < stamp_at now t
stamp_above now t s h = new_above now t.highest t.own s h

-- ---- issue as a whole

module _ (now : ℕ) (f : ℕ → Head) (t : Table) where
  -- the head made
  abbrev pub made : Head
  made = f (stamp_at now t)

  pub issue_own : (issue now f t).own ≡ t.own
  unfolding issue
  issue_own = (join_all_same (set_by made (head_of t made.id)) (put made (with_highest t (clock_at now t)))).own

  pub issue_nodes : (issue now f t).nodes ≡ t.nodes
  unfolding issue
  issue_nodes = (join_all_same (set_by made (head_of t made.id)) (put made (with_highest t (clock_at now t)))).nodes

  pub issue_next : (issue now f t).next ≡ t.next
  unfolding issue
  issue_next = (join_all_same (set_by made (head_of t made.id)) (put made (with_highest t (clock_at now t)))).next

  pub issue_highest : (issue now f t).highest ≡ clock_at now t
  unfolding issue
  issue_highest = (join_all_same (set_by made (head_of t made.id)) (put made (with_highest t (clock_at now t)))).highest

  pub issue_replicas : (issue now f t).replicas ≡ put_head made t.replicas
  unfolding issue
  issue_replicas = (join_all_same (set_by made (head_of t made.id)) (put made (with_highest t (clock_at now t)))).replicas

  pub issue_head_same : head_of (issue now f t) made.id ≡ some made
  issue_head_same =
      ap (λ (l : List Replica). head_of? (find made.id l)) issue_replicas ∙ head_put_same made t.replicas

  pub issue_head_other : (g : ℕ) → (g ≡ made.id → ⊥) → head_of (issue now f t) g ≡ head_of t g
  issue_head_other g ne =
      ap (λ (l : List Replica). head_of? (find g l)) issue_replicas ∙ head_put_other made t.replicas g ne

  pub issue_cases : (g : ℕ) (x : Head) → head_of (issue now f t) g ≡ some x →
      ((g ≡ made.id) × (x ≡ made)) ⊎ ((g ≡ made.id → ⊥) × (head_of t g ≡ some x))
  issue_cases g x e =
      put_cases made t.replicas g x (ap (λ (l : List Replica). head_of? (find g l)) (sym issue_replicas) ∙ e)

  pub issue_version : (g : ℕ) → version_of (find g (issue now f t).replicas) ≡ version_of (find g t.replicas)
  issue_version g = ap (λ (l : List Replica). version_of (find g l)) issue_replicas ∙ version_put made t.replicas g

  pub issue_pending : (g : ℕ) → pending_of (find g (issue now f t).replicas) ≡ pending_of (find g t.replicas)
  issue_pending g = ap (λ (l : List Replica). pending_of (find g l)) issue_replicas ∙ pending_put made t.replicas g

  pub issue_ids : distinct same_id t.replicas ≡ true → distinct same_id (issue now f t).replicas ≡ true
  issue_ids d = ap (distinct same_id) issue_replicas ∙ put_distinct made t.replicas d

  -- entries
  pub issue_in : (y : Listed) → In y (issue now f t).entries →
      In y (set_by made (head_of t made.id)) ⊎ In y t.entries
  unfolding issue
  issue_in y m = join_all_in (set_by made (head_of t made.id)) (put made (with_highest t (clock_at now t))) y m

  pub issue_keys : distinct same_key t.entries ≡ true → distinct same_key (issue now f t).entries ≡ true
  unfolding issue
  issue_keys d = join_all_distinct (set_by made (head_of t made.id)) (put made (with_highest t (clock_at now t))) d

  pub issue_after : (d c : ℕ) (n : Name) (z : Listed) → find_entry d c n t.entries ≡ some z →
      After z (find_entry d c n (issue now f t).entries)
  unfolding issue
  issue_after d c n z p =
      join_all_after (set_by made (head_of t made.id)) (put made (with_highest t (clock_at now t))) d c n z p

  -- the entries as they stand: of a new replica, of one that stays at its place, and of one that is moved
  entries_set : (o : Option Head) → head_of t made.id ≡ o →
      (issue now f t).entries ≡ (join_all (set_by made o) (put made (with_highest t (clock_at now t)))).entries
  unfolding issue
  entries_set o e =
      ap (λ (x : Option Head). (join_all (set_by made x) (put made (with_highest t (clock_at now t)))).entries) e

  entries_struck : (old : Head) (b : Bool) → same_place made old ≡ b →
      (join_all (set_by made (some old)) (put made (with_highest t (clock_at now t)))).entries
      ≡ (join_all (place_entry made ∷ cond b [] (strike made old ∷ [])) (put made (with_highest t (clock_at now t)))).entries
  unfolding set_by
  entries_struck old b p =
      ap (λ (x : Bool). (join_all (place_entry made ∷ cond x [] (strike made old ∷ []))
      (put made (with_highest t (clock_at now t)))).entries) p

  pub issue_entries_stay : (old : Head) → head_of t made.id ≡ some old → same_place made old ≡ true →
      (issue now f t).entries ≡ join_into (place_entry made) t.entries
  unfolding join_all
  issue_entries_stay old e p = entries_set (some old) e ∙ entries_struck old true p
