-- Replicas: what an id finds, and what it finds after a head is put. Versions and pending sets are read by id, 0 where
-- the id is not held, since no step but the last changes them. Assumes nothing.
use Rattle.std.specs.Prelude.{◌≡◌, refl, ◌⊎◌, Bool, true, false, not, cond, List, [], ◌∷◌, ℕ, suc, eqb, length}
use Rattle.std.proofs.Common.{ap, sym, ◌∙◌, inl, inr, eq-eqb, ne_eqb, eqb-true}
use Rattle.std.proofs.Math.Option.{Option, some, none}
use mathlib.Core.List.Memᴰ
use Rattle.codec.specs.Lists.{every, and_true}
use Rattle.records.specs.declared.head.Head.{Head}
use Rattle.slots.specs.declared.replica.Replica.{Replica}
use Rattle.document.specs.Tables.{first, has_id, find, head_of?}
use Rattle.document.specs.Sound.{distinct, same_id, is_live}
use Rattle.document.specs.Steps.{renewed, put_head, is_dead}
use Rattle.views.specs.Lists.{In, some_only, not_none, same?, first_passes, first_in, first_only, every_in, in_every}

-- ---- what an id finds

-- a replica found has the id asked for, and so has its head
pub find_id : (f : ℕ) (l : List Replica) (r : Replica) → find f l ≡ some r → r.head.id ≡ f
find_id f l r e = eqb-true _ _ (first_passes (has_id f) l r e)

pub find_in : (f : ℕ) (l : List Replica) (r : Replica) → find f l ≡ some r → In r l
find_in f l r e = first_in (has_id f) l r e

-- a head found is that of a replica found
pub head_found : (o : Option Replica) (h : Head) → head_of? o ≡ some h → (r : Replica) × (o ≡ some r) × (r.head ≡ h)
head_found none h e = absurd (not_none e)
head_found (some r) h e = (r, refl, some_only e)

pub head_id : (f : ℕ) (l : List Replica) (h : Head) → head_of? (find f l) ≡ some h → h.id ≡ f
head_id f l h e =
    let r = head_found (find f l) h e in
    ap (λ (x : Head). x.id) (sym r.2) ∙ find_id f l r.0 r.1

-- it is found by its own id
pub head_own : (f : ℕ) (l : List Replica) (h : Head) → head_of? (find f l) ≡ some h → head_of? (find h.id l) ≡ some h
head_own f l h e = ap (λ (m : ℕ). head_of? (find m l)) (head_id f l h e) ∙ e

-- where no two ids are the same, each replica is found by its id
pub find_member : (l : List Replica) → distinct same_id l ≡ true → (r : Replica) → In r l → find r.head.id l ≡ some r
find_member l d r m =
    first_only same_id (has_id r.head.id)
    (λ y z p q. eq-eqb y.head.id z.head.id (eqb-true _ _ p ∙ sym (eqb-true _ _ q))) l d r m
    (eq-eqb r.head.id r.head.id refl)

pub head_member : (l : List Replica) → distinct same_id l ≡ true → (r : Replica) → In r l →
    head_of? (find r.head.id l) ≡ some r.head
head_member l d r m = ap head_of? (find_member l d r m)

-- a dead head, and one that is not
pub dead_not : (o : Option Head) (h : Head) → o ≡ some h → is_dead o ≡ not (is_live h)
dead_not o h e = ap is_dead e

-- ---- versions and pending sets by id

abbrev pub version_of : Option Replica → ℕ
version_of none = 0
version_of (some r) = r.version

abbrev pub pending_of : Option Replica → ℕ
pending_of none = 0
pending_of (some r) = r.pending

-- ---- after a head is put

-- the replica that holds it then: the one that stood there, or a new one
abbrev pub put_on : Head → Option Replica → Replica
put_on h none = record { head = h; version = 0; pending = 0 }
put_on h (some r) = renewed h r

pub put_head_law : (h : Head) (o : Option Replica) → (put_on h o).head ≡ h
put_head_law h none = refl
put_head_law h (some r) = refl

pub find_put_same : (h : Head) (l : List Replica) → find h.id (put_head h l) ≡ some (put_on h (find h.id l))
unfolding first put_head
find_put_same h [] = rw (eq-eqb h.id h.id refl)
find_put_same h (r ∷ rs) = go (eqb r.head.id h.id) refl (find_put_same h rs)
  where
    go : (b : Bool) → eqb r.head.id h.id ≡ b → find h.id (put_head h rs) ≡ some (put_on h (find h.id rs)) →
        find h.id (cond b (renewed h r ∷ rs) (r ∷ put_head h rs)) ≡ some (put_on h (cond b (some r) (find h.id rs)))
    go true e ih = rw (eq-eqb h.id h.id refl)
    go false e ih = rw e ih

pub find_put_other : (h : Head) (l : List Replica) (f : ℕ) → (f ≡ h.id → ⊥) → find f (put_head h l) ≡ find f l
unfolding first put_head
find_put_other h [] f ne = rw (ne_eqb h.id f (λ e. ne (sym e)))
find_put_other h (r ∷ rs) f ne = go (eqb r.head.id h.id) refl (find_put_other h rs f ne)
  where
    go : (b : Bool) → eqb r.head.id h.id ≡ b → find f (put_head h rs) ≡ find f rs →
        find f (cond b (renewed h r ∷ rs) (r ∷ put_head h rs)) ≡ find f (r ∷ rs)
    go true e ih =
        rw (ne_eqb h.id f (λ q. ne (sym q)), ne_eqb r.head.id f (λ q. ne (sym q ∙ eqb-true _ _ e)))
    go false e ih = rw ih

pub head_put_same : (h : Head) (l : List Replica) → head_of? (find h.id (put_head h l)) ≡ some h
head_put_same h l = ap head_of? (find_put_same h l) ∙ ap some (put_head_law h (find h.id l))

pub head_put_other : (h : Head) (l : List Replica) (f : ℕ) → (f ≡ h.id → ⊥) →
    head_of? (find f (put_head h l)) ≡ head_of? (find f l)
head_put_other h l f ne = ap head_of? (find_put_other h l f ne)

-- the head found after it is the one put, or the one that was found before
pub put_cases : (h : Head) (l : List Replica) (f : ℕ) (x : Head) → head_of? (find f (put_head h l)) ≡ some x →
    ((f ≡ h.id) × (x ≡ h)) ⊎ ((f ≡ h.id → ⊥) × (head_of? (find f l) ≡ some x))
put_cases h l f x e = go (same? f h.id)
  where
    go : (f ≡ h.id) ⊎ (f ≡ h.id → ⊥) → ((f ≡ h.id) × (x ≡ h)) ⊎ ((f ≡ h.id → ⊥) × (head_of? (find f l) ≡ some x))
    go (inl p) =
        inl (p, some_only (sym e ∙ ap (λ (m : ℕ). head_of? (find m (put_head h l))) p ∙ head_put_same h l))
    go (inr ne) = inr (ne, sym (head_put_other h l f ne) ∙ e)

pub put_here : (h : Head) (l : List Replica) (f : ℕ) → f ≡ h.id → head_of? (find f (put_head h l)) ≡ some h
put_here h l f p = ap (λ (m : ℕ). head_of? (find m (put_head h l))) p ∙ head_put_same h l

version_on : (h : Head) (o : Option Replica) → (put_on h o).version ≡ version_of o
version_on h none = refl
version_on h (some r) = refl

pending_on : (h : Head) (o : Option Replica) → (put_on h o).pending ≡ pending_of o
pending_on h none = refl
pending_on h (some r) = refl

pub version_put : (h : Head) (l : List Replica) (f : ℕ) → version_of (find f (put_head h l)) ≡ version_of (find f l)
version_put h l f = go (same? f h.id)
  where
    go : (f ≡ h.id) ⊎ (f ≡ h.id → ⊥) → version_of (find f (put_head h l)) ≡ version_of (find f l)
    go (inl p) =
        ap (λ (m : ℕ). version_of (find m (put_head h l))) p ∙ ap version_of (find_put_same h l)
        ∙ version_on h (find h.id l) ∙ ap (λ (m : ℕ). version_of (find m l)) (sym p)
    go (inr ne) = ap version_of (find_put_other h l f ne)

pub pending_put : (h : Head) (l : List Replica) (f : ℕ) → pending_of (find f (put_head h l)) ≡ pending_of (find f l)
pending_put h l f = go (same? f h.id)
  where
    go : (f ≡ h.id) ⊎ (f ≡ h.id → ⊥) → pending_of (find f (put_head h l)) ≡ pending_of (find f l)
    go (inl p) =
        ap (λ (m : ℕ). pending_of (find m (put_head h l))) p ∙ ap pending_of (find_put_same h l)
        ∙ pending_on h (find h.id l) ∙ ap (λ (m : ℕ). pending_of (find m l)) (sym p)
    go (inr ne) = ap pending_of (find_put_other h l f ne)

-- a replica of the list after it is that of the head put, or stood there before
pub put_in : (h : Head) (l : List Replica) (r : Replica) → In r (put_head h l) → (r.head ≡ h) ⊎ In r l
unfolding put_head
put_in h [] r m = go (Memᴰ.cases_cons m)
  where
    go : (r ≡ record { head = h; version = 0; pending = 0 }) ⊎ In r [] → (r.head ≡ h) ⊎ In r []
    go (inl e) = inl (ap (λ (x : Replica). x.head) e)
    go (inr i) = inr i
put_in h (x ∷ xs) r m = go (eqb x.head.id h.id) m (put_in h xs r)
  where
    here : (r ≡ renewed h x) ⊎ In r xs → (r.head ≡ h) ⊎ In r (x ∷ xs)
    here (inl e) = inl (ap (λ (y : Replica). y.head) e)
    here (inr i) = inr (Memᴰ.tail i)

    later : (r.head ≡ h) ⊎ In r xs → (r.head ≡ h) ⊎ In r (x ∷ xs)
    later (inl e) = inl e
    later (inr i) = inr (Memᴰ.tail i)

    there : (In r (put_head h xs) → (r.head ≡ h) ⊎ In r xs) → (r ≡ x) ⊎ In r (put_head h xs) →
        (r.head ≡ h) ⊎ In r (x ∷ xs)
    there ih (inl e) = inr (Memᴰ.head e)
    there ih (inr i) = later (ih i)

    go : (b : Bool) → In r (cond b (renewed h x ∷ xs) (x ∷ put_head h xs)) →
        (In r (put_head h xs) → (r.head ≡ h) ⊎ In r xs) → (r.head ≡ h) ⊎ In r (x ∷ xs)
    go true i ih = here (Memᴰ.cases_cons i)
    go false i ih = there ih (Memᴰ.cases_cons i)

-- ids stay unique
pub put_distinct : (h : Head) (l : List Replica) → distinct same_id l ≡ true → distinct same_id (put_head h l) ≡ true
unfolding put_head distinct every
put_distinct h [] d = refl
put_distinct h (r ∷ rs) d =
    let p = and_true (every (λ y. not (same_id r y)) rs) _ d in
    go (eqb r.head.id h.id) refl p.0 p.1 (put_distinct h rs p.1)
  where
    renewed_apart : r.head.id ≡ h.id → every (λ y. not (same_id r y)) rs ≡ true →
        every (λ y. not (same_id (renewed h r) y)) rs ≡ true
    renewed_apart e q = ap (λ (m : ℕ). every (λ (y : Replica). not (eqb m y.head.id)) rs) (sym e) ∙ q

    other : (eqb r.head.id h.id ≡ false) → every (λ y. not (same_id r y)) rs ≡ true → (y : Replica) →
        (y.head ≡ h) ⊎ In y rs → not (same_id r y) ≡ true
    other e q y (inl s) = ap (λ (x : Head). not (eqb r.head.id x.id)) s ∙ ap not e
    other e q y (inr i) = every_in (λ y. not (same_id r y)) rs q y i

    go : (b : Bool) → eqb r.head.id h.id ≡ b → every (λ y. not (same_id r y)) rs ≡ true →
        distinct same_id rs ≡ true →
        distinct same_id (put_head h rs) ≡ true → distinct same_id (cond b (renewed h r ∷ rs) (r ∷ put_head h rs)) ≡ true
    go true e q s ih = rw (renewed_apart (eqb-true _ _ e) q) s
    go false e q s ih =
        rw (in_every (λ y. not (same_id r y)) (put_head h rs) (λ y i. other e q y (put_in h rs y i))) ih

-- a replica that is held takes no new slot
pub put_length_held : (h : Head) (l : List Replica) (r : Replica) → find h.id l ≡ some r →
    length (put_head h l) ≡ length l
unfolding first put_head
put_length_held h [] r e = absurd (not_none e)
put_length_held h (x ∷ xs) r e = go (eqb x.head.id h.id) e (put_length_held h xs r)
  where
    go : (b : Bool) → cond b (some x) (find h.id xs) ≡ some r →
        (find h.id xs ≡ some r → length (put_head h xs) ≡ length xs) →
        length (cond b (renewed h x ∷ xs) (x ∷ put_head h xs)) ≡ suc (length xs)
    go true q ih = refl
    go false q ih = ap suc (ih q)
