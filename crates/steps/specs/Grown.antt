-- A table that came from another by steps: its slots are those of the other, and others behind them. A replica slot keeps
-- its id and an entry slot its directory; the ids of new replicas are new. Assumes nothing.
use Rattle.std.specs.Prelude.{◌≡◌, refl, Bool, true, false, cond, List, [], ◌∷◌, ℕ, zero, suc, ◌+◌, ◌≤◌, ◌<◌, eqb}
use Rattle.std.proofs.Common.{ap, sym, subst, ◌∙◌, arith, eqb-true}
use Rattle.std.proofs.Math.Option.{some, none}
use Rattle.std.proofs.lemmas.Bool.{eqb-false}
use Rattle.records.specs.declared.head.Head.{Head}
use Rattle.slots.specs.declared.replica.Replica.{Replica}
use Rattle.slots.specs.declared.listed.Listed.{Listed}
use Rattle.document.specs.Tables.{Table, first, has_id, find, slots_from}
use Rattle.document.specs.Sound.{same_key}
use Rattle.document.specs.Steps.{put_head, put, renewed, newer, join_into, joined}
use Rattle.views.specs.Joins.{newer_directory}
use Rattle.steps.specs.Standing.{Each, end, more}
use Rattle.steps.specs.Putting.{new_replica}

-- each element of the first list stands for one of the second, in place, and those behind them pass
pub data Grows {A : Type 0} (R : A → A → Type 0) (Q : A → Type 0) : List A → List A → Type 0 where
  rest : {ys : List A} → Each Q ys → Grows R Q [] ys
  next : {x y : A} {xs ys : List A} → R x y → Grows R Q xs ys → Grows R Q (x ∷ xs) (y ∷ ys)

abbrev pub SameId : Replica → Replica → Type 0
SameId r s = s.head.id ≡ r.head.id

abbrev pub NotIn : List Replica → Replica → Type 0
NotIn rs r = find r.head.id rs ≡ none

abbrev pub SameDirectory : Listed → Listed → Type 0
SameDirectory x y = y.directory ≡ x.directory

abbrev pub Anything : Listed → Type 0
Anything x = x ≡ x

pub record Grown (old t : Table) : Type 0 where
  pub replicas : Grows SameId (NotIn old.replicas) old.replicas t.replicas
  pub entries : Grows SameDirectory Anything old.entries t.entries

pub grows_refl : {A : Type 0} (R : A → A → Type 0) (Q : A → Type 0) → ((x : A) → R x x) → (xs : List A) → Grows R Q xs xs
grows_refl R Q r [] = rest end
grows_refl R Q r (x ∷ xs) = next {x = x} {y = x} (r x) (grows_refl R Q r xs)

pub grown_refl : (t : Table) → Grown t t
grown_refl t = record { replicas = grows_refl SameId _ (λ r. refl) t.replicas; entries = grows_refl SameDirectory _ (λ x. refl) t.entries }

-- ---- steps

-- what is not among the later ones is not among the earlier
grows_none : (Q : Replica → Type 0) (f : ℕ) (xs ys : List Replica) → Grows SameId Q xs ys → find f ys ≡ none → find f xs ≡ none
unfolding first
grows_none Q f [] ys (rest e) n = refl
grows_none Q f (x ∷ xs) [] x4 n = elim x4 [ ]
grows_none Q f (x ∷ xs) (y ∷ ys) (next r g) n =
    go (has_id f y) (has_id f x) (ap (λ (i : ℕ). eqb i f) r) n (grows_none Q f xs ys g)
  where
    go : (a b : Bool) → a ≡ b → cond a (some y) (find f ys) ≡ none → (find f ys ≡ none → find f xs ≡ none) →
        cond b (some x) (find f xs) ≡ none
    go true b e n ih = let z : ◌≡◌ {A = ℕ} 0 1 = cc in absurd (omega arith)
    go false true e n ih = let z : ◌≡◌ {A = ℕ} 0 1 = cc in absurd (omega arith)
    go false false e n ih = ih n

each_put : (old : List Replica) (h : Head) (ys : List Replica) → (find h.id ys ≡ none → find h.id old ≡ none) →
    Each (NotIn old) ys → Each (NotIn old) (put_head h ys)
unfolding put_head first
each_put old h [] n end = more {x = new_replica h} (n refl) end
each_put old h (y ∷ ys) n (more q qs) = go (has_id h.id y) refl n (λ m. each_put old h ys m qs)
  where
    go : (b : Bool) → has_id h.id y ≡ b → (cond b (some y) (find h.id ys) ≡ none → find h.id old ≡ none) →
        ((find h.id ys ≡ none → find h.id old ≡ none) → Each (NotIn old) (put_head h ys)) →
        Each (NotIn old) (cond b (renewed h y ∷ ys) (y ∷ put_head h ys))
    go true e n ih = more {x = renewed h y} (subst (λ (i : ℕ). find i old ≡ none) (eqb-true _ _ e) q) qs
    go false e n ih = more {x = y} q (ih n)

grows_put : (old : List Replica) (h : Head) (xs ys : List Replica) → (find h.id ys ≡ none → find h.id old ≡ none) →
    Grows SameId (NotIn old) xs ys → Grows SameId (NotIn old) xs (put_head h ys)
unfolding put_head first
grows_put old h [] ys n (rest e) = rest (each_put old h ys n e)
grows_put old h (x ∷ xs) [] n x4 = elim x4 [ ]
grows_put old h (x ∷ xs) (y ∷ ys) n (next r g) = go (has_id h.id y) refl n (λ m. grows_put old h xs ys m g)
  where
    go : (b : Bool) → has_id h.id y ≡ b → (cond b (some y) (find h.id ys) ≡ none → find h.id old ≡ none) →
        ((find h.id ys ≡ none → find h.id old ≡ none) → Grows SameId (NotIn old) xs (put_head h ys)) →
        Grows SameId (NotIn old) (x ∷ xs) (cond b (renewed h y ∷ ys) (y ∷ put_head h ys))
    go true e n ih = next {x = x} {y = renewed h y} (sym (eqb-true _ _ e) ∙ r) g
    go false e n ih = next {x = x} {y = y} r (ih n)

each_join : (e : Listed) (ys : List Listed) → Each Anything (join_into e ys)
each_join e ys = everything (join_into e ys)
  where
    everything : (xs : List Listed) → Each Anything xs
    everything [] = end
    everything (x ∷ xs) = more {x = x} refl (everything xs)

grows_join : (e : Listed) (xs ys : List Listed) → Grows SameDirectory Anything xs ys → Grows SameDirectory Anything xs (join_into e ys)
unfolding join_into
grows_join e [] ys (rest k) = rest (each_join e ys)
grows_join e (x ∷ xs) [] x3 = elim x3 [ ]
grows_join e (x ∷ xs) (y ∷ ys) (next r g) = go (same_key e y) refl (grows_join e xs ys g)
  where
    go : (b : Bool) → same_key e y ≡ b → Grows SameDirectory Anything xs (join_into e ys) →
        Grows SameDirectory Anything (x ∷ xs) (cond b (newer e y ∷ ys) (y ∷ join_into e ys))
    go true k ih = next {x = x} {y = newer e y} (newer_directory e y k ∙ r) g
    go false k ih = next {x = x} {y = y} r ih

pub grown_put : (old t : Table) (h : Head) → Grown old t → Grown old (put h t)
grown_put old t h g =
    record {
      replicas = grows_put old.replicas h old.replicas t.replicas (grows_none _ h.id old.replicas t.replicas g.replicas) g.replicas;
      entries = g.entries;
    }

pub grown_joined : (old t : Table) (e : Listed) → Grown old t → Grown old (joined e t)
grown_joined old t e g = record { replicas = g.replicas; entries = grows_join e old.entries t.entries g.entries }

-- ---- slots

-- slot by slot
pub record Slots {A : Type 0} (R : A → A → Type 0) (Q : A → Type 0) (f g : ℕ → A) (s m n : ℕ) : Type 0 where
  pub more : m ≤ n
  pub same : (i : ℕ) → s ≤ i → i < s + m → R (f i) (g i)
  pub new : (i : ℕ) → s + m ≤ i → i < s + n → Q (g i)

-- the first slot, or a later one
pub first_or : (P : ℕ → Type 0) (s i : ℕ) → P s → (suc s ≤ i → P i) → s ≤ i → P i
first_or P s i p later low = go (eqb s i) refl
  where
    go : (b : Bool) → eqb s i ≡ b → P i
    go true e = subst P (eqb-true s i e) p
    go false e = let other = eqb-false s i e in later (omega arith)

pub each_slots : {A : Type 0} (Q : A → Type 0) (g : ℕ → A) (s n : ℕ) → Each Q (slots_from g s n) → (i : ℕ) → s ≤ i → i < s + n → Q (g i)
unfolding slots_from
each_slots Q g s zero k i low high = absurd (omega arith)
each_slots Q g s (suc n) (more q qs) i low high =
    first_or (λ (i : ℕ). Q (g i)) s i q (λ l. each_slots Q g (suc s) n qs i l (omega arith)) low

pub grows_slots : {A : Type 0} (R : A → A → Type 0) (Q : A → Type 0) (f g : ℕ → A) (s m n : ℕ) →
    Grows R Q (slots_from f s m) (slots_from g s n) → Slots R Q f g s m n
unfolding slots_from
grows_slots R Q f g s zero n (rest e) =
    record { more = omega arith; same = λ i low high. absurd (omega arith); new = λ i low high. each_slots Q g s n e i (omega arith) high }
grows_slots {A = A} R Q f g s (suc m) zero x'' = elim x'' [ ]
grows_slots R Q f g s (suc m) (suc n) (next r k) =
    let p = grows_slots R Q f g (suc s) m n k in
    record {
      more = omega (arith, p.more);
      same = λ i low high. first_or (λ (i : ℕ). R (f i) (g i)) s i r (λ l. p.same i l (omega arith)) low;
      new = λ i low high. p.new i (omega arith) (omega arith);
    }
