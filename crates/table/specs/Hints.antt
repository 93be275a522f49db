-- Hints: what a slot that was compared says, where ids and keys are unique. What the contracts of `table::hints` cite.
-- Assumes nothing.
use Rattle.std.specs.Prelude.{◌≡◌, refl, Bool, true, false, not, cond, List, ℕ, zero, suc, ◌+◌, ◌-◌, ◌≤◌, ◌<◌, eqb, Some}
use Rattle.std.proofs.Common.{ap, sym, ◌∙◌, true≢false, arith, eq-eqb, eqb-true}
use Rattle.std.proofs.lemmas.Bool.{eqb-false, not-true}
use Rattle.codec.specs.Lists.{and_true, and_go}
use Rattle.names.specs.declared.Name.{Name}
use Rattle.names.specs.Names.{same_name, same_name_eq, same_name_refl}
use Rattle.slots.specs.declared.listed.Listed.{Listed}
use Rattle.document.specs.Tables.{has_id, is_key, every_slot, replica_in, entry_in}
use Rattle.document.specs.Sound.{same_id, same_key}
use Rattle.table.specs.Slots.{first_slot, first_replica, first_entry, slots_get}
use Rattle.table.specs.Rules.{new_slot, ids_new, keys_new}

-- the slot found, if it is one of m, has the id
abbrev pub HasId : List ℕ → ℕ → ℕ → ℕ → Type 0
HasId l m id r = r < m → has_id id (replica_in l r) ≡ true

-- ---- a slot among unique ones

-- the first that passes, if none before it does
first_at : (f : ℕ → Bool) (s n i : ℕ) → s ≤ i → i < s + n → f i ≡ true → ((j : ℕ) → j < i → f j ≡ false) → first_slot f s n ≡ Some i
unfolding first_slot
first_at f s zero i p q e none = absurd (omega arith)
first_at f s (suc n) i p q e none = go (eqb s i) refl (λ d. first_at f (suc s) n i d (omega arith) e none)
  where
    go : (b : Bool) → eqb s i ≡ b → (suc s ≤ i → first_slot f (suc s) n ≡ Some i) → cond (f s) (Some s) (first_slot f (suc s) n) ≡ Some i
    go true z ih = let y : f s ≡ true = ap f (eqb-true s i z) ∙ e in simp y (ap Some (eqb-true s i z))
    go false z ih =
        let d = eqb-false s i z in
        let y : f s ≡ false = none s (omega arith) in
        simp y (ih (omega arith))

-- no two slots are the same, and any two that pass are: so the one that passes is the first
only_first : {A : Type 0} (same : A → A → Bool) (g : ℕ → A) (f : A → Bool) (n i : ℕ) →
    ((a b : A) → f a ≡ true → f b ≡ true → same a b ≡ true) → every_slot (new_slot same g n) 0 n ≡ true → i < n → f (g i) ≡ true →
    first_slot (λ (j : ℕ). f (g j)) 0 n ≡ Some i
only_first same g f n i alike new h e = first_at (λ (j : ℕ). f (g j)) 0 n i (omega arith) (omega arith) e (λ j q. before j q (f (g j)) refl)
  where
    before : (j : ℕ) → j < i → (b : Bool) → f (g j) ≡ b → f (g j) ≡ false
    before j q false z = z
    before j q true z =
        let one = slots_get (new_slot same g n) 0 n new j (omega arith) (omega arith) in
        let two = slots_get (λ (x : ℕ). not (same (g j) (g x))) (j + 1) (n - (j + 1)) one i (omega arith) (omega arith) in
        absurd (true≢false (sym (alike (g j) (g i) z e) ∙ not-true _ two))

pub id_only : (l : List ℕ) (m id i : ℕ) → ids_new l m ≡ true → i < m → has_id id (replica_in l i) ≡ true → first_replica l m id ≡ Some i
id_only l m id i new h e =
    only_first same_id (replica_in l) (has_id id) m i
    (λ a b p q. eq-eqb a.head.id b.head.id (eqb-true a.head.id id p ∙ sym (eqb-true b.head.id id q))) new h e

-- two entries with one key have the same key
one_key : (directory child : ℕ) (name : Name) (a b : Listed) → is_key directory child name a ≡ true →
    is_key directory child name b ≡ true → same_key a b ≡ true
one_key directory child name a b p q =
    let a₁ = and_true (eqb a.directory directory) _ p in
    let b₁ = and_true (eqb b.directory directory) _ q in
    let a₂ = and_true (eqb a.entry.child child) _ a₁.1 in
    let b₂ = and_true (eqb b.entry.child child) _ b₁.1 in
    let d : b.directory ≡ a.directory = eqb-true _ directory b₁.0 ∙ sym (eqb-true _ directory a₁.0) in
    let c : b.entry.child ≡ a.entry.child = eqb-true _ child b₂.0 ∙ sym (eqb-true _ child a₂.0) in
    let n : b.entry.name ≡ a.entry.name = same_name_eq _ name b₂.1 ∙ sym (same_name_eq _ name a₂.1) in
    sym
    (and_go _ _ (eq-eqb _ _ d)
    (and_go _ _ (eq-eqb _ _ c) (sym (ap (λ (z : Name). same_name z a.entry.name) n ∙ same_name_refl a.entry.name))))

pub key_only : (l : List ℕ) (k directory child : ℕ) (name : Name) (i : ℕ) → keys_new l k ≡ true → i < k →
    is_key directory child name (entry_in l i) ≡ true → first_entry l k directory child name ≡ Some i
key_only l k directory child name i new h e =
    only_first same_key (entry_in l) (is_key directory child name) k i (one_key directory child name) new h e
