-- The counts of entries: for each replica slot, how many entries are listed in it. What the contracts of `table::counts`
-- cite. Assumes nothing.
use Rattle.std.specs.Prelude.{◌≡◌, Bool, List, length, get_or, set, Some, None}
use Rattle.std.proofs.Math.Path.{refl, ap}
use Rattle.std.proofs.Common.{sym, ◌∙◌, true≢false, zero-add, add-one, length-set, get_or-set_same, get_or-set_other, eq-eqb, eqb-true}
use Rattle.std.proofs.Math.Bool.{true, false, cond}
use Prim.Native.Nat.{ℕ, zero, suc, ◌+◌, ◌≤◌, ◌<◌}
use native.Mathlib.Omega.{arith}
use mathlib.Core.List.{map}
use Rattle.std.proofs.Math.ListN.{get_or-map}
use Rattle.std.proofs.lemmas.List.{map-set}
use Rattle.std.proofs.Common.{subst}
use Rattle.codec.specs.Bytes.{zeros}
use Rattle.table.specs.declared.counts.Tally.{Tally}
use Rattle.document.specs.Tables.{has_id, replica_in, entry_in}
use Rattle.table.specs.Slots.{first_slot, first_replica, count_slots, is_listed_in, entries_in}
use Rattle.table.specs.Rules.{ids_new}
use Rattle.table.specs.Hints.{id_only}

-- entry slot i is listed in replica slot s; how many of k are
abbrev pub is_under : List ℕ → ℕ → ℕ → Bool
is_under l s i = is_listed_in l (replica_in l s).head.id i

abbrev pub entries_under : List ℕ → ℕ → ℕ → ℕ
entries_under l k s = entries_in l k (replica_in l s).head.id

-- 64 counts; that of each of m slots is of the first k entries
abbrev pub Counted : List ℕ → ℕ → ℕ → List ℕ → Type 0
Counted l m k counts = (length counts ≡ 64) × ((s : ℕ) → s < m → get_or counts s 0 ≡ entries_under l k s)

-- the same of 64 tallies
abbrev pub Tallied : List ℕ → ℕ → ℕ → List Tally → Type 0
Tallied l m k tallies = Counted l m k (map (λ (x : Tally). x.count) tallies)

-- ---- an entry is listed in the slot in which its directory is found, and in no other

-- the slot found passes
first_passes : (f : ℕ → Bool) (s n i : ℕ) → first_slot f s n ≡ Some i → f i ≡ true
unfolding first_slot
first_passes f s zero i e = let z : ◌≡◌ {A = ℕ} 0 1 = cc in absurd (omega arith)
first_passes f s (suc n) i e = go (f s) refl e (first_passes f (suc s) n i)
  where
    go : (b : Bool) → f s ≡ b → cond b (Some s) (first_slot f (suc s) n) ≡ Some i → (first_slot f (suc s) n ≡ Some i → f i ≡ true) → f i ≡ true
    go true z p ih = let q : s ≡ i = cc in ap f (sym q) ∙ z
    go false z p ih = ih p

under_found : (l : List ℕ) (m i s : ℕ) → ids_new l m ≡ true → s < m → is_under l s i ≡ true →
    first_replica l m (entry_in l i).directory ≡ Some s
under_found l m i s new h e =
    id_only l m (entry_in l i).directory s new h (eq-eqb _ _ (sym (eqb-true (entry_in l i).directory (replica_in l s).head.id e)))

found_under : (l : List ℕ) (m i s : ℕ) → first_replica l m (entry_in l i).directory ≡ Some s → is_under l s i ≡ true
found_under l m i s e =
    let has = first_passes (λ (j : ℕ). has_id (entry_in l i).directory (replica_in l j)) 0 m s e in
    eq-eqb _ _ (sym (eqb-true (replica_in l s).head.id (entry_in l i).directory has))

-- ---- how many slots pass: one slot more, behind the others; and no more pass than there are

module _ (f : ℕ → Bool) where
  count_last : (s n : ℕ) → count_slots f s (suc n) ≡ count_slots f s n + cond (f (s + n)) 1 0
  unfolding count_slots
  count_last s zero = go (f s) ∙ ap (λ (j : ℕ). 0 + cond (f j) 1 0) {x = s} {y = s + 0} (omega arith)
    where
      go : (b : Bool) → cond b 1 0 ≡ 0 + cond b 1 0
      go true = refl
      go false = refl
  count_last s (suc n) =
      go (f s) (count_last (suc s) n) ∙ ap (λ (j : ℕ). count_slots f s (suc n) + cond (f j) 1 0) {x = suc s + n} {y = s + suc n} (omega arith)
    where
      go : (b : Bool) → count_slots f (suc s) (suc n) ≡ count_slots f (suc s) n + cond (f (suc s + n)) 1 0 →
          cond b (suc (count_slots f (suc s) (suc n))) (count_slots f (suc s) (suc n))
          ≡ cond b (suc (count_slots f (suc s) n)) (count_slots f (suc s) n) + cond (f (suc s + n)) 1 0
      go true e = omega (arith, e)
      go false e = e

  count_more : (n : ℕ) → count_slots f 0 (n + 1) ≡ count_slots f 0 n + cond (f n) 1 0
  count_more n = ap (count_slots f 0) (add-one n) ∙ count_last 0 n ∙ ap (λ (j : ℕ). count_slots f 0 n + cond (f j) 1 0) (zero-add n)

  count_most : (s n : ℕ) → count_slots f s n ≤ n
  unfolding count_slots
  count_most s zero = omega arith
  count_most s (suc n) = go (f s) (count_most (suc s) n)
    where
      go : (b : Bool) → count_slots f (suc s) n ≤ n → cond b (suc (count_slots f (suc s) n)) (count_slots f (suc s) n) ≤ suc n
      go true h = omega arith
      go false h = omega arith

-- ---- the counts: of no entry, and of one more

zeros_at : (n s : ℕ) → get_or (zeros n) s 0 ≡ 0
zeros_at zero s = refl
zeros_at (suc n) zero = refl
zeros_at (suc n) (suc s) = zeros_at n s

pub counted_none : (l : List ℕ) (m : ℕ) (counts : List ℕ) → counts ≡ zeros 64 → Counted l m 0 counts
unfolding count_slots
counted_none l m counts e = (ap length e, λ s p. ap (λ (c : List ℕ). get_or c s 0) e ∙ zeros_at 64 s)

-- no slot is the directory of entry slot i
pub counted_other : (l : List ℕ) (m i : ℕ) (counts : List ℕ) → ids_new l m ≡ true →
    first_replica l m (entry_in l i).directory ≡ None → Counted l m i counts → Counted l m (i + 1) counts
counted_other l m i counts new found all = (all.0, λ s p. go s p (is_under l s i) refl)
  where
    go : (s : ℕ) → s < m → (b : Bool) → is_under l s i ≡ b → get_or counts s 0 ≡ entries_under l (i + 1) s
    go s p true z =
        let e = under_found l m i s new p z in
        let no : ◌≡◌ {A = ℕ} 0 1 = cc in
        absurd (omega arith)
    go s p false z = let more = simp z at (count_more (is_under l s) i) in omega (arith, all.1 s p)

-- slot q is
pub counted_at : (l : List ℕ) (m i q : ℕ) (counts : List ℕ) → ids_new l m ≡ true → q < 64 →
    first_replica l m (entry_in l i).directory ≡ Some q → Counted l m i counts →
    Counted l m (i + 1) (set counts q (get_or counts q 0 + 1))
counted_at l m i q counts new within found all =
    (length-set counts q (get_or counts q 0 + 1) ∙ all.0, λ s p. go s p (is_under l s i) refl)
  where
    go : (s : ℕ) → s < m → (b : Bool) → is_under l s i ≡ b →
        get_or (set counts q (get_or counts q 0 + 1)) s 0 ≡ entries_under l (i + 1) s
    go s p true z =
        let e = under_found l m i s new p z in
        let same : q ≡ s = cc in
        let more = simp z at (count_more (is_under l s) i) in
        let raised = get_or-set_same counts q (get_or counts q 0 + 1) 0 (omega (arith, all.0)) in
        omega (
          arith,
          all.1 s p,
          ap (λ (j : ℕ). get_or (set counts q (get_or counts q 0 + 1)) j 0) same,
          ap (λ (j : ℕ). get_or counts j 0) same,
        )
    go s p false z =
        let other : s ≡ q → ⊥ = λ e. true≢false (sym (found_under l m i q found) ∙ ap (λ (j : ℕ). is_under l j i) (sym e) ∙ z) in
        let more = simp z at (count_more (is_under l s) i) in
        let kept = get_or-set_other counts q s (get_or counts q 0 + 1) 0 other in
        omega (arith, all.1 s p)

-- a count of i entries is at most i
pub counted_most : (l : List ℕ) (m i s : ℕ) (counts : List ℕ) → s < m → Counted l m i counts → get_or counts s 0 ≤ i
counted_most l m i s counts h all = omega (arith, all.1 s h, count_most (is_under l s) 0 i)

-- ---- the same of tallies

pub tallied_at : (l : List ℕ) (m k s : ℕ) (tallies : List Tally) → s < m → Tallied l m k tallies →
    (get_or tallies s (record { count = 0; place = 0 })).count ≡ entries_under l k s
tallied_at l m k s tallies h all = sym (get_or-map (λ (x : Tally). x.count) tallies s (record { count = 0; place = 0 })) ∙ all.1 s h

pub tallied_raised : (l : List ℕ) (m i q : ℕ) (tallies : List Tally) → ids_new l m ≡ true → q < 64 →
    first_replica l m (entry_in l i).directory ≡ Some q → Tallied l m i tallies →
    Tallied l m (i + 1) (set tallies q (record {
      count = (get_or tallies q (record { count = 0; place = 0 })).count + 1;
      place = (get_or tallies q (record { count = 0; place = 0 })).place;
    }))
tallied_raised l m i q tallies new within found all =
    let f : Tally → ℕ = λ (x : Tally). x.count in
    let was = get_or tallies q (record { count = 0; place = 0 }) in
    subst (Counted l m (i + 1))
    (sym
    (map-set f tallies q (record { count = was.count + 1; place = was.place })
    ∙ ap (λ (n : ℕ). set (map f tallies) q (n + 1)) (sym (get_or-map f tallies q (record { count = 0; place = 0 })))))
    (counted_at l m i q (map f tallies) new within found all)
