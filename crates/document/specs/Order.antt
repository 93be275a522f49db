-- "Where several hold, the lowest number is given.": the refusals of each call ascend, and of an ascending list the lowest
-- that holds is given, and none that does not hold. Assumes nothing.
use Rattle.std.specs.Prelude.{◌≡◌, Bool, true, false, ◌&&◌, cond, ◌⊎◌, ℕ, ◌≤◌, ◌<◌, ltb}
use Rattle.std.proofs.Math.Path.{refl}
use Rattle.std.proofs.Common.{ap, sym, subst, ◌∙◌, true≢false, inl, inr, arith, ltb-true}
use mathlib.Core.List.Memᴰ
use mathlib.Core.List.{List, [], ◌∷◌, Memᴰ}
use Rattle.codec.specs.Lists.{and_true}
use Rattle.messages.specs.declared.acknowledgement.Acknowledgement.{Acknowledgement}
use Rattle.document.specs.Tables.{Table}
use Rattle.document.specs.Messages.{Push}
use Rattle.document.specs.Outcomes.{Outcome, refused, number_of, Refusal, judged}
use Rattle.document.specs.Calls.{start_refusals, create_refusals, unlink_refusals, rename_refusals, remove_refusals, spread_refusals, list_refusals, push_refusals, receive_refusals, take_refusals, clear_refusals}

-- each number is above k and above those before it
unfoldable pub ascends : ℕ → List Refusal → Bool
ascends k [] = true
ascends k (r ∷ rs) = ltb k r.number && ascends r.number rs

above : (k : ℕ) (rs : List Refusal) → ascends k rs ≡ true → (r : Refusal) → Memᴰ r rs → k < r.number
unfolding ascends
above k [] a r m = elim m [ ]
above k (x ∷ xs) a r m =
    let p = and_true (ltb k x.number) _ a in
    go (ltb-true k x.number p.0) (above x.number xs p.1 r) (Memᴰ.cases_cons m)
  where
    go : k < x.number → (Memᴰ r xs → x.number < r.number) → (r ≡ x) ⊎ Memᴰ r xs → k < r.number
    go h ih (inl e) = subst (λ (y : Refusal). k < y.number) (sym e) h
    go h ih (inr i) = omega (arith, ih i)

-- where a refusal holds, one is given, and its number is not above
pub lowest : (k : ℕ) (rs : List Refusal) (o : Outcome) → ascends k rs ≡ true → (r : Refusal) → Memᴰ r rs →
    r.holds ≡ true → (n : ℕ) × (judged rs o ≡ refused n) × (n ≤ r.number)
unfolding ascends judged
lowest k [] o a r m h = elim m [ ]
lowest k (x ∷ xs) o a r m h =
    let p = and_true (ltb k x.number) _ a in
    go x.holds refl (Memᴰ.cases_cons m) (above x.number xs p.1 r) (λ i. lowest x.number xs o p.1 r i h)
  where
    go : (b : Bool) → x.holds ≡ b → (r ≡ x) ⊎ Memᴰ r xs → (Memᴰ r xs → x.number < r.number) →
        (Memᴰ r xs → (n : ℕ) × (judged xs o ≡ refused n) × (n ≤ r.number)) →
        (n : ℕ) × (cond b (refused x.number) (judged xs o) ≡ refused n) × (n ≤ r.number)
    go true e (inl q) up ih = (x.number, refl, subst (λ (y : Refusal). x.number ≤ y.number) (sym q) (omega arith))
    go true e (inr i) up ih = (x.number, refl, omega (arith, up i))
    go false e (inl q) up ih = absurd (true≢false (sym h ∙ ap (λ (y : Refusal). y.holds) q ∙ e))
    go false e (inr i) up ih = ih i

-- and the other way round: a number that is given is that of a refusal that holds, or comes from what follows the list
pub given : (rs : List Refusal) (o : Outcome) (n : ℕ) → judged rs o ≡ refused n →
    ((r : Refusal) × Memᴰ r rs × (r.holds ≡ true) × (r.number ≡ n)) ⊎ (o ≡ refused n)
unfolding judged
given [] o n e = inr e
given (x ∷ xs) o n e = go x.holds refl e (given xs o n)
  where
    later : ((r : Refusal) × Memᴰ r xs × (r.holds ≡ true) × (r.number ≡ n)) ⊎ (o ≡ refused n) →
        ((r : Refusal) × Memᴰ r (x ∷ xs) × (r.holds ≡ true) × (r.number ≡ n)) ⊎ (o ≡ refused n)
    later (inl (r, m, h, k)) = inl (r, Memᴰ.tail m, h, k)
    later (inr q) = inr q

    go : (b : Bool) → x.holds ≡ b → cond b (refused x.number) (judged xs o) ≡ refused n →
        (judged xs o ≡ refused n →
        ((r : Refusal) × Memᴰ r xs × (r.holds ≡ true) × (r.number ≡ n)) ⊎ (o ≡ refused n)) →
        ((r : Refusal) × Memᴰ r (x ∷ xs) × (r.holds ≡ true) × (r.number ≡ n)) ⊎ (o ≡ refused n)
    go true h q ih = inl (x, Memᴰ.head refl, h, ap number_of q)
    go false h q ih = later (ih q)

-- ---- the lists of the calls: each stands behind 1, and the two that judge a message behind 4

module _ (l name : List ℕ) (now d kind set id node n room : ℕ) (t : Table) (p : Push) (a : Acknowledgement) where
  pub start_ascends : ascends 0 (start_refusals l node n) ≡ true
  unfolding ascends
  start_ascends = refl

  pub create_ascends : ascends 1 (create_refusals now d kind name set t) ≡ true
  unfolding ascends
  create_ascends = refl

  pub unlink_ascends : ascends 1 (unlink_refusals now id t) ≡ true
  unfolding ascends
  unlink_ascends = refl

  pub rename_ascends : ascends 1 (rename_refusals now id d name t) ≡ true
  unfolding ascends
  rename_ascends = refl

  pub remove_ascends : ascends 1 (remove_refusals now id t) ≡ true
  unfolding ascends
  remove_ascends = refl

  pub spread_ascends : ascends 1 (spread_refusals id set t) ≡ true
  unfolding ascends
  spread_ascends = refl

  pub list_ascends : ascends 1 (list_refusals id room t) ≡ true
  unfolding ascends
  list_ascends = refl

  pub push_ascends : ascends 1 (push_refusals id node room t) ≡ true
  unfolding ascends
  push_ascends = refl

  pub receive_ascends : (ascends 1 (receive_refusals now room) ≡ true) × (ascends 4 (take_refusals now t p) ≡ true)
  unfolding ascends
  receive_ascends = (refl, refl)

  pub acknowledged_ascends : ascends 4 (clear_refusals t a) ≡ true
  unfolding ascends
  acknowledged_ascends = refl
