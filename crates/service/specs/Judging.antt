-- A table that is judged sound, and then lent on: what the proof of `service::judged` cites. Assumes nothing.
use Rattle.std.specs.Prelude.{◌≡◌, ◌≢◌, true, false, List, ℕ, Option, Some, None, MatchOption, MatchResult, ok_or, eqb, length}
use Rattle.std.proofs.Common.{subst, sym, eqb-true, arith}
use Rattle.std.specs.declared.result.Result.{Result}
use Rattle.std.specs.declared.result.Result.TheVariants.{Err}
use Rattle.std.specs.Array.{IsWholeChunk}
use Rattle.std.specs.Borrow.{Bor, MutBor}
use Rattle.codec.specs.Lists.{and_true}
use Rattle.document.specs.Tables.{table_in_range}
use Rattle.document.specs.Sound.{sound_bytes}
use Rattle.answers.specs.declared.refusal.Refusal.{Refusal}
use Rattle.answers.specs.declared.refusal.Refusal.TheVariants.{NotSound}

-- sound bytes are exactly as many as a table has
sound_size : (l : List ℕ) → sound_bytes l ≡ true → length l ≡ 13344
unfolding sound_bytes table_in_range
sound_size l s = eqb-true _ _ (and_true (eqb (length l) 13344) _ (and_true (table_in_range l) _ s).0).0

-- so they can be lent on as a table
pub lent_cases : (l : List ℕ) (o : Option (MutBor (List ℕ))) →
    MatchOption o (length l ≢ 13344) (λ t. IsWholeChunk l t.now 13344) → sound_bytes l ≡ true →
    MatchOption o (sound_bytes l ≡ false) (λ t. (t.now ≡ l) × (sound_bytes l ≡ true))
lent_cases l None m s = absurd (m (sound_size l s))
lent_cases l (Some t) m s = (m.same, s)

-- .. and read as one
pub judged_cases : (l : List ℕ) (o : Option (Bor (List ℕ))) (r : Result (Bor (List ℕ)) Refusal) → r ≡ ok_or o NotSound →
    MatchOption o (length l ≢ 13344) (λ t. IsWholeChunk l t.now 13344) → sound_bytes l ≡ true →
    MatchResult r (λ t. (t.now ≡ l) × (sound_bytes l ≡ true)) (λ e. (e ≡ NotSound) × (sound_bytes l ≡ false))
judged_cases l None r e m s = absurd (m (sound_size l s))
judged_cases l (Some t) r e m s =
    subst (λ (q : Result (Bor (List ℕ)) Refusal).
    MatchResult q (λ t. (t.now ≡ l) × (sound_bytes l ≡ true)) (λ e. (e ≡ NotSound) × (sound_bytes l ≡ false)))
    (sym e) (m.same, s)

-- .. as a call goes on with it, or hands the refusal on
module _ (l : List ℕ) (o : Option (MutBor (List ℕ)))
    (m : MatchOption o (sound_bytes l ≡ false) (λ t. (t.now ≡ l) × (sound_bytes l ≡ true))) where
  pub lent : {t : MutBor (List ℕ)} → o ≡ Some t → (t.now ≡ l) × (sound_bytes l ≡ true)
  lent e =
      subst (λ (z : Option (MutBor (List ℕ))). MatchOption z (sound_bytes l ≡ false) (λ t. (t.now ≡ l) × (sound_bytes l ≡ true))) e m

  pub not_lent : {e : Refusal} → Err e ≡ ok_or o NotSound → o ≡ None → (e ≡ NotSound) × (sound_bytes l ≡ false)
  not_lent p e = go o p e m
    where
      go : (z : Option (MutBor (List ℕ))) {e : Refusal} → Err e ≡ ok_or z NotSound → z ≡ None →
          MatchOption z (sound_bytes l ≡ false) (λ t. (t.now ≡ l) × (sound_bytes l ≡ true)) → (e ≡ NotSound) × (sound_bytes l ≡ false)
      go None q e n = (cc, n)
      go (Some t) q e n = let z : ◌≡◌ {A = ℕ} 0 1 = cc in absurd (omega arith)
