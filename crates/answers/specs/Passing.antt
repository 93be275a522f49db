-- What a `?` hands on: the refusal that it met. Assumes nothing.
use Rattle.std.specs.Prelude.{◌≡◌, refl, true, false, List, ℕ, Result, Ok, Err, is_ok, IsErrAnd, MatchResult}
use Rattle.std.proofs.Common.{ap, sym, subst, ◌∙◌, true≢false}
use Rattle.std.specs.Result.{result_or}
use Rattle.std.proofs.lemmas.Result.{err_from_is_err_and}
use Rattle.document.specs.Tables.{Table, table_of}
use Rattle.document.specs.Sound.{sound_bytes}
use Rattle.document.specs.Outcomes.{Outcome, refused, table_after, output_after}
use Rattle.document.specs.Calls.{on_sound}
use Rattle.answers.specs.declared.refusal.Refusal.{Refusal}
use Rattle.answers.specs.declared.refusal.Refusal.TheVariants.{NotSound}
use Rattle.answers.specs.Refusals.{code}
use Rattle.answers.specs.Answers.{Answer, Answered, answers_refused, not_sound, is_sound}

module _ {A : Type 0} (r : Result A Refusal) (e : Refusal) (h : IsErrAnd r (λ y. y ≡ e)) where
  pub handed : r ≡ Err e
  handed = let p = err_from_is_err_and r h in p.1 ∙ ap Err p.2

  pub handed_on : (P : A → Type 0) (Q : Refusal → Type 0) → Q e → MatchResult r P Q
  handed_on P Q q = subst (λ (z : Result A Refusal). MatchResult z P Q) (sym handed) q

-- where a call that failed is refused with x
module _ {A E : Type 0} (r : Result A E) (x : Refusal) where
  pub or_refused : {e : Refusal} → result_or r (Err x) ≡ Err e → (is_ok r ≡ false) × (e ≡ x)
  or_refused q = go r q
    where
      go : (z : Result A E) {e : Refusal} → result_or z (Err x) ≡ Err e → (is_ok z ≡ false) × (e ≡ x)
      go (Ok a) p = absurd (true≢false (ap is_ok p))
      go (Err b) p = (refl, cc)

  pub or_done : {a : A} → result_or r (Err x) ≡ Ok a → is_ok r ≡ true
  or_done q = go r q
    where
      go : (z : Result A E) {a : A} → result_or z (Err x) ≡ Ok a → is_ok z ≡ true
      go (Ok b) p = refl
      go (Err b) p = absurd (true≢false (sym (ap is_ok p)))

-- each form of a contract, where a `?` hands on a refusal of the outcome
module _ (r : Answer) (e : Refusal) (h : IsErrAnd r (λ y. y ≡ e)) {o : Outcome} where
  pub refused_on : o ≡ refused (code e) → Answered o r
  refused_on q = subst (λ (z : Answer). Answered o z) (sym (handed r e h)) (answers_refused e q)

  pub refuses_on : (l : List ℕ) → o ≡ refused (code e) → Answered o r × (l ≡ table_after o l)
  refuses_on l q = (refused_on q, ap (λ (o : Outcome). table_after o l) (sym q))

  pub refused_out_on : (out : List ℕ) → o ≡ refused (code e) → Answered o r × (out ≡ output_after o out)
  refused_out_on out q = (refused_on q, ap (λ (o : Outcome). output_after o out) (sym q))

  pub refused_parts_on : (l out : List ℕ) → o ≡ refused (code e) →
      Answered o r × (l ≡ table_after o l) × (out ≡ output_after o out)
  refused_parts_on l out q =
      (refused_on q, ap (λ (o : Outcome). table_after o l) (sym q), ap (λ (o : Outcome). output_after o out) (sym q))

-- "1: table not sound", where the judgement's refusal is handed on
pub unsound : (l : List ℕ) (f : Table → Outcome) (e : Refusal) → (e ≡ NotSound) × (sound_bytes l ≡ false) →
    on_sound l f ≡ refused (code e)
unsound l f e p = not_sound l f p.1 ∙ ap (λ (x : Refusal). refused (code x)) (sym p.0)

-- what a call leaves of a table that was judged sound, and then lent on
pub opened : {l t : List ℕ} (r : Answer) → t ≡ l → sound_bytes l ≡ true → (f : Table → Outcome) {t' : List ℕ} →
    Answered (f (table_of t)) r × (t' ≡ table_after (f (table_of t)) t) →
    Answered (on_sound l f) r × (t' ≡ table_after (on_sound l f) l)
opened {l} {t} r e s f {t'} p =
    subst (λ (o : Outcome). Answered o r × (t' ≡ table_after o l)) (sym (is_sound l f s))
    (subst (λ (z : List ℕ). Answered (f (table_of z)) r × (t' ≡ table_after (f (table_of z)) z)) e p)

-- the same of a buffer for output, where the table is only read
pub opened_out : {l t : List ℕ} (r : Answer) → t ≡ l → sound_bytes l ≡ true → (f : Table → Outcome) (out : List ℕ) {out' : List ℕ} →
    Answered (f (table_of t)) r × (out' ≡ output_after (f (table_of t)) out) →
    Answered (on_sound l f) r × (out' ≡ output_after (on_sound l f) out)
opened_out {l} {t} r e s f out {out'} p =
    subst (λ (o : Outcome). Answered o r × (out' ≡ output_after o out)) (sym (is_sound l f s))
    (subst (λ (z : List ℕ). Answered (f (table_of z)) r × (out' ≡ output_after (f (table_of z)) out)) e p)
