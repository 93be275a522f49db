-- An accepted call: none of its refusals holds, and the table that it leaves is the one given. Assumes nothing.
use Rattle.std.specs.Prelude.{◌≡◌, refl, Bool, true, false, cond, List, [], ◌∷◌, ℕ}
use Rattle.std.proofs.Common.{ap, sym, ◌∙◌, true≢false}
use Rattle.std.proofs.Math.Option.{Option, some, none}
use Rattle.records.specs.declared.head.Head.{Head}
use Rattle.document.specs.Tables.{Table}
use Rattle.document.specs.Outcomes.{Outcome, refused, done, Refusal, judged, all_passed}
use Rattle.document.specs.Calls.{not_held}

abbrev is_done : Outcome → Bool
is_done (refused k) = false
is_done (done v t w) = true

-- the table that a call leaves, t if it is refused
abbrev pub table_in : Table → Outcome → Table
table_in t (refused k) = t
table_in t (done v u w) = u

pub not_done : (k v : ℕ) (u : Table) (w : List ℕ) → refused k ≡ done v u w → ⊥
not_done k v u w e = true≢false (sym (ap is_done e))

-- the table of an outcome is one
pub done_table : (a v : ℕ) (b u : Table) (c w : List ℕ) → done a b c ≡ done v u w → u ≡ b
done_table a v b u c w e = sym (ap (table_in b) e)

-- the first refusal does not hold, and the others decide
pub accepted : (r : Refusal) (rs : List Refusal) (o : Outcome) (v : ℕ) (u : Table) (w : List ℕ) →
    judged (r ∷ rs) o ≡ done v u w → (r.holds ≡ false) × (judged rs o ≡ done v u w)
unfolding judged
accepted r rs o v u w e = go r.holds refl e
  where
    go : (b : Bool) → r.holds ≡ b → cond b (refused r.number) (judged rs o) ≡ done v u w →
        (r.holds ≡ false) × (judged rs o ≡ done v u w)
    go true h q = absurd (not_done r.number v u w q)
    go false h q = (h, q)

-- so what is done is what was to be
pub judged_done : (rs : List Refusal) (o : Outcome) (v : ℕ) (u : Table) (w : List ℕ) → judged rs o ≡ done v u w →
    o ≡ done v u w
judged_done [] o v u w e = sym (all_passed o) ∙ e
judged_done (r ∷ rs) o v u w e = judged_done rs o v u w (accepted r rs o v u w e).1

-- what is held is some head
pub held_some : (o : Option Head) → not_held o ≡ false → (h : Head) × (o ≡ some h)
held_some none e = absurd (true≢false e)
held_some (some h) e = (h, refl)
