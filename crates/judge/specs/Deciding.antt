-- The tests that each function of this crate makes, one after the other, and what each answer comes to. What the proofs
-- of its contracts cite. Assumes nothing.
use Rattle.std.specs.Prelude.{◌≡◌, refl, Bool, true, false, ◌&&◌, ◌||◌, not, cond, [], ◌∷◌, ◌≤◌, ◌<◌, eqb}
use Rattle.std.proofs.Common.{ap, sym, ◌∙◌, arith, lt-ltb, le-ltb}
use Rattle.std.proofs.Math.Option.{Option, some, none}
use Rattle.codec.specs.Lists.{every, and_right}
use Rattle.numbers.specs.Ids.{maker}
use Rattle.records.specs.declared.head.Head.{Head}
use Rattle.slots.specs.declared.listed.Listed.{Listed}
use Rattle.document.specs.Tables.{Table, head_of}
use Rattle.document.specs.Sound.{is_directory, is_held}
use Rattle.document.specs.Steps.{place_entry, strike, same_place, same_state, set_by, odd_join}
use Rattle.document.specs.Receive.{odd_head, set_if_made, set_if_taken}
use Rattle.steps.specs.declared.join.Joined.{Joined}
use Rattle.steps.specs.declared.join.Joined.TheVariants.{Added, Replaced, Same, AtOdds}
use Rattle.steps.specs.Joining.{refusal_of}
use Rattle.judge.specs.Apart.{none_odd}
use Rattle.judge.specs.Judging.{is_steady, head_agrees, made_agrees, first_agrees}

-- ---- heads

-- a denial of a test and of a conjunction with a denial
not_and_not : (a b : Bool) → not (a && not b) ≡ (not a || b)
not_and_not true true = refl
not_and_not true false = refl
not_and_not false b = refl

not_or : (a b : Bool) → not (a || b) ≡ (not a && not b)
not_or true b = refl
not_or false b = refl

pub steady_tests : (h o : Head) → is_steady h o ≡ (not (is_directory o) || (same_place o h && eqb o.depth h.depth))
steady_tests h o = not_and_not (is_directory o) (same_place o h && eqb o.depth h.depth)

pub like_tests : (h o : Head) →
    not (odd_head h (some o))
    ≡ (eqb o.kind h.kind && (is_steady h o && (not (eqb o.stamp h.stamp) || same_state o h)))
like_tests h o =
    go (eqb o.kind h.kind) (is_directory o && not (same_place o h && eqb o.depth h.depth))
    (eqb o.stamp h.stamp) (same_state o h)
  where
    go : (k d s b : Bool) → not (not k || (d || (s && not b))) ≡ (k && (not d && (not s || b)))
    go false d s b = refl
    go true d s b = not_or d (s && not b) ∙ ap (λ (z : Bool). not d && z) (not_and_not s b)

-- one that is held, and one that is not
pub agrees_held : (t : Table) (h o : Head) (r : Bool) → head_of t h.id ≡ some o → r ≡ not (odd_head h (some o)) →
    r ≡ head_agrees t h
agrees_held t h o r e q =
    q ∙ ap not (sym (or_false (odd_head h (some o))))
    ∙ ap (λ (x : Option Head). not (odd_head h x || (not (is_held x) && eqb (maker h.id) t.own))) (sym e)
  where
    or_false : (b : Bool) → (b || false) ≡ b
    or_false true = refl
    or_false false = refl

pub agrees_absent : (t : Table) (h : Head) (r : Bool) → head_of t h.id ≡ none →
    r ≡ not (eqb (maker h.id) t.own) → r ≡ head_agrees t h
agrees_absent t h r e q =
    q ∙ ap (λ (x : Option Head). not (odd_head h x || (not (is_held x) && eqb (maker h.id) t.own))) (sym e)

-- ---- joins

-- a join is refused with 13, or not, by the case that it comes to
pub join_odd : (o : Joined) (b : Bool) → refusal_of o ≡ cond b 13 0 → o ≡ AtOdds → false ≡ not b
join_odd o true q e = refl
join_odd o false q e = absurd (omega (arith, sym (ap refusal_of e) ∙ q))

pub join_even : (o : Joined) (b : Bool) → refusal_of o ≡ cond b 13 0 → (o ≡ AtOdds → ⊥) → true ≡ not b
join_even o false q n = refl
join_even AtOdds true q n = absurd (n refl)
join_even Added true q n = absurd (omega (arith, q))
join_even (Replaced s) true q n = absurd (omega (arith, q))
join_even Same true q n = absurd (omega (arith, q))

-- ---- what a state sets

-- an entry at its place
set_one : (t : Table) (h : Head) → not (odd_join (place_entry h) t) ≡ none_odd t (set_by h none)
unfolding set_by every
set_one t h = sym (and_right (not (odd_join (place_entry h) t)))

-- and a strike where it was, if that is another place
pub set_tests : (t : Table) (h old : Head) →
    none_odd t (set_by h (some old))
    ≡ (not (odd_join (place_entry h) t) && (same_place h old || not (odd_join (strike h old) t)))
unfolding set_by every
set_tests t h old =
    ap (λ (b : Bool). not (odd_join (place_entry h) t) && b) (go (same_place h old))
  where
    go : (b : Bool) → none_odd t (cond b [] (strike h old ∷ [])) ≡ (b || not (odd_join (strike h old) t))
    go true = refl
    go false = and_right (not (odd_join (strike h old) t))

-- an ancestor that is held sets nothing
pub made_held : (t : Table) (h o : Head) → head_of t h.id ≡ some o → true ≡ made_agrees t h
unfolding every
made_held t h o e = ap (λ (x : Option Head). none_odd t (set_if_made x h)) (sym e)

pub made_absent : (t : Table) (h : Head) (x : Listed) (r : Bool) → head_of t h.id ≡ none → x ≡ place_entry h →
    r ≡ not (odd_join x t) → r ≡ made_agrees t h
made_absent t h x r e p q =
    q ∙ ap (λ (z : Listed). not (odd_join z t)) p ∙ set_one t h
    ∙ ap (λ (o : Option Head). none_odd t (set_if_made o h)) (sym e)

-- the pushed replica
pub first_absent : (t : Table) (h : Head) (x : Listed) (r : Bool) → head_of t h.id ≡ none → x ≡ place_entry h →
    r ≡ not (odd_join x t) → r ≡ first_agrees t h
first_absent t h x r e p q =
    q ∙ ap (λ (z : Listed). not (odd_join z t)) p ∙ set_one t h
    ∙ ap (λ (o : Option Head). none_odd t (set_if_taken o h)) (sym e)

pub first_left : (t : Table) (h old : Head) → head_of t h.id ≡ some old → h.stamp ≤ old.stamp →
    true ≡ first_agrees t h
unfolding every
first_left t h old e s =
    ap (λ (b : Bool). none_odd t (cond b (set_by h (some old)) [])) (sym (le-ltb old.stamp h.stamp s))
    ∙ ap (λ (o : Option Head). none_odd t (set_if_taken o h)) (sym e)

pub first_taken : (t : Table) (h old : Head) (r : Bool) → head_of t h.id ≡ some old → old.stamp < h.stamp →
    r ≡ none_odd t (set_by h (some old)) → r ≡ first_agrees t h
first_taken t h old r e s q =
    q ∙ ap (λ (b : Bool). none_odd t (cond b (set_by h (some old)) [])) (sym (lt-ltb old.stamp h.stamp s))
    ∙ ap (λ (o : Option Head). none_odd t (set_if_taken o h)) (sym e)
