-- Steps (a) to (c) of a receive, as the code takes them. Assumes nothing.
use Rattle.std.specs.Prelude.{◌≡◌, refl, Bool, true, false, cond, List, [], ◌∷◌, ℕ, ◌-◌, ◌≤◌, ◌<◌}
use Rattle.std.proofs.Common.{ap, sym, subst, ◌∙◌, lt-ltb, le-ltb}
use Rattle.std.proofs.Math.Option.{Option, some, none}
use Rattle.numbers.specs.Nodes.{join}
use Rattle.records.specs.declared.head.Head.{Head}
use Rattle.document.specs.Tables.{Table, head_of, table_of}
use Rattle.document.specs.Steps.{put, with_holders, too_many}
use Rattle.document.specs.Messages.{Push, message_of}
use Rattle.document.specs.Receive.{step_a, with_own, make_missing, step_b, merged, step_c, taken}
use Rattle.document.specs.ReadingMessages.{head_in}
use Rattle.steps.specs.Standing.{Is}
use Rattle.steps.specs.Putting.{has_slot}
use Rattle.steps.specs.States.{Made, Housed, made_past}
use Rattle.merge.specs.Working.{Works, Owns, made_works, made_none, made_full, made_as, made_is, put_made, housed_put, many_more}
use Rattle.merge.specs.Turns.{down, down_to, Down, down_start, down_turn, down_full, down_end}
use Rattle.merge.specs.Message.{heads_in, above_are}
use Rattle.merge.specs.Keeping.{past_first}

-- ---- (b)

-- an ancestor, made if it is missing
abbrev pub missing : Head → Table → Table
missing h t = make_missing (head_of t h.id) h t

above_down : (hs : List Head) (t : Table) → step_b hs t ≡ down missing hs t
unfolding step_b down
above_down [] t = refl
above_down (h ∷ hs) t = ap (missing h) (above_down hs t)

-- it is held
pub missing_held : {l : List ℕ} (h o : Head) → Works l → head_of (table_of l) h.id ≡ some o →
    Made true l (missing h (table_of l))
missing_held {l} h o w e = made_is (ap (λ (q : Option Head). make_missing q h (table_of l)) (sym e)) (made_none w)

-- it is not
pub missing_made : {l l' : List ℕ} {r : Bool} (h x : Head) → Works l → head_of (table_of l) h.id ≡ none →
    x ≡ with_own h (table_of l) →
    r ≡ has_slot x.id (table_of l) → (r ≡ true → Is l' (put x (table_of l))) → Made r l' (missing h (table_of l))
missing_made {l} h x w e i p q =
    made_is (ap (λ (z : Head). put z (table_of l)) i ∙ ap (λ (q : Option Head). make_missing q h (table_of l)) (sym e))
    (put_made x w p q)

-- what each turn needs and keeps
abbrev pub Owned : Table → Type 0
Owned t = Housed t × (t.own ≤ 8)

pub keeps_missing : (h : Head) (t : Table) → Owned t → Owned (missing h t)
keeps_missing h t k = go (head_of t h.id)
  where
    go : (o : Option Head) → Owned (make_missing o h t)
    go none = (housed_put (with_own h t) t k.0, k.1)
    go (some o) = k

pub many_missing : (h : Head) (t : Table) → too_many t ≡ true → too_many (missing h t) ≡ true
many_missing h t e = go (head_of t h.id)
  where
    go : (o : Option Head) → too_many (make_missing o h t) ≡ true
    go none = many_more (with_own h t) t e
    go (some o) = e

pub owned_above : (hs : List Head) (t : Table) → Owned t → Owned (step_b hs t)
unfolding step_b
owned_above [] t k = k
owned_above (h ∷ hs) t k = keeps_missing h (step_b hs t) (owned_above hs t k)

-- the loop: the heads from j on are through
module _ (m : List ℕ) (t : Table) where
  abbrev pub Making : ℕ → List ℕ → Type 0
  Making j l =
      Down missing (head_in m) (heads_in m) t Owned (λ j low high u. keeps_missing (head_in m j) u) (λ u k. k.0)
      many_missing j l

  goal : down_to missing (head_in m) (heads_in m) t 1 ≡ step_b (message_of m).above t
  goal = sym (ap (λ (hs : List Head). step_b hs t) (above_are m) ∙ above_down _ t)

  pub making_start : {l : List ℕ} → 1 ≤ heads_in m → Owns l → table_of l ≡ t → Making (heads_in m) l
  making_start low w e =
      down_start missing (head_in m) (heads_in m) t Owned _ _ _ low w.works e (w.works.housed, w.own)

  pub making_turn : {l l' : List ℕ} (j : ℕ) → Making j l → 1 < j → (h : Head) → h ≡ head_in m (j - 1) → (r : Bool) →
      Made r l' (missing h (table_of l)) → r ≡ true → Making (j - 1) l'
  making_turn = down_turn missing (head_in m) (heads_in m) t Owned _ _ _

  pub making_full : {l l' : List ℕ} (j : ℕ) → Making j l → 1 < j → (h : Head) → h ≡ head_in m (j - 1) → (r : Bool) →
      Made r l' (missing h (table_of l)) → r ≡ false → {l2 : List ℕ} → Made false l2 (step_b (message_of m).above t)
  making_full j d more h e r k full =
      made_is goal (down_full missing (head_in m) (heads_in m) t Owned _ _ _ j d more h e r k full)

  pub making_end : {l : List ℕ} (j : ℕ) → Making j l → (1 < j → ⊥) → Made true l (step_b (message_of m).above t)
  making_end j d last = made_is goal (down_end missing (head_in m) (heads_in m) t Owned _ _ _ j d last)

-- ---- (c)

-- the head of the pushed replica, if it is held: its state taken, or not
pub merged_taken : (old h : Head) (t : Table) (o : Option Head) → o ≡ some old → old.stamp < h.stamp →
    with_holders h (join old.holders h.holders) ≡ merged o h t
merged_taken old h t o e l =
    ap (λ (b : Bool). with_holders (cond b h old) (join old.holders h.holders)) (sym (lt-ltb _ _ l))
    ∙ ap (λ (q : Option Head). merged q h t) (sym e)

pub merged_kept : (old h : Head) (t : Table) (o : Option Head) → o ≡ some old → h.stamp ≤ old.stamp →
    with_holders old (join old.holders h.holders) ≡ merged o h t
merged_kept old h t o e l =
    ap (λ (b : Bool). with_holders (cond b h old) (join old.holders h.holders)) (sym (le-ltb _ _ l))
    ∙ ap (λ (q : Option Head). merged q h t) (sym e)

pub taken_made : {l l' : List ℕ} {r : Bool} (h x : Head) → Works l →
    x ≡ merged (head_of (table_of l) h.id) h (table_of l) →
    r ≡ has_slot x.id (table_of l) → (r ≡ true → Is l' (put x (table_of l))) → Made r l' (step_c h (table_of l))
unfolding step_c
taken_made {l} h x w i p q = made_is (ap (λ (z : Head). put z (table_of l)) i) (put_made x w p q)

-- ---- (a), (b) and (c), one after the other

module _ (m : List ℕ) {l : List ℕ} (w : Owns l) {l1 : List ℕ}
    (a : Is l1 (step_a (message_of m) (table_of l))) where
  abbrev p : Push
  p = message_of m

  abbrev with_clocks : Table
  with_clocks = step_a (message_of m) (table_of l)

  owned_clocks : Owned with_clocks
  unfolding step_a
  owned_clocks = (w.works.housed, w.own)

  pub clocks_owned : (table_of l1).own ≤ 8
  clocks_owned = subst (λ (u : Table). u.own ≤ 8) (sym a.table) owned_clocks.1

  pub clocks_owns : Works l1 → Owns l1
  clocks_owns k = record { works = k; own = clocks_owned }

  module _ {r : Bool} {l2 : List ℕ} (b : Made r l2 (step_b (message_of m).above (table_of l1))) where
    after : Made r l2 (step_b (message_of m).above with_clocks)
    after = made_is (ap (step_b (message_of m).above) a.table) b

    pub above_full : r ≡ false → {l3 : List ℕ} → Made false l3 (taken (message_of m) (table_of l))
    unfolding taken
    above_full e = made_full (past_first p.first (step_b p.above with_clocks) (made_past after e))

    module _ (e : r ≡ true) where
      there : Made true l2 (step_b (message_of m).above with_clocks)
      there = made_as e after

      owned : Owned (step_b (message_of m).above with_clocks)
      owned = owned_above p.above with_clocks owned_clocks

      pub above_works : Works l2
      above_works = made_works there owned.0

      pub above_owned : (table_of l2).own ≤ 8
      above_owned = subst (λ (u : Table). u.own ≤ 8) (sym (there.bytes refl).table) owned.1

      pub above_owns : Owns l2
      above_owns = record { works = above_works; own = above_owned }

      pub above_then : {s : Bool} {l3 : List ℕ} → Made s l3 (step_c (message_of m).first (table_of l2)) →
          Made s l3 (taken (message_of m) (table_of l))
      unfolding taken
      above_then k = made_is (ap (step_c p.first) (there.bytes refl).table) k
