-- Steps (d) and (e) of a receive, as the code takes them. Assumes nothing.
use Rattle.std.specs.Prelude.{◌≡◌, refl, Bool, true, false, cond, List, [], ◌∷◌, ◌++◌, ℕ, zero, suc, ◌+◌, ◌-◌, ◌≤◌, ◌<◌, eqb}
use Rattle.std.proofs.Math.Path.{ap}
use Rattle.std.proofs.Common.{sym, subst, ◌∙◌, arith, eqb-true, lt-ltb, le-ltb}
use Rattle.std.proofs.Math.Option.{Option, some, none}
use mathlib.Core.List.Memᴰ
use Rattle.std.proofs.lemmas.Bool.{eqb-false}
use Rattle.records.specs.declared.head.Head.{Head}
use Rattle.slots.specs.declared.replica.Replica.{Replica}
use Rattle.slots.specs.declared.listed.Listed.{Listed}
use Rattle.document.specs.Tables.{Table, find, slots_from, head_of, table_of}
use Rattle.document.specs.Steps.{joined, join_all, place_entry, strike, same_place, set_by, too_many}
use Rattle.document.specs.Messages.{message_of}
use Rattle.document.specs.Receive.{joined_in, set_if_made, set_above, set_if_taken, set_in}
use Rattle.document.specs.ReadingMessages.{head_in}
use Rattle.views.specs.Lists.{In}
use Rattle.views.specs.Joins.{join_all_same}
use Rattle.views.specs.Issues.{same_place_law, set_place, set_strike}
use Rattle.steps.specs.Standing.{Is}
use Rattle.steps.specs.Joining.{has_room}
use Rattle.steps.specs.States.{Held, Made, Places, many_all, Housed, made_past}
use Rattle.merge.specs.Working.{Works, AllHeld, made_works, made_none, made_full, made_is, join_made, housed_all, all_append}
use Rattle.merge.specs.Turns.{down, down_to, Down, down_start, down_turn, down_full, down_end, Joining}
use Rattle.merge.specs.Message.{heads_in, entries_in, listed_at, joined_are, above_are, first_is}

-- ---- joins one after the other

held_all : (es : List Listed) (t : Table) (d : ℕ) → Held t d → Held (join_all es t) d
held_all es t d (r, e) = (r, ap (λ (rs : List Replica). find d rs) (join_all_same es t).replicas ∙ e)

-- some first, the others then
module _ (xs ys : List Listed) (l : List ℕ) {l' : List ℕ} where
  -- no room for one of the first
  pub both_full : Made false l' (join_all xs (table_of l)) → {l2 : List ℕ} →
      Made false l2 (join_all (xs ++ ys) (table_of l))
  both_full m =
      made_full (ap too_many (all_append xs ys (table_of l)) ∙ many_all ys (join_all xs (table_of l)) (made_past m refl))

  module _ (m : Made true l' (join_all xs (table_of l))) where
    pub both_works : Works l → AllHeld (xs ++ ys) (table_of l) → Works l'
    both_works w h = made_works m (housed_all xs (table_of l) w.housed (λ e i. h e (Memᴰ.append_left ys i)))

    pub both_held : AllHeld (xs ++ ys) (table_of l) → AllHeld ys (table_of l')
    both_held h e i =
        subst (λ (u : Table). Held u e.directory) (sym (m.bytes refl).table)
        (held_all xs (table_of l) e.directory (h e (Memᴰ.append_right xs i)))

    pub both_then : {r : Bool} {l2 : List ℕ} → Made r l2 (join_all ys (table_of l')) →
        Made r l2 (join_all (xs ++ ys) (table_of l))
    both_then k = made_is (ap (join_all ys) (m.bytes refl).table ∙ sym (all_append xs ys (table_of l))) k

-- ---- (d)

module _ (m l : List ℕ) where
  -- the loop: what is left to join leads to the outcome
  abbrev pub Entering : ℕ → List ℕ → Type 0
  Entering i l' = Joining (listed_at m) (entries_in m) (join_all (joined_in (message_of m)) (table_of l)) i l'

  pub entering_start : Works l → AllHeld (joined_in (message_of m)) (table_of l) → Entering 0 l
  entering_start w h =
      let all : slots_from (listed_at m) 0 (entries_in m - 0) ≡ joined_in (message_of m) =
      ap (slots_from (listed_at m) 0) (omega arith) ∙ sym (joined_are m) in
      record {
        works = w;
        held = subst (λ (es : List Listed). AllHeld es (table_of l)) (sym all) h;
        leads = ap (λ (es : List Listed). join_all es (table_of l)) all;
      }

-- ---- (e), the heads above

-- the entry of an ancestor that was made: t is the table as it stood
abbrev pub setting : Table → Head → Table → Table
setting t h u = join_all (set_if_made (head_of t h.id) h) u

-- it was held
pub setting_held : {l : List ℕ} (t : Table) (h o : Head) → Works l → head_of t h.id ≡ some o →
    Made true l (setting t h (table_of l))
unfolding join_all
setting_held {l} t h o w e =
    made_is (ap (λ (q : Option Head). join_all (set_if_made q h) (table_of l)) (sym e)) (made_none w)

-- a place is set
place_made : {l l' : List ℕ} {r : Bool} (h : Head) (x : Listed) → Works l → Held (table_of l) h.directory →
    x ≡ place_entry h →
    r ≡ has_room x (table_of l) → (r ≡ true → Is l' (joined x (table_of l))) →
    Made r l' (join_all (set_by h none) (table_of l))
unfolding join_all set_by
place_made {l} h x w k i p q =
    made_is (ap (λ (z : Listed). joined z (table_of l)) i)
    (join_made x w (subst (λ (z : Listed). Held (table_of l) z.directory) (sym i) k) p q)

pub setting_made : {l l' : List ℕ} {r : Bool} (t : Table) (h : Head) (x : Listed) → Works l →
    AllHeld (set_if_made (head_of t h.id) h) (table_of l) → head_of t h.id ≡ none → x ≡ place_entry h →
    r ≡ has_room x (table_of l) → (r ≡ true → Is l' (joined x (table_of l))) → Made r l' (setting t h (table_of l))
setting_made {l} t h x w k e i p q =
    let set : AllHeld (set_by h none) (table_of l) =
    subst (λ (o : Option Head). AllHeld (set_if_made o h) (table_of l)) e k in
    made_is (ap (λ (o : Option Head). join_all (set_if_made o h) (table_of l)) (sym e))
    (place_made h x w (set (place_entry h) (set_place h none)) i p q)

above_down : (t : Table) (hs : List Head) (u : Table) → join_all (set_above t hs) u ≡ down (setting t) hs u
unfolding set_above down join_all
above_down t [] u = refl
above_down t (h ∷ hs) u =
    all_append (set_above t hs) (set_if_made (head_of t h.id) h) u ∙ ap (setting t h) (above_down t hs u)

-- those of one head are among those of all
above_in : (t : Table) (g : ℕ → Head) (s n j : ℕ) → s ≤ j → j < s + n → (e : Listed) →
    In e (set_if_made (head_of t (g j).id) (g j)) →
    In e (set_above t (slots_from g s n))
unfolding set_above slots_from
above_in t g s zero j low high e i = absurd (omega arith)
above_in t g s (suc n) j low high e i = go (eqb s j) refl (λ l. above_in t g (suc s) n j l (omega arith) e i)
  where
    go : (b : Bool) → eqb s j ≡ b → (suc s ≤ j → In e (set_above t (slots_from g (suc s) n))) →
        In e (set_above t (slots_from g (suc s) n) ++ set_if_made (head_of t (g s).id) (g s))
    go true q later =
        Memᴰ.append_right (set_above t (slots_from g (suc s) n))
        (subst (λ (k : ℕ). In e (set_if_made (head_of t (g k).id) (g k))) (sym (eqb-true s j q)) i)
    go false q later = let other = eqb-false s j q in Memᴰ.append_left _ (later (omega arith))

module _ (m : List ℕ) (old u : Table) where
  -- what each turn needs and keeps
  abbrev pub Ready : Table → Type 0
  Ready v =
      Housed v × ((j : ℕ) → 1 ≤ j → j < heads_in m → AllHeld (set_if_made (head_of old (head_in m j).id) (head_in m j)) v)

  pub keeps_setting : (j : ℕ) → 1 ≤ j → j < heads_in m → (v : Table) → Ready v → Ready (setting old (head_in m j) v)
  keeps_setting j low high v k =
      let es : List Listed = set_if_made (head_of old (head_in m j).id) (head_in m j) in (
        housed_all es v k.0 (k.1 j low high),
        λ i a b e c. held_all es v e.directory (k.1 i a b e c),
      )

  pub many_setting : (h : Head) (v : Table) → too_many v ≡ true → too_many (setting old h v) ≡ true
  many_setting h v = many_all (set_if_made (head_of old h.id) h) v

  -- the loop: the heads from j on are through
  abbrev pub Setting : ℕ → List ℕ → Type 0
  Setting j l = Down (setting old) (head_in m) (heads_in m) u Ready keeps_setting (λ v k. k.0) many_setting j l

  goal : down_to (setting old) (head_in m) (heads_in m) u 1 ≡ join_all (set_above old (message_of m).above) u
  goal = sym (ap (λ (hs : List Head). join_all (set_above old hs) u) (above_are m) ∙ above_down old _ u)

  pub setting_start : {l : List ℕ} → 1 ≤ heads_in m → Works l → table_of l ≡ u →
      AllHeld (set_above old (message_of m).above) u →
      Setting (heads_in m) l
  setting_start {l} low w e k =
      down_start (setting old) (head_in m) (heads_in m) u Ready _ _ _ low w e (
        w.housed,
        λ j a b x i. subst (λ (v : Table). Held v x.directory) (sym e)
            (k x (subst (λ (hs : List Head). In x (set_above old hs)) (sym (above_are m))
            (above_in old (head_in m) 1 (heads_in m - 1) j a (omega arith) x i))),
      )

  pub setting_turn : {l l' : List ℕ} (j : ℕ) → Setting j l → 1 < j → (h : Head) → h ≡ head_in m (j - 1) → (r : Bool) →
      Made r l' (setting old h (table_of l)) → r ≡ true → Setting (j - 1) l'
  setting_turn = down_turn (setting old) (head_in m) (heads_in m) u Ready _ _ _

  pub setting_full : {l l' : List ℕ} (j : ℕ) → Setting j l → 1 < j → (h : Head) → h ≡ head_in m (j - 1) → (r : Bool) →
      Made r l' (setting old h (table_of l)) → r ≡ false → {l2 : List ℕ} →
      Made false l2 (join_all (set_above old (message_of m).above) u)
  setting_full j d more h e r k full =
      made_is goal (down_full (setting old) (head_in m) (heads_in m) u Ready _ _ _ j d more h e r k full)

  pub setting_end : {l : List ℕ} (j : ℕ) → Setting j l → (1 < j → ⊥) →
      Made true l (join_all (set_above old (message_of m).above) u)
  setting_end j d last = made_is goal (down_end (setting old) (head_in m) (heads_in m) u Ready _ _ _ j d last)

  -- the head of this turn
  pub setting_held_now : {l : List ℕ} (j : ℕ) → Setting j l → 1 < j → (h : Head) → h ≡ head_in m (j - 1) →
      AllHeld (set_if_made (head_of old h.id) h) (table_of l)
  setting_held_now {l} j d more h e =
      subst (λ (x : Head). AllHeld (set_if_made (head_of old x.id) x) (table_of l)) (sym e)
      (d.also.1 (j - 1) (omega arith) (omega (arith, d.high)))

-- ---- (e), the pushed replica

module _ (old : Table) (h : Head) {l : List ℕ} (w : Works l)
    (k : AllHeld (set_if_taken (head_of old h.id) h) (table_of l)) where
  abbrev pub setting_first : Table
  setting_first = join_all (set_if_taken (head_of old h.id) h) (table_of l)

  -- it was not held
  pub first_made : {l' : List ℕ} {r : Bool} (x : Listed) → head_of old h.id ≡ none → x ≡ place_entry h →
      r ≡ has_room x (table_of l) → (r ≡ true → Is l' (joined x (table_of l))) → Made r l' setting_first
  first_made x e i p q =
      let set : AllHeld (set_by h none) (table_of l) =
      subst (λ (o : Option Head). AllHeld (set_if_taken o h) (table_of l)) e k in
      made_is (ap (λ (o : Option Head). join_all (set_if_taken o h) (table_of l)) (sym e))
      (place_made h x w (set (place_entry h) (set_place h none)) i p q)

  module _ (o : Head) (e : head_of old h.id ≡ some o) where
    -- its state was taken
    module _ (less : o.stamp < h.stamp) where
      sets : set_if_taken (head_of old h.id) h ≡ set_by h (some o)
      sets =
          ap (λ (q : Option Head). set_if_taken q h) e
          ∙ ap (λ (b : Bool). cond b (set_by h (some o)) []) (lt-ltb o.stamp h.stamp less)

      set : AllHeld (set_by h (some o)) (table_of l)
      set = subst (λ (es : List Listed). AllHeld es (table_of l)) sets k

      pub first_places : Places l h o
      first_places =
          record { stands = w.stands; room = w.room; place = place; last = last (same_place h o) refl }
        where
          place : Held (table_of l) h.directory
          place = set (place_entry h) (set_place h (some o))

          last : (b : Bool) → same_place h o ≡ b → Held (table_of l) o.directory
          last true q = subst (Held (table_of l)) (same_place_law h o q).0 place
          last false q = set (strike h o) (set_strike h o q)

      pub first_taken : {l' : List ℕ} {r : Bool} → Made r l' (join_all (set_by h (some o)) (table_of l)) →
          Made r l' setting_first
      first_taken m = made_is (ap (λ (es : List Listed). join_all es (table_of l)) (sym sets)) m

    -- it was not
    pub first_kept : h.stamp ≤ o.stamp → Made true l setting_first
    unfolding join_all
    first_kept le =
        made_is (ap (λ (b : Bool). join_all (cond b (set_by h (some o)) []) (table_of l))
        (sym (le-ltb o.stamp h.stamp le))
        ∙ ap (λ (q : Option Head). join_all (set_if_taken q h) (table_of l)) (sym e)) (made_none w)

-- once the heads above are through
module _ (m : List ℕ) (old : Table) (l : List ℕ) {l' : List ℕ}
    (k : Made true l' (join_all (set_above old (message_of m).above) (table_of l)))
    (h : Head) (e : h ≡ head_in m 0) where
  is : set_if_taken (head_of old (message_of m).first.id) (message_of m).first ≡ set_if_taken (head_of old h.id) h
  is = ap (λ (x : Head). set_if_taken (head_of old x.id) x) (first_is m ∙ sym e)

  pub first_held : AllHeld (set_in old (message_of m)) (table_of l) →
      AllHeld (set_if_taken (head_of old h.id) h) (table_of l')
  first_held a =
      subst (λ (es : List Listed). AllHeld es (table_of l')) is (both_held (set_above old (message_of m).above) _ l k a)

  pub first_then : {r : Bool} {l2 : List ℕ} → Made r l2 (join_all (set_if_taken (head_of old h.id) h) (table_of l')) →
      Made r l2 (join_all (set_in old (message_of m)) (table_of l))
  first_then d =
      both_then (set_above old (message_of m).above) _ l k
      (made_is (ap (λ (es : List Listed). join_all es (table_of l')) (sym is)) d)
