-- A new state keeps the rules of a sound table, each for itself: `issue` as a whole, for whatever head is made with the
-- new stamp. What a rule asks of that head is a premise of its law. Assumes nothing.
use Rattle.std.specs.Prelude.{◌≡◌, refl, ◌⊎◌, true, false, cond, ℕ, ◌≤◌, ◌<◌}
use Rattle.std.proofs.Common.{ap, sym, ◌∙◌, inl, inr, arith}
use Rattle.std.proofs.Math.Path.{subst}
use Rattle.std.proofs.Math.Option.{Option, some, none}
use mathlib.Core.List.{List, [], ◌∷◌}
use Rattle.numbers.specs.Nodes.{has}
use Rattle.numbers.specs.Ids.{maker, count, clock_of}
use Rattle.records.specs.declared.head.Head.{Head}
use Rattle.records.specs.Heads.{head_fits}
use Rattle.records.specs.Ordinary.{Ordinary}
use Rattle.slots.specs.declared.replica.Replica.{Replica}
use Rattle.slots.specs.declared.listed.Listed.{Listed}
use Rattle.document.specs.Tables.{Table, with_highest, find, head_of?, head_of, listed_fits}
use Rattle.document.specs.Sound.{is_live, root_first, root_in, maker_holds}
use Rattle.document.specs.Steps.{clock_at, stamp_at, joined, join_all, put, place_entry, strike, set_by, same_place, issue, is_dead}
use Rattle.views.specs.Lists.{In}
use Rattle.views.specs.Joins.{join_all_after, entry_in}
use Rattle.views.specs.Issues.{made, set_cases, set_child, set_stamp, stamp_above, clock_above, issue_own, issue_nodes, issue_next, issue_highest, issue_replicas, issue_cases, issue_in, issue_after}
use Rattle.views.specs.Sounds.{Place, Entered, Parent, Heads, Entries, HeadsFit, EntriesFit, MakersHold, OwnHolds, OwnBelowNext, Placed, LivePlaces, Shown, HeadClocks, Parents, NoRootChild, EntryClocks}
use Rattle.kept.specs.Ranges.{place_fits, strike_fits}
use Rattle.kept.specs.Rules.{StaysDirectory, UnderLive, OverDead, put_placed, put_live_places, put_root, parent_put, place_same, parent_same, entered_after, entered_new, NotAtOdds}

-- the entries that a state sets begin with that of its place
set_first : (h : Head) (o : Option Head) → (rest : List Listed) × (set_by h o ≡ place_entry h ∷ rest)
unfolding set_by
set_first h none = ([], refl)
set_first h (some old) = (cond (same_place h old) [] (strike h old ∷ []), refl)

module _ (now : ℕ) (f : ℕ → Head) (t : Table) where
  abbrev h : Head
  h = made now f t

  -- a rule on heads alone
  pub issue_heads : (P : Head → Type 0) → P (made now f t) → Heads t P → Heads (issue now f t) P
  issue_heads P p q g x e = go (issue_cases now f t g x e)
    where
      go : ((g ≡ h.id) × (x ≡ h)) ⊎ ((g ≡ h.id → ⊥) × (head_of t g ≡ some x)) → P x
      go (inl (a, b)) = subst P (sym b) p
      go (inr (ne, o)) = q g x o

  pub issue_heads_fit : head_fits t.nodes (made now f t) ≡ true → HeadsFit t → HeadsFit (issue now f t)
  issue_heads_fit p q g x e =
      ap (λ (n : ℕ). head_fits n x) (issue_nodes now f t) ∙ issue_heads (λ y. head_fits t.nodes y ≡ true) p q g x e

  pub issue_makers : maker_holds (made now f t) ≡ true → MakersHold t → MakersHold (issue now f t)
  issue_makers = issue_heads (λ y. maker_holds y ≡ true)

  pub issue_own_holds : has (made now f t).holders t.own ≡ true → OwnHolds t → OwnHolds (issue now f t)
  issue_own_holds p q g x e =
      ap (λ (n : ℕ). has x.holders n) (issue_own now f t)
      ∙ issue_heads (λ y. has y.holders t.own ≡ true) p q g x e

  pub issue_own_below : (maker (made now f t).id ≡ t.own → count (made now f t).id < t.next) → OwnBelowNext t →
      OwnBelowNext (issue now f t)
  issue_own_below p q g x e m =
      subst (λ (n : ℕ). count x.id < n) (sym (issue_next now f t))
      (issue_heads (λ y. maker y.id ≡ t.own → count y.id < t.next) p q g x e (m ∙ issue_own now f t))

  pub issue_head_clocks : clock_of (made now f t).stamp ≤ clock_at now t → HeadClocks t → HeadClocks (issue now f t)
  issue_head_clocks p q g x e =
      subst (λ (n : ℕ). clock_of x.stamp ≤ n) (sym (issue_highest now f t))
      (issue_heads (λ y. clock_of y.stamp ≤ clock_at now t) p
      (λ k y o. omega (arith, q k y o, clock_above now t)) g x e)

  pub issue_placed : StaysDirectory t (made now f t) → (((made now f t).id ≡ 0 → ⊥) → Place t (made now f t)) → Placed t →
      Placed (issue now f t)
  issue_placed s p q g x e z =
      place_same (put h t) (issue now f t) x
      (ap (λ (l : List Replica). head_of? (find x.directory l)) (issue_replicas now f t))
      (put_placed h t s p q g x (ap (λ (l : List Replica). head_of? (find g l)) (sym (issue_replicas now f t)) ∙ e) z)

  pub issue_live_places : UnderLive t (made now f t) → OverDead t (made now f t) → LivePlaces t →
      LivePlaces (issue now f t)
  issue_live_places up down l g x e z live =
      ap (λ (k : List Replica). is_dead (head_of? (find x.directory k))) (issue_replicas now f t)
      ∙ put_live_places h t up down l g x
      (ap (λ (k : List Replica). head_of? (find g k)) (sym (issue_replicas now f t)) ∙ e) z live

  pub issue_root : ((made now f t).id ≡ 0 → ⊥) → root_first t ≡ true → root_first (issue now f t) ≡ true
  issue_root z e =
      ap (λ (n : ℕ). root_in n (issue now f t).replicas) (issue_nodes now f t)
      ∙ ap (root_in t.nodes) (issue_replicas now f t) ∙ put_root h t (λ o. absurd (z o)) e

  -- a directory stays one
  pub issue_parent : StaysDirectory t (made now f t) → (d : ℕ) → Parent t d → Parent (issue now f t) d
  issue_parent s d p =
      parent_same (put h t) (issue now f t) d (ap (λ (l : List Replica). head_of? (find d l)) (issue_replicas now f t))
      (parent_put h t s d p)

  -- a rule on entries alone, given for each that is set
  pub issue_listed : (P : Listed → Type 0) →
      ((e : Listed) → In e (set_by (made now f t) (head_of t (made now f t).id)) → P e) →
      Entries t P → Entries (issue now f t) P
  issue_listed P p q x m = go (issue_in now f t x m)
    where
      go : In x (set_by h (head_of t h.id)) ⊎ In x t.entries → P x
      go (inl i) = p x i
      go (inr i) = q x i

  pub issue_no_root_child : ((made now f t).id ≡ 0 → ⊥) → NoRootChild t → NoRootChild (issue now f t)
  issue_no_root_child z =
      issue_listed (λ x. x.entry.child ≡ 0 → ⊥) (λ e m c. z (sym (set_child h (head_of t h.id) e m) ∙ c))

  pub issue_entry_clocks : clock_of (made now f t).stamp ≤ clock_at now t → EntryClocks t → EntryClocks (issue now f t)
  issue_entry_clocks p q x m =
      subst (λ (n : ℕ). clock_of x.entry.stamp ≤ n) (sym (issue_highest now f t))
      (issue_listed (λ y. clock_of y.entry.stamp ≤ clock_at now t)
      (λ e i. subst (λ (n : ℕ). clock_of n ≤ clock_at now t) (sym (set_stamp h (head_of t h.id) e i)) p)
      (λ y i. omega (arith, q y i, clock_above now t)) x m)

  -- the directories of the new place and of the old one
  pub issue_parents : StaysDirectory t (made now f t) → Parent t (made now f t).directory →
      ((old : Head) → head_of t (made now f t).id ≡ some old → Parent t old.directory) → Parents t →
      Parents (issue now f t)
  issue_parents s p o q x m =
      issue_parent s x.directory (issue_listed (λ y. Parent t y.directory) set q x m)
    where
      set : (e : Listed) → In e (set_by h (head_of t h.id)) → Parent t e.directory
      set e i = go (set_cases h (head_of t h.id) e i)
        where
          go : (e ≡ place_entry h)
              ⊎ ((old : Head) × (head_of t h.id ≡ some old) × (same_place h old ≡ false) × (e ≡ strike h old)) →
              Parent t e.directory
          go (inl a) = subst (λ (y : Listed). Parent t y.directory) (sym a) p
          go (inr (old, a, b, c)) = subst (λ (y : Listed). Parent t y.directory) (sym c) (o old a)

  pub issue_entries_fit : Ordinary t.nodes (made now f t) →
      ((old : Head) → head_of t (made now f t).id ≡ some old → Ordinary t.nodes old) → EntriesFit t →
      EntriesFit (issue now f t)
  issue_entries_fit p o q x m =
      ap (λ (n : ℕ). listed_fits n x) (issue_nodes now f t) ∙ issue_listed (λ y. listed_fits t.nodes y ≡ true) set q x m
    where
      set : (e : Listed) → In e (set_by h (head_of t h.id)) → listed_fits t.nodes e ≡ true
      set e i = go (set_cases h (head_of t h.id) e i)
        where
          go : (e ≡ place_entry h)
              ⊎ ((old : Head) × (head_of t h.id ≡ some old) × (same_place h old ≡ false) × (e ≡ strike h old)) →
              listed_fits t.nodes e ≡ true
          go (inl a) = ap (listed_fits t.nodes) a ∙ place_fits t.nodes h p
          go (inr (old, a, b, c)) = ap (listed_fits t.nodes) c ∙ strike_fits t.nodes h old p (o old a)

  -- the new state has its entry, and the others keep theirs
  pub issue_entered_new : is_live (made now f t) ≡ true → (made now f t).stamp ≡ stamp_at now t → EntryClocks t →
      Entered (issue now f t) (made now f t)
  unfolding issue join_all
  issue_entered_new l s c =
      let b : Table = put h (with_highest t (clock_at now t)) in
      let first = set_first h (head_of t h.id) in
      subst (λ (es : List Listed). Entered (join_all es b) h) (sym first.1)
      (after b first.0 (entered_new h b l none_equal))
    where
      none_equal : NotAtOdds (put h (with_highest t (clock_at now t))) h
      none_equal z e q =
          let there = entry_in h.directory h.id h.name t.entries z e in
          absurd (omega (arith, q, s, stamp_above now t z.entry.stamp (c z there)))

      after : (b : Table) (rest : List Listed) → Entered (joined (place_entry h) b) h →
          Entered (join_all (place_entry h ∷ rest) b) h
      after b rest n =
          entered_after (joined (place_entry h) b) (join_all rest (joined (place_entry h) b)) h n
          (λ z p. join_all_after rest (joined (place_entry h) b) h.directory h.id h.name z p)

  pub issue_entered : (x : Head) → Entered t x → Entered (issue now f t) x
  issue_entered x n =
      entered_after t (issue now f t) x n (λ z p. issue_after now f t x.directory x.id x.name z p)

  pub issue_shown : (made now f t).stamp ≡ stamp_at now t → EntryClocks t → Shown t → Shown (issue now f t)
  issue_shown s c q g x e z l = go (issue_cases now f t g x e)
    where
      go : ((g ≡ h.id) × (x ≡ h)) ⊎ ((g ≡ h.id → ⊥) × (head_of t g ≡ some x)) → Entered (issue now f t) x
      go (inl (a, b)) =
          subst (λ (y : Head). Entered (issue now f t) y) (sym b) (issue_entered_new (ap is_live (sym b) ∙ l) s c)
      go (inr (ne, o)) = issue_entered x (q g x o z l)
