-- Steps (d) and (e) of a receive: the entries of the message, and those that each state made or taken sets, are joined.
-- Each stands in a directory that is held and less than 16 deep; and since none is at odds (line 13), each live replica
-- then has an entry at its place again. Assumes nothing.
use Rattle.std.specs.Prelude.{◌≡◌, refl, ◌⊎◌, Bool, ◌||◌, cond, List, [], ◌∷◌, ℕ, ◌^◌, ◌≤◌, ◌<◌, ltb}
use Rattle.std.proofs.Math.Path.{ap}
use Rattle.std.proofs.Common.{sym, subst, ◌∙◌, inl, inr, arith, ltb-true}
use Rattle.std.proofs.Math.Bool.{true, false}
use Rattle.std.proofs.Math.Option.{Option, some, none}
use mathlib.Core.List.Memᴰ
use Rattle.std.proofs.Math.Dec.{eqb}
use Rattle.std.proofs.lemmas.Bool.{eqb-false}
use Rattle.codec.specs.Lists.{and_both}
use Rattle.numbers.specs.Nodes.{join}
use Rattle.numbers.specs.Ids.{is_made, is_id, clock_of}
use Rattle.records.specs.declared.head.Head.{Head}
use Rattle.records.specs.declared.entry.Entry.{Entry}
use Rattle.records.specs.Heads.{head_fits}
use Rattle.records.specs.Ordinary.{Ordinary, ordinary_is, root_fits}
use Rattle.slots.specs.declared.replica.Replica.{Replica}
use Rattle.slots.specs.declared.listed.Listed.{Listed}
use Rattle.document.specs.Tables.{Table, find, head_of?, head_of, find_entry}
use Rattle.document.specs.Sound.{is_directory, is_live}
use Rattle.document.specs.Steps.{put, place_entry, strike, same_place, set_by, joined, join_all, with_holders}
use Rattle.document.specs.Messages.{Push}
use Rattle.document.specs.Receive.{stamps_of, step_a, step_c, taken, merged, listed_in, joined_in, set_above, set_if_taken, set_in, joins}
use Rattle.views.specs.Lists.{In, not_none}
use Rattle.views.specs.Puts.{put_cases, put_here, head_id}
use Rattle.views.specs.Joins.{join_all_after, join_all_same}
use Rattle.views.specs.Issues.{set_place, set_cases}
use Rattle.views.specs.Takes.{merged_id}
use Rattle.views.specs.Sounds.{Place, Parent, Entered, Shown, root_held, root_only}
use Rattle.kept.specs.MessageFacts.{Chain, HeadAgrees, MessageSays, TableAgrees}
use Rattle.kept.specs.Firm.{Base, NewEntry, base_join, place_parent}
use Rattle.kept.specs.Ranges.{place_fits, strike_fits}
use Rattle.kept.specs.Rules.{parent_same, place_put, entered_after}
use Rattle.kept.specs.ReceiveRanges.{depth_most}
use Rattle.kept.specs.ReceiveAbove.{highest_least, base_A, steady_B, seen_head, seen_entry, Made, above_cases, above_places}
use Rattle.kept.specs.ReceiveStands.{same_in, Stands, joins_stand, entered_stands, entered_holders, set_above_cases, set_above_in}
use Rattle.kept.specs.ReceiveFirst.{with_above, after_B, after_C, fit_above, first_B, place_first, good_merged}

-- ---- entries that may be joined

-- a replica's entry at its place, and a strike at an old one
fine_place : (u : Table) (h : Head) → (u.highest < 2 ^ 40 → Ordinary u.nodes h) → h.depth ≤ 16 → (h.id ≡ 0 → ⊥) →
    Place u h → clock_of h.stamp ≤ u.highest → NewEntry (place_entry h) u
fine_place u h o deep z p c =
    record { fit = λ l. place_fits u.nodes h (o l); parent = place_parent u h p deep; child = z; clock = c }

fine_strike : (u : Table) (h old : Head) → (u.highest < 2 ^ 40 → Ordinary u.nodes h × Ordinary u.nodes old) →
    old.depth ≤ 16 → (h.id ≡ 0 → ⊥) → Place u old → clock_of h.stamp ≤ u.highest → NewEntry (strike h old) u
fine_strike u h old o deep z p c =
    record {
      fit = λ l. strike_fits u.nodes h old (o l).0 (o l).1;
      parent = place_parent u old p deep;
      child = z;
      clock = c;
    }

pub base_joins : (es : List Listed) (t : Table) → Base t → ((e : Listed) → In e es → NewEntry e t) → Base (join_all es t)
unfolding join_all
base_joins [] t b f = b
base_joins (e ∷ es) t b f =
    base_joins es (joined e t) (base_join e t b (f e (Memᴰ.head refl))) (λ x m. later x (f x (Memᴰ.tail m)))
  where
    later : (x : Listed) → NewEntry x t → NewEntry x (joined e t)
    later x g =
        record {
          fit = g.fit;
          parent = parent_same t (joined e t) x.directory refl g.parent;
          child = g.child;
          clock = g.clock;
        }

-- ---- a receive up to (e)

module _ (p : Push) (t : Table) (b : Base t) (m : MessageSays t.nodes p) (a : TableAgrees p t) where
  abbrev F : Head
  F = p.first

  abbrev A : Table
  A = step_a p t

  abbrev B : Table
  B = with_above p t

  abbrev C : Table
  C = taken p t

  -- after (d) and (e)
  abbrev pub E : Table
  E = join_all (joins p t) (taken p t)

  nodes_C : C.nodes ≡ t.nodes
  unfolding taken step_c step_a
  nodes_C = (steady_B p.above A).nodes

  highest_C : C.highest ≡ (step_a p t).highest
  unfolding taken step_c
  highest_C = (steady_B p.above A).highest

  entries_C : C.entries ≡ t.entries
  unfolding taken step_c step_a
  entries_C = (steady_B p.above A).entries

  place_C : (x : Head) → Place B x → Place C x
  unfolding taken step_c
  place_C x u = place_put _ B (good_merged p t b m a (head_of B F.id) refl).stays x u

  -- the pushed replica: as made, as taken, or as it was
  pub first_id : (merged (head_of t F.id) F B).id ≡ F.id
  first_id = merged_id (head_of t F.id) F B (head_id F.id t.replicas)

  pub first_C : head_of C F.id ≡ some (merged (head_of t F.id) F B)
  unfolding taken step_c
  first_C =
      let h = merged (head_of t F.id) F B in
      ap (λ (o : Option Head). head_of (put (merged o F B) B) F.id) (first_B p t b m a)
      ∙ put_here h B.replicas F.id (sym first_id)

  -- what is made or taken is not the root
  nonroot_made : head_of t F.id ≡ none → F.id ≡ 0 → ⊥
  nonroot_made e z = not_none (sym e ∙ ap (λ (k : ℕ). head_of t k) z ∙ root_held t b.root_first_law)

  nonroot_taken : (o : Head) → head_of t F.id ≡ some o → o.stamp < F.stamp → F.id ≡ 0 → ⊥
  nonroot_taken o e l z =
      let r = root_only t b.root_first_law F.id o e (head_id F.id t.replicas o e ∙ z) in
      let s = root_fits t.nodes F m.first.fits z in
      omega (arith, ap (λ (h : Head). h.stamp) r, ap (λ (h : Head). h.stamp) s)

  clock_C : (h : Head) → In h (p.first ∷ p.above) → clock_of h.stamp ≤ C.highest
  clock_C h i = omega (arith, seen_head p t h i, highest_C)

  ordinary_C : (h : Head) → head_fits t.nodes h ≡ true → (h.id ≡ 0 → ⊥) → Ordinary C.nodes h
  ordinary_C h f z = ordinary_is C.nodes h z (rw nodes_C f)

  -- the pushed directory may have entries
  parent_first : is_directory F ≡ true → F.depth < 16 → Parent C F.id
  parent_first d s = go (head_of t F.id) refl
    where
      of : (h : Head) → head_of C F.id ≡ some h → is_directory h ≡ true → h.depth < 16 → Parent C F.id
      of h e k l = record { head = h; held = e; directory = k; shallow = l }

      go : (o : Option Head) → head_of t F.id ≡ o → Parent C F.id
      go none e = of (merged none F B) (first_C ∙ ap (λ (o : Option Head). some (merged o F B)) e) d s
      go (some o) e = on (ltb o.stamp F.stamp) refl
        where
          g : HeadAgrees F o
          g = a.held F (Memᴰ.head refl) o e

          k : is_directory o ≡ true
          k = ap (λ (x : ℕ). eqb x 2) g.kind ∙ d

          is : head_of C F.id ≡ some (merged (some o) F B)
          is = first_C ∙ ap (λ (o : Option Head). some (merged o F B)) e

          on : (x : Bool) → ltb o.stamp F.stamp ≡ x → Parent C F.id
          on true l = of (merged (some o) F B) is (rw l d) (rw l s)
          on false l = of (merged (some o) F B) is (rw l k) (rw l (omega (arith, g.depth k)))

  fine_entry : (e : Entry) → In e p.entries → NewEntry (listed_in F.id e) C
  unfolding is_id
  fine_entry e i =
      let s = m.entries e i in
      record {
        fit = λ l. rw nodes_C (and_both s.fits (first_id (eqb F.id 0) refl));
        parent = parent_first s.directory s.depth;
        child = s.child;
        clock = omega (arith, seen_entry p t e i, highest_C);
      }
    where
      first_id : (x : Bool) → eqb F.id 0 ≡ x → (eqb F.id 0 || is_made t.nodes F.id) ≡ true
      first_id true q = rw q
      first_id false q = rw q (ordinary_is t.nodes F (eqb-false F.id 0 q) m.first.fits).made

  nonroot_above : (h : Head) → In h p.above → F.id ≡ 0 → ⊥
  nonroot_above h i z = let n : In h [] = subst (λ (l : List Head). In h l) (m.root z).1 i in elim n [ ]

  fine_above : (h : Head) → In h p.above → NewEntry (place_entry h) C
  fine_above h i =
      let f = fit_above p t b m a h i in
      let o = ordinary_C h (m.heads h i).fits f.nonroot in
      fine_place C h (λ l. o) (depth_most C.nodes h o) f.nonroot
      (place_C h (places (m.chain (nonroot_above h i)) h i)) (clock_C h (Memᴰ.tail i))
    where
      places : Chain F p.above → (x : Head) → In x p.above → Place B x
      places = above_places p.above A (base_A p t b) (fit_above p t b m a) F

  fine_first : (F.id ≡ 0 → ⊥) → NewEntry (place_entry F) C
  fine_first z =
      let o = ordinary_C F m.first.fits z in
      fine_place C F (λ l. o) (depth_most C.nodes F o) z (place_C F (place_first p t b m a z))
      (clock_C F (Memᴰ.head refl))

  -- the table's clock is not above
  before : C.highest < 2 ^ 40 → t.highest < 2 ^ 40
  unfolding step_a
  before l = omega (arith, highest_C, highest_least (stamps_of p) t.highest)

  fine_old : (F.id ≡ 0 → ⊥) → (o : Head) → head_of t F.id ≡ some o → NewEntry (strike F o) C
  fine_old z o e =
      let y : o.id ≡ 0 → ⊥ = λ q. z (sym (head_id F.id t.replicas o e) ∙ q) in
      let held = (after_B p t b m a).placed F.id o (first_B p t b m a ∙ e) y in
      fine_strike C F o (λ l. (ordinary_C F m.first.fits z, ordinary_C o (b.heads_fit (before l) F.id o e) y))
      (b.depths_fit F.id o e) z (place_C o held) (clock_C F (Memᴰ.head refl))

  fine_set : (e : Listed) → (o : Option Head) → head_of t F.id ≡ o → (F.id ≡ 0 → ⊥) → In e (set_by F o) → NewEntry e C
  fine_set e o q z i = go (set_cases F o e i)
    where
      go : (e ≡ place_entry F) ⊎ ((old : Head) × (o ≡ some old) × (same_place F old ≡ false) × (e ≡ strike F old)) →
          NewEntry e C
      go (inl r) = subst (λ (x : Listed). NewEntry x C) (sym r) (fine_first z)
      go (inr r) = subst (λ (x : Listed). NewEntry x C) (sym r.3) (fine_old z r.0 (q ∙ r.1))

  fine_taken : (e : Listed) → (o : Option Head) → head_of t F.id ≡ o → In e (set_if_taken o F) → NewEntry e C
  fine_taken e none q i = fine_set e none q (nonroot_made q) i
  fine_taken e (some o) q i = go (ltb o.stamp F.stamp) refl i
    where
      go : (x : Bool) → ltb o.stamp F.stamp ≡ x → In e (cond x (set_by F (some o)) []) → NewEntry e C
      go true l j = fine_set e (some o) q (nonroot_taken o q (ltb-true o.stamp F.stamp l)) j
      go false l j = elim j [ ]

  pub fine_joins : (e : Listed) → In e (joins p t) → NewEntry e C
  fine_joins e i = go (Memᴰ.append_cases (joined_in p) i)
    where
      set : In e (set_above t p.above) ⊎ In e (set_if_taken (head_of t F.id) F) → NewEntry e C
      set (inl j) =
          let r = set_above_cases t p.above e j in
          subst (λ (x : Listed). NewEntry x C) (sym r.2) (fine_above r.0 r.1)
      set (inr j) = fine_taken e (head_of t F.id) refl j

      go : In e (joined_in p) ⊎ In e (set_in t p) → NewEntry e C
      go (inl j) =
          let r = Memᴰ.of_map (listed_in F.id) p.entries j in
          subst (λ (x : Listed). NewEntry x C) r.2 (fine_entry r.0 r.1)
      go (inr j) = set (Memᴰ.append_cases (set_above t p.above) j)

  pub after_E : Base E
  after_E = base_joins (joins p t) C (after_C p t b m a) fine_joins

  -- ---- an entry at each place

  -- what is set in (e) stands there
  stands_set : (e : Listed) → In e (set_in t p) → Stands e (same_in e E.entries)
  stands_set e i = joins_stand (joins p t) C a.joins e (Memᴰ.append_right (joined_in p) i)

  set_made : (h : Head) → In h p.above → head_of t h.id ≡ none → is_live h ≡ true → Entered E h
  set_made h i e l =
      entered_stands E h l (stands_set (place_entry h) (Memᴰ.append_left _ (set_above_in t p.above h i e)))

  set_first : (o : Option Head) → head_of t F.id ≡ o → In (place_entry F) (set_if_taken o F) → is_live F ≡ true →
      Entered E F
  set_first o e i l =
      let j = subst (λ (q : Option Head). In (place_entry F) (set_if_taken q F)) (sym e) i in
      entered_stands E F l (stands_set (place_entry F) (Memᴰ.append_right (set_above t p.above) j))

  -- what stood there before stays, or something newer does
  set_before : (h : Head) → Entered t h → Entered E h
  set_before h n =
      entered_after t E h n (λ z q. join_all_after (joins p t) C h.directory h.id h.name z
      (ap (find_entry h.directory h.id h.name) entries_C ∙ q))

  module _ (shown : Shown t) where
    shown_first : (o : Option Head) → head_of t F.id ≡ o → (F.id ≡ 0 → ⊥) → is_live (merged o F B) ≡ true →
        Entered E (merged o F B)
    shown_first none e z l = entered_holders E F _ (set_first none e (set_place F none) l)
    shown_first (some o) e z l = go (ltb o.stamp F.stamp) refl l
      where
        y : o.id ≡ 0 → ⊥
        y q = z (sym (head_id F.id t.replicas o e) ∙ q)

        go : (x : Bool) → ltb o.stamp F.stamp ≡ x → is_live (cond x F o) ≡ true →
            Entered E (with_holders (cond x F o) (join o.holders F.holders))
        go true s k =
            let set : Bool → Type 0 = λ x. In (place_entry F) (cond x (set_by F (some o)) []) in
            entered_holders E F _ (set_first (some o) e (subst set (sym s) (set_place F (some o))) k)
        go false s k = entered_holders E o _ (set_before o (shown F.id o e y k))

    pub shown_E : Shown E
    unfolding taken step_c step_a
    shown_E f x e z l = go (put_cases h B.replicas f x (replicas ∙ e))
      where
        h : Head
        h = merged (head_of B F.id) F B

        replicas : head_of C f ≡ head_of E f
        replicas = ap (λ (r : List Replica). head_of? (find f r)) (sym (join_all_same (joins p t) C).replicas)

        same : h ≡ merged (head_of t F.id) F B
        same = ap (λ (o : Option Head). merged o F B) (first_B p t b m a)

        pushed : x ≡ merged (head_of t F.id) F B → Entered E x
        pushed q =
            let y : F.id ≡ 0 → ⊥ = λ k. z (ap (λ (v : Head). v.id) q ∙ first_id ∙ k) in
            subst (Entered E) (sym q) (shown_first (head_of t F.id) refl y (ap is_live (sym q) ∙ l))

        other : (head_of t f ≡ some x) ⊎ Made A p.above x → Entered E x
        other (inl q) = set_before x (shown f x q z l)
        other (inr k) =
            subst (Entered E) (sym k.is)
            (entered_holders E k.head _ (set_made k.head k.named k.absent (ap is_live (sym k.is) ∙ l)))

        go : ((f ≡ h.id) × (x ≡ h)) ⊎ ((f ≡ h.id → ⊥) × (head_of B f ≡ some x)) → Entered E x
        go (inl (k, q)) = pushed (q ∙ same)
        go (inr (k, q)) = other (above_cases p.above A f x q)
