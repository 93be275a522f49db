-- Joins that are not at odds (line 13): what then stands where one was joined has no lesser stamp, and its flag if the
-- stamp is the same. So each live replica that sets its entry has one at its place. And the entries that step (e) of a
-- receive sets. Assumes nothing.
use Rattle.std.specs.Prelude.{◌≡◌, refl, ◌⊎◌, true, false, List, [], ◌∷◌, ◌++◌, ℕ, ◌≤◌, ◌<◌, eqb}
use Rattle.std.proofs.Common.{ap, sym, subst, ◌∙◌, inl, inr, arith, eqb-true, eq-eqb}
use Rattle.std.proofs.Math.Option.{Option, some, none}
use mathlib.Core.List.Memᴰ
use Rattle.std.proofs.lemmas.Bool.{not-false}
use Rattle.records.specs.declared.head.Head.{Head}
use Rattle.slots.specs.declared.listed.Listed.{Listed}
use Rattle.document.specs.Tables.{Table, head_of, find_entry, entry_of?}
use Rattle.document.specs.Sound.{is_live}
use Rattle.document.specs.Steps.{place_entry, set_by, join_into, joined, join_all, at_odds, odd_join, odd_all, with_holders}
use Rattle.document.specs.Receive.{set_if_made, set_above}
use Rattle.views.specs.Lists.{In, or_false_both}
use Rattle.views.specs.Joins.{join_on, find_join_same, join_on_cases, After, join_all_after}
use Rattle.views.specs.Issues.{set_place}
use Rattle.views.specs.Sounds.{Entered}
use Rattle.kept.specs.MessageFacts.{and_false}

-- what the key of an entry finds
abbrev pub same_in : Listed → List Listed → Option Listed
same_in e l = find_entry e.directory e.entry.child e.entry.name l

-- ---- what stands where an entry was joined that is not at odds

pub record Stands (e : Listed) (o : Option Listed) : Type 0 where
  pub entry : Listed
  pub is : o ≡ some entry
  pub stamp : e.entry.stamp ≤ entry.entry.stamp
  pub live : e.entry.stamp ≡ entry.entry.stamp → entry.entry.live ≡ e.entry.live

stands_join : (e : Listed) (t : Table) → odd_join e t ≡ false →
    Stands e (same_in e (join_into e t.entries))
stands_join e t even = go (join_on_cases e old)
  where
    old : Option Listed
    old = same_in e t.entries

    same : at_odds e (some (join_on e old).entry) ≡ false → (join_on e old).entry.stamp ≡ e.entry.stamp →
        (join_on e old).entry.live ≡ e.entry.live
    same odd z =
        eqb-true _ _ (not-false _ (and_false _ _ odd (eq-eqb (join_on e old).entry.stamp e.entry.stamp z)))

    go : (join_on e old ≡ e) ⊎ ((old ≡ some (join_on e old)) × (e.entry.stamp ≤ (join_on e old).entry.stamp)) →
        Stands e (same_in e (join_into e t.entries))
    go (inl q) =
        record {
          entry = join_on e old;
          is = find_join_same e t.entries;
          stamp = omega (arith, ap (λ (x : Listed). x.entry.stamp) q);
          live = λ s. ap (λ (x : Listed). x.entry.live) q;
        }
    go (inr (q, le)) =
        record {
          entry = join_on e old;
          is = find_join_same e t.entries;
          stamp = le;
          live = λ z. same (ap (λ (o : Option Listed). at_odds e (entry_of? o)) (sym q) ∙ even) (sym z);
        }

stands_after : (e : Listed) (o q : Option Listed) → (s : Stands e o) → After s.entry q → Stands e q
stands_after e o q s a = go a.how
  where
    go : (a.entry ≡ s.entry) ⊎ (s.entry.entry.stamp < a.entry.entry.stamp) → Stands e q
    go (inl r) = record { entry = s.entry; is = a.is ∙ ap some r; stamp = s.stamp; live = s.live }
    go (inr l) =
        record {
          entry = a.entry;
          is = a.is;
          stamp = omega (arith, s.stamp);
          live = λ z. absurd (omega (arith, s.stamp));
        }

pub joins_stand : (es : List Listed) (t : Table) → odd_all es t ≡ false → (e : Listed) → In e es →
    Stands e (same_in e (join_all es t).entries)
unfolding join_all odd_all
joins_stand [] t odd e m = elim m [ ]
joins_stand (x ∷ xs) t odd e m =
    let o = or_false_both (odd_join x t) _ odd in
    go (Memᴰ.cases_cons m) (stands_join x t o.0) (joins_stand xs (joined x t) o.1 e)
  where
    after : List Listed
    after = (join_all xs (joined x t)).entries

    here : Stands x (same_in x (join_into x t.entries)) → Stands x (same_in x after)
    here s =
        stands_after x _ _ s
        (join_all_after xs (joined x t) x.directory x.entry.child x.entry.name s.entry s.is)

    go : (e ≡ x) ⊎ In e xs → Stands x (same_in x (join_into x t.entries)) → (In e xs → Stands e (same_in e after)) →
        Stands e (same_in e after)
    go (inl q) s ih = subst (λ (y : Listed). Stands y (same_in y after)) (sym q) (here s)
    go (inr i) s ih = ih i

-- ---- an entry at a replica's place

pub entered_stands : (u : Table) (h : Head) → is_live h ≡ true →
    Stands (place_entry h) (same_in (place_entry h) u.entries) → Entered u h
entered_stands u h l s =
    record {
      entry = s.entry.entry;
      there = ap entry_of? s.is;
      stamp = s.stamp;
      live = λ q. ap (λ (x : ℕ). eqb x 1) (s.live q) ∙ l;
    }

-- holders have no part in it
pub entered_holders : (u : Table) (h : Head) (set : ℕ) → Entered u h → Entered u (with_holders h set)
entered_holders u h set n = record { entry = n.entry; there = n.there; stamp = n.stamp; live = n.live }

-- ---- the entries of (e)

-- each is that of a head above, at its place
abbrev pub AboveOf : List Head → Listed → Type 0
AboveOf hs e = (h : Head) × In h hs × (e ≡ place_entry h)

pub set_above_cases : (t : Table) (hs : List Head) (e : Listed) → In e (set_above t hs) → AboveOf hs e
unfolding set_above set_by
set_above_cases t [] e m = elim m [ ]
set_above_cases t (h ∷ hs) e m =
    go (head_of t h.id) (Memᴰ.append_cases (set_above t hs) m) (set_above_cases t hs e)
  where
    later : AboveOf hs e → AboveOf (h ∷ hs) e
    later r = (r.0, Memᴰ.tail r.1, r.2)

    one : (e ≡ place_entry h) ⊎ In e [] → AboveOf (h ∷ hs) e
    one (inl q) = (h, Memᴰ.head refl, q)
    one (inr i) = elim i [ ]

    go : (o : Option Head) → In e (set_above t hs) ⊎ In e (set_if_made o h) → (In e (set_above t hs) → AboveOf hs e) →
        AboveOf (h ∷ hs) e
    go o (inl i) ih = later (ih i)
    go none (inr i) ih = one (Memᴰ.cases_cons i)
    go (some o) (inr i) ih = elim i [ ]

-- and each head above that was missing sets its own
pub set_above_in : (t : Table) (hs : List Head) (h : Head) → In h hs → head_of t h.id ≡ none →
    In (place_entry h) (set_above t hs)
unfolding set_above
set_above_in t [] h m e = elim m [ ]
set_above_in t (g ∷ gs) h m e = go (Memᴰ.cases_cons m) (λ i. set_above_in t gs h i e)
  where
    here : head_of t g.id ≡ none → In (place_entry g) (set_if_made (head_of t g.id) g)
    here q = subst (λ (o : Option Head). In (place_entry g) (set_if_made o g)) (sym q) (set_place g none)

    go : (h ≡ g) ⊎ In h gs → (In h gs → In (place_entry h) (set_above t gs)) →
        In (place_entry h) (set_above t gs ++ set_if_made (head_of t g.id) g)
    go (inl q) ih =
        subst (λ (x : Head). In (place_entry x) (set_above t gs ++ set_if_made (head_of t g.id) g)) (sym q)
        (Memᴰ.append_right (set_above t gs) (here (ap (λ (x : Head). head_of t x.id) (sym q) ∙ e)))
    go (inr i) ih = Memᴰ.append_left _ (ih i)
