-- No two joins of a receive meet the same directory, child and name: those of (d) lie in the pushed directory, under
-- different children or names; those of (e) lie in the directories above it, or at the old place, each for a child of its
-- own, but for the strike, which is at another place. Assumes nothing.
use Rattle.std.specs.Prelude.{◌≡◌, ◌⊎◌, Bool, not, ℕ, ltb}
use Rattle.std.proofs.Math.Path.{refl, ap}
use Rattle.std.proofs.Common.{sym, subst, ◌∙◌, inl, inr, arith, eq-eqb, ltb-true}
use Rattle.std.proofs.Math.Bool.{true, false, cond}
use Rattle.std.proofs.Math.Option.{Option, some, none}
use mathlib.Core.List.Memᴰ
use mathlib.Core.List.{List, [], ◌∷◌, ◌++◌, map}
use Rattle.std.proofs.lemmas.Bool.{not-true}
use Rattle.codec.specs.Lists.{every, and_true, and_both}
use Rattle.names.specs.declared.Name.{Name}
use Rattle.names.specs.Names.{same_name, same_name_refl}
use Rattle.records.specs.declared.head.Head.{Head}
use Rattle.records.specs.declared.entry.Entry.{Entry}
use Rattle.slots.specs.declared.listed.Listed.{Listed}
use Rattle.document.specs.Tables.{Table, head_of}
use Rattle.document.specs.Sound.{distinct, same_key}
use Rattle.document.specs.Steps.{place_entry, strike, same_place, set_by}
use Rattle.document.specs.Messages.{Push, same_child_name}
use Rattle.document.specs.Receive.{listed_in, joined_in, set_if_made, set_above, set_if_taken, set_in, joins}
use Rattle.views.specs.Lists.{In, every_in, in_every, no_both, same?, some_only}
use Rattle.views.specs.Puts.{head_id}
use Rattle.views.specs.Joins.{KeyOf, same_key_law}
use Rattle.views.specs.Issues.{place_same, set_cases}
use Rattle.views.specs.Sounds.{Place, Sound, root_held}
use Rattle.kept.specs.MessageFacts.{Chain, MessageSays}
use Rattle.kept.specs.ReceiveStands.{AboveOf, set_above_cases}

-- ---- lists with no two the same

pub distinct_append : {A : Type 0} (same : A → A → Bool) (xs ys : List A) → distinct same xs ≡ true →
    distinct same ys ≡ true → ((x y : A) → In x xs → In y ys → same x y ≡ false) → distinct same (xs ++ ys) ≡ true
unfolding distinct
distinct_append same [] ys d e h = e
distinct_append same (x ∷ xs) ys d e h =
    let p = and_true (every (λ y. not (same x y)) xs) _ d in
    and_both (in_every (λ y. not (same x y)) (xs ++ ys) (λ y m. other y p.0 (Memᴰ.append_cases xs m)))
    (distinct_append same xs ys p.1 e (λ z y m i. h z y (Memᴰ.tail m) i))
  where
    other : (y : _) → every (λ y. not (same x y)) xs ≡ true → In y xs ⊎ In y ys → not (same x y) ≡ true
    other y q (inl m) = every_in (λ y. not (same x y)) xs q y m
    other y q (inr m) = ap not (h x y (Memᴰ.head refl) m)

-- keys that cannot be one
no_key : (a b : Listed) → (KeyOf a b → ⊥) → same_key a b ≡ false
no_key a b h = go (same_key a b) refl
  where
    go : (x : Bool) → same_key a b ≡ x → x ≡ false
    go true e = absurd (h (same_key_law a b e))
    go false e = refl

-- ---- (d)

distinct_listed : (d : ℕ) (es : List Entry) → distinct same_child_name es ≡ true →
    distinct same_key (map (listed_in d) es) ≡ true
unfolding distinct
distinct_listed d [] h = refl
distinct_listed d (e ∷ es) h =
    let p = and_true (every (λ y. not (same_child_name e y)) es) _ h in
    and_both
    (in_every (λ y. not (same_key (listed_in d e) y)) (map (listed_in d) es)
    (λ y m. let r = Memᴰ.of_map (listed_in d) es m in
    ap not (no_key (listed_in d e) y (λ k. other y p.0 r k))))
    (distinct_listed d es p.1)
  where
    other : (y : Listed) → every (λ y. not (same_child_name e y)) es ≡ true →
        (x : Entry) × In x es × (listed_in d x ≡ y) → KeyOf (listed_in d e) y → ⊥
    other y q (x, m, s) k =
        let child : e.child ≡ x.child = sym k.child ∙ ap (λ (z : Listed). z.entry.child) (sym s) in
        let name : e.name ≡ x.name = sym k.name ∙ ap (λ (z : Listed). z.entry.name) (sym s) in
        let one : same_name e.name x.name ≡ true =
        ap (λ (n : Name). same_name e.name n) (sym name) ∙ same_name_refl e.name in
        no_both (same_child_name e x) (and_both (eq-eqb e.child x.child child) one)
        (not-true _ (every_in (λ y. not (same_child_name e y)) es q x m))

-- ---- (e)

-- the place of each head is one above, or the root
places_up : (h : Head) (l : List Head) → Chain h l → (x : Head) → In x (h ∷ l) →
    (x.directory ≡ 0) ⊎ ((y : Head) × In y l × (x.directory ≡ y.id))
unfolding Chain
places_up h [] (d, e) x m = inl (last (Memᴰ.cases_cons m))
  where
    last : (x ≡ h) ⊎ In x [] → x.directory ≡ 0
    last (inl q) = ap (λ (z : Head). z.directory) q ∙ d
    last (inr i) = elim i [ ]
places_up h (g ∷ gs) (d, e, k, l, u, r) x m = go (Memᴰ.cases_cons m) (places_up g gs r x)
  where
    T : List Head → Type 0
    T hs = (x.directory ≡ 0) ⊎ ((y : Head) × In y hs × (x.directory ≡ y.id))

    later : T gs → T (g ∷ gs)
    later (inl z) = inl z
    later (inr (y, i, q)) = inr (y, Memᴰ.tail i, q)

    go : (x ≡ h) ⊎ In x (g ∷ gs) → (In x (g ∷ gs) → T gs) → T (g ∷ gs)
    go (inl q) ih = inr (g, Memᴰ.head refl, ap (λ (z : Head). z.directory) q ∙ d)
    go (inr i) ih = later (ih i)

-- the heads above have different ids, so their entries have different children
distinct_above : (t : Table) (h : Head) (l : List Head) → Chain h l → distinct same_key (set_above t l) ≡ true
unfolding Chain set_above set_by distinct every
distinct_above t h [] c = refl
distinct_above t h (g ∷ gs) (d, e, k, l, u, r) =
    distinct_append same_key (set_above t gs) (set_if_made (head_of t g.id) g) (distinct_above t g gs r)
    (one (head_of t g.id))
    (λ x y m i. no_key x y (other (head_of t g.id) x y (set_above_cases t gs x m) i))
  where
    one : (o : Option Head) → distinct same_key (set_if_made o g) ≡ true
    one none = refl
    one (some o) = refl

    mine : (o : Option Head) (y : Listed) → In y (set_if_made o g) → y.entry.child ≡ g.id
    mine none y i = only (Memᴰ.cases_cons i)
      where
        only : (y ≡ place_entry g) ⊎ In y [] → y.entry.child ≡ g.id
        only (inl q) = ap (λ (z : Listed). z.entry.child) q
        only (inr n) = elim n [ ]
    mine (some o) y i = elim i [ ]

    other : (o : Option Head) (x y : Listed) → AboveOf gs x → In y (set_if_made o g) → KeyOf x y → ⊥
    other o x y (f, m, q) i k =
        u f m (sym (mine o y i) ∙ k.child ∙ ap (λ (z : Listed). z.entry.child) q)

module _ (p : Push) (t : Table) (s : Sound t) (m : MessageSays t.nodes p) where
  abbrev F : Head
  F = p.first

  -- the root sets no entry: it is held, with its only stamp
  root_none : F.id ≡ 0 → (e : Listed) → In e (set_in t p) → ⊥
  root_none z e i = go (Memᴰ.append_cases (set_above t p.above) i)
    where
      held : head_of t F.id ≡ some F
      held = ap (head_of t) z ∙ root_held t s.root_first_law ∙ ap some (sym (m.root z).0)

      same : (x : Bool) → ltb F.stamp F.stamp ≡ x → In e (cond x (set_by F (some F)) []) → ⊥
      same true l j = omega (arith, ltb-true F.stamp F.stamp l)
      same false l j = elim j [ ]

      go : In e (set_above t p.above) ⊎ In e (set_if_taken (head_of t F.id) F) → ⊥
      go (inl j) =
          let r = set_above_cases t p.above e j in
          let n : In r.0 [] = subst (λ (l : List Head). In r.0 l) (m.root z).1 r.1 in
          elim n [ ]
      go (inr j) =
          same (ltb F.stamp F.stamp) refl (subst (λ (o : Option Head). In e (set_if_taken o F)) held j)

  -- what the pushed replica sets: an entry at its place, and a strike where it was, at another place
  first_cases : (o : Option Head) (e : Listed) → In e (set_if_taken o F) →
      (e ≡ place_entry F) ⊎ ((old : Head) × (o ≡ some old) × (same_place F old ≡ false) × (e ≡ strike F old))
  first_cases none e i = set_cases F none e i
  first_cases (some old) e i = go (ltb old.stamp F.stamp) i
    where
      go : (x : Bool) → In e (cond x (set_by F (some old)) []) →
          (e ≡ place_entry F) ⊎ ((x : Head) × (some old ≡ some x) × (same_place F x ≡ false) × (e ≡ strike F x))
      go true j = set_cases F (some old) e j
      go false j = elim j [ ]

  first_child : (o : Option Head) (e : Listed) → In e (set_if_taken o F) → e.entry.child ≡ F.id
  first_child o e i = go (first_cases o e i)
    where
      go : (e ≡ place_entry F) ⊎ ((old : Head) × (o ≡ some old) × (same_place F old ≡ false) × (e ≡ strike F old)) →
          e.entry.child ≡ F.id
      go (inl q) = ap (λ (x : Listed). x.entry.child) q
      go (inr (old, h, n, q)) = ap (λ (x : Listed). x.entry.child) q

  distinct_first : (o : Option Head) → distinct same_key (set_if_taken o F) ≡ true
  unfolding set_by distinct every
  distinct_first none = refl
  distinct_first (some old) = go (ltb old.stamp F.stamp) (same_place F old) refl
    where
      go : (x y : Bool) → same_place F old ≡ y →
          distinct same_key (cond x (place_entry F ∷ cond y [] (strike F old ∷ [])) []) ≡ true
      go false y n = refl
      go true true n = refl
      go true false n =
          let other = no_key (place_entry F) (strike F old)
          (λ k. no_both _ (place_same F old (sym k.directory) (sym k.name)) n) in
          rw other

  -- the entries of (e) do not lie in the pushed replica
  set_elsewhere : (e : Listed) → In e (set_in t p) → e.directory ≡ F.id → ⊥
  set_elsewhere e i q = go (Memᴰ.append_cases (set_above t p.above) i)
    where
      z : F.id ≡ 0 → ⊥
      z r = root_none r e i

      up : (x : Head) → In x (F ∷ p.above) → x.directory ≡ F.id → ⊥
      up x j d = at (places_up F p.above (m.chain z) x j)
        where
          at : (x.directory ≡ 0) ⊎ ((y : Head) × In y p.above × (x.directory ≡ y.id)) → ⊥
          at (inl r) = z (sym d ∙ r)
          at (inr (y, k, r)) = m.twice y k (sym d ∙ r)

      -- its own place is one less deep
      was : (old : Head) → head_of t F.id ≡ some old → old.directory ≡ F.id → ⊥
      was old h d =
          let own : old.id ≡ F.id = head_id F.id t.replicas old h in
          let w : Place t old = s.placed F.id old h (λ r. z (sym own ∙ r)) in
          let one : w.parent ≡ old = some_only (sym w.held ∙ ap (head_of t) d ∙ h) in
          omega (arith, w.depth, ap (λ (x : Head). x.depth) one)

      first : (e ≡ place_entry F)
          ⊎ ((old : Head) × (head_of t F.id ≡ some old) × (same_place F old ≡ false) × (e ≡ strike F old)) → ⊥
      first (inl r) = up F (Memᴰ.head refl) (ap (λ (x : Listed). x.directory) (sym r) ∙ q)
      first (inr (old, h, n, r)) = was old h (ap (λ (x : Listed). x.directory) (sym r) ∙ q)

      go : In e (set_above t p.above) ⊎ In e (set_if_taken (head_of t F.id) F) → ⊥
      go (inl j) =
          let r = set_above_cases t p.above e j in
          up r.0 (Memᴰ.tail r.1) (ap (λ (x : Listed). x.directory) (sym r.2) ∙ q)
      go (inr j) = first (first_cases (head_of t F.id) e j)

  distinct_set : distinct same_key (set_in t p) ≡ true
  unfolding set_above distinct
  distinct_set =
      distinct_append same_key (set_above t p.above) (set_if_taken (head_of t F.id) F)
      (above (same? F.id 0)) (distinct_first (head_of t F.id)) (λ x y i j. no_key x y (other x y i j))
    where
      above : (F.id ≡ 0) ⊎ (F.id ≡ 0 → ⊥) → distinct same_key (set_above t p.above) ≡ true
      above (inl z) = ap (λ (l : List Head). distinct same_key (set_above t l)) (m.root z).1
      above (inr z) = distinct_above t F p.above (m.chain z)

      other : (x y : Listed) → In x (set_above t p.above) → In y (set_if_taken (head_of t F.id) F) → KeyOf x y → ⊥
      other x y i j k =
          let r = set_above_cases t p.above x i in
          m.twice r.0 r.1
          (sym (first_child (head_of t F.id) y j) ∙ k.child ∙ ap (λ (e : Listed). e.entry.child) r.2)

  pub joins_distinct : distinct same_key (joins p t) ≡ true
  joins_distinct =
      distinct_append same_key (joined_in p) (set_in t p) (distinct_listed F.id p.entries m.keys) distinct_set
      (λ x y i j. no_key x y (other x y i j))
    where
      other : (x y : Listed) → In x (joined_in p) → In y (set_in t p) → KeyOf x y → ⊥
      other x y i j k =
          let r = Memᴰ.of_map (listed_in F.id) p.entries i in
          set_elsewhere y j (k.directory ∙ ap (λ (e : Listed). e.directory) (sym r.2))
