-- Steps (a) and (b) of a receive: the highest clock takes in those of the message, and the ancestors that are missing
-- are made, root side first. Each one's place is then held, is a directory and one less deep: the next above, made or
-- held with that kind and depth (line 13), or the root. Assumes nothing.
use Rattle.std.specs.Prelude.{◌≡◌, refl, ◌⊎◌, true, List, [], ◌∷◌, map, ℕ, ◌≤◌, max, eqb}
use Rattle.std.proofs.Common.{ap, sym, subst, ◌∙◌, inl, inr, arith}
use Rattle.std.proofs.Math.Option.{Option, some, none}
use mathlib.Core.List.Memᴰ
use Rattle.numbers.specs.Nodes.{join, single}
use Rattle.numbers.specs.Ids.{maker, clock_of}
use Rattle.records.specs.declared.head.Head.{Head}
use Rattle.records.specs.declared.entry.Entry.{Entry}
use Rattle.records.specs.Heads.{head_fits, root_head}
use Rattle.records.specs.Ordinary.{ordinary_is}
use Rattle.document.specs.Tables.{Table, head_of}
use Rattle.document.specs.Sound.{maker_holds}
use Rattle.document.specs.Steps.{put, with_holders}
use Rattle.document.specs.Messages.{Push}
use Rattle.document.specs.Receive.{highest, stamps_of, step_a, with_own, make_missing, step_b}
use Rattle.views.specs.Lists.{In, not_none}
use Rattle.views.specs.Puts.{put_cases, head_put_same, head_put_other}
use Rattle.views.specs.Sounds.{Place, root_held}
use Rattle.kept.specs.MessageFacts.{Chain, HeadAgrees}
use Rattle.kept.specs.Firm.{Base, base_put, base_high}
use Rattle.kept.specs.States.{place_like}
use Rattle.kept.specs.ReceiveRanges.{depth_most, maker_more, has_own, fits_own}

-- ---- (a)

pub highest_least : (ss : List ℕ) (c : ℕ) → c ≤ highest c ss
unfolding highest
highest_least [] c = omega arith
highest_least (s ∷ ss) c = omega (arith, highest_least ss (max c (clock_of s)))

highest_each : (ss : List ℕ) (c s : ℕ) → In s ss → clock_of s ≤ highest c ss
unfolding highest
highest_each [] c s m = elim m [ ]
highest_each (x ∷ xs) c s m =
    go (Memᴰ.cases_cons m) (highest_least xs (max c (clock_of x))) (highest_each xs (max c (clock_of x)) s)
  where
    go : (s ≡ x) ⊎ In s xs → max c (clock_of x) ≤ highest (max c (clock_of x)) xs →
        (In s xs → clock_of s ≤ highest (max c (clock_of x)) xs) → clock_of s ≤ highest (max c (clock_of x)) xs
    go (inl q) h ih = omega arith
    go (inr i) h ih = ih i

pub base_A : (p : Push) (t : Table) → Base t → Base (step_a p t)
unfolding step_a
base_A p t b = base_high t _ (highest_least (stamps_of p) t.highest) b

pub seen_head : (p : Push) (t : Table) (h : Head) → In h (p.first ∷ p.above) → clock_of h.stamp ≤ (step_a p t).highest
unfolding step_a
seen_head p t h m =
    highest_each (stamps_of p) t.highest h.stamp (Memᴰ.append_left _ (Memᴰ.map (λ (h : Head). h.stamp) m))

pub seen_entry : (p : Push) (t : Table) (e : Entry) → In e p.entries → clock_of e.stamp ≤ (step_a p t).highest
unfolding step_a
seen_entry p t e m =
    highest_each (stamps_of p) t.highest e.stamp
    (Memᴰ.append_right (map (λ (h : Head). h.stamp) (p.first ∷ p.above)) (Memᴰ.map (λ (e : Entry). e.stamp) m))

-- ---- (b)

-- what no step that makes replicas touches
pub record Steady (t u : Table) : Type 0 where
  pub own : u.own ≡ t.own
  pub nodes : u.nodes ≡ t.nodes
  pub next : u.next ≡ t.next
  pub highest : u.highest ≡ t.highest
  pub entries : u.entries ≡ t.entries

pub steady_B : (hs : List Head) (t : Table) → Steady t (step_b hs t)
unfolding step_b
steady_B [] t = record { own = refl; nodes = refl; next = refl; highest = refl; entries = refl }
steady_B (h ∷ hs) t = go (head_of (step_b hs t) h.id) (steady_B hs t)
  where
    go : (o : Option Head) → Steady t (step_b hs t) → Steady t (make_missing o h (step_b hs t))
    go none s = record { own = s.own; nodes = s.nodes; next = s.next; highest = s.highest; entries = s.entries }
    go (some o) s = s

-- what no head of the list names stays as it is
pub above_other : (hs : List Head) (t : Table) (g : ℕ) → ((x : Head) → In x hs → g ≡ x.id → ⊥) →
    head_of (step_b hs t) g ≡ head_of t g
unfolding step_b
above_other [] t g ne = refl
above_other (h ∷ hs) t g ne = one (head_of (step_b hs t) h.id) ∙ above_other hs t g (λ x m. ne x (Memᴰ.tail m))
  where
    one : (o : Option Head) → head_of (make_missing o h (step_b hs t)) g ≡ head_of (step_b hs t) g
    one none = head_put_other (with_own h (step_b hs t)) (step_b hs t).replicas g (ne h (Memᴰ.head refl))
    one (some o) = refl

-- "ancestors already held are not touched"
missing_held : (h : Head) (u : Table) (g : ℕ) (o : Head) → head_of u g ≡ some o →
    head_of (make_missing (head_of u h.id) h u) g ≡ some o
missing_held h u g o r = go (head_of u h.id) refl
  where
    go : (q : Option Head) → head_of u h.id ≡ q → head_of (make_missing q h u) g ≡ some o
    go none a =
        head_put_other (with_own h u) u.replicas g
        (λ s. not_none (sym a ∙ ap (λ (m : ℕ). head_of u m) (sym s) ∙ r)) ∙ r
    go (some x) a = r

pub above_held : (hs : List Head) (t : Table) (g : ℕ) (o : Head) → head_of t g ≡ some o → head_of (step_b hs t) g ≡ some o
unfolding step_b
above_held [] t g o e = e
above_held (h ∷ hs) t g o e = missing_held h (step_b hs t) g o (above_held hs t g o e)

pub above_none : (hs : List Head) (t : Table) (g : ℕ) → head_of (step_b hs t) g ≡ none → head_of t g ≡ none
above_none hs t g e = go (head_of t g) refl
  where
    go : (o : Option Head) → head_of t g ≡ o → head_of t g ≡ none
    go none q = q
    go (some o) q = absurd (not_none (sym e ∙ above_held hs t g o q))

-- what stands then: what stood there, or an ancestor that was missing, with the own node added
pub record Made (t : Table) (hs : List Head) (x : Head) : Type 0 where
  pub head : Head
  pub named : In head hs
  pub absent : head_of t head.id ≡ none
  pub is : x ≡ with_own head t

pub above_cases : (hs : List Head) (t : Table) (g : ℕ) (x : Head) → head_of (step_b hs t) g ≡ some x →
    (head_of t g ≡ some x) ⊎ Made t hs x
unfolding step_b
above_cases [] t g x e = inl e
above_cases (h ∷ hs) t g x e = go (head_of (step_b hs t) h.id) refl e (above_cases hs t g x)
  where
    later : (head_of t g ≡ some x) ⊎ Made t hs x → (head_of t g ≡ some x) ⊎ Made t (h ∷ hs) x
    later (inl q) = inl q
    later (inr m) = inr (record { head = m.head; named = Memᴰ.tail m.named; absent = m.absent; is = m.is })

    go : (o : Option Head) → head_of (step_b hs t) h.id ≡ o → head_of (make_missing o h (step_b hs t)) g ≡ some x →
        (head_of (step_b hs t) g ≡ some x → (head_of t g ≡ some x) ⊎ Made t hs x) →
        (head_of t g ≡ some x) ⊎ Made t (h ∷ hs) x
    go (some o) q r ih = later (ih r)
    go none q r ih = on (put_cases (with_own h (step_b hs t)) (step_b hs t).replicas g x r)
      where
        on : ((g ≡ h.id) × (x ≡ with_own h (step_b hs t))) ⊎ ((g ≡ h.id → ⊥) × (head_of (step_b hs t) g ≡ some x)) →
            (head_of t g ≡ some x) ⊎ Made t (h ∷ hs) x
        on (inl (a, b)) =
            inr (record {
              head = h;
              named = Memᴰ.head refl;
              absent = above_none hs t h.id q;
              is = b ∙ ap (λ (n : ℕ). with_holders h (join h.holders (single n))) (steady_B hs t).own;
            })
        on (inr (a, b)) = later (ih b)

-- what lines 4 and 13 say of a head that is not the root's
pub record Fit (t : Table) (h : Head) : Type 0 where
  pub fits : head_fits t.nodes h ≡ true
  pub makers : maker_holds h ≡ true
  pub nonroot : h.id ≡ 0 → ⊥
  pub agrees : (o : Head) → head_of t h.id ≡ some o → HeadAgrees h o
  pub stray : head_of t h.id ≡ none → maker h.id ≡ t.own → ⊥
  pub clock : clock_of h.stamp ≤ t.highest

-- under the heads of the message
pub above_under : (hs : List Head) (t : Table) → Base t → ((x : Head) → In x hs → Fit t x) → (h : Head) → Chain h hs →
    Place (step_b hs t) h
unfolding step_b Chain
above_under [] t b k h (d, e) =
    record {
      parent = root_head t.nodes;
      held = ap (λ (m : ℕ). head_of t m) d ∙ root_held t b.root_first_law;
      directory = refl;
      depth = sym e;
    }
above_under (g ∷ gs) t b k h (d, e, kind, live, apart, c) = go (head_of (step_b gs t) g.id) refl
  where
    go : (o : Option Head) → head_of (step_b gs t) g.id ≡ o → Place (make_missing o g (step_b gs t)) h
    go none a =
        record {
          parent = with_own g (step_b gs t);
          held = ap (λ (m : ℕ). head_of (put (with_own g (step_b gs t)) (step_b gs t)) m) d
              ∙ head_put_same (with_own g (step_b gs t)) (step_b gs t).replicas;
          directory = kind;
          depth = sym e;
        }
    go (some o) a =
        let q = (k g (Memᴰ.head refl)).agrees o (sym (above_other gs t g.id apart) ∙ a) in
        record {
          parent = o;
          held = ap (λ (m : ℕ). head_of (step_b gs t) m) d ∙ a;
          directory = ap (λ (m : ℕ). eqb m 2) q.kind ∙ kind;
          depth = omega (arith, q.depth (ap (λ (m : ℕ). eqb m 2) q.kind ∙ kind), e);
        }

-- each head of the message has its place
pub above_places : (hs : List Head) (t : Table) → Base t → ((x : Head) → In x hs → Fit t x) → (h : Head) → Chain h hs →
    (x : Head) → In x hs → Place (step_b hs t) x
unfolding step_b Chain
above_places [] t b k h c x m = elim m [ ]
above_places (g ∷ gs) t b k h (d, e, kind, live, apart, c) x m =
    let k' : (x : Head) → In x gs → Fit t x = λ x m. k x (Memᴰ.tail m) in
    go (Memᴰ.cases_cons m) (above_under gs t b k' g c) (above_places gs t b k' g c x)
  where
    later : (y : Head) → Place (step_b gs t) y → Place (make_missing (head_of (step_b gs t) g.id) g (step_b gs t)) y
    later y u =
        record {
          parent = u.parent;
          held = missing_held g (step_b gs t) y.directory u.parent u.held;
          directory = u.directory;
          depth = u.depth;
        }

    go : (x ≡ g) ⊎ In x gs → Place (step_b gs t) g → (In x gs → Place (step_b gs t) x) →
        Place (make_missing (head_of (step_b gs t) g.id) g (step_b gs t)) x
    go (inl q) u ih = subst (Place (make_missing (head_of (step_b gs t) g.id) g (step_b gs t))) (sym q) (later g u)
    go (inr i) u ih = later x (ih i)

pub base_B : (hs : List Head) (t : Table) → Base t → ((x : Head) → In x hs → Fit t x) → (h : Head) → Chain h hs →
    Base (step_b hs t)
unfolding step_b Chain
base_B [] t b k h c = b
base_B (g ∷ gs) t b k h (d, e, kind, live, apart, c) =
    let k' : (x : Head) → In x gs → Fit t x = λ x m. k x (Memᴰ.tail m) in
    go (head_of (step_b gs t) g.id) refl (base_B gs t b k' g c) (above_under gs t b k' g c) (k g (Memᴰ.head refl))
  where
    s : Steady t (step_b gs t)
    s = steady_B gs t

    go : (o : Option Head) → head_of (step_b gs t) g.id ≡ o → Base (step_b gs t) → Place (step_b gs t) g → Fit t g →
        Base (make_missing o g (step_b gs t))
    go (some o) a b' u f = b'
    go none a b' u f =
        base_put (with_own g (step_b gs t)) (step_b gs t) b' (record {
          root = λ q. absurd (f.nonroot q);
          deep = depth_most t.nodes g (ordinary_is t.nodes g f.nonroot f.fits);
          fit = λ l. subst (λ (n : ℕ). head_fits n (with_own g (step_b gs t)) ≡ true) (sym s.nodes)
              (fits_own t.nodes g (step_b gs t) f.fits f.nonroot (rw s.nodes at b'.node));
          maker_holds_law = maker_more g g (single (step_b gs t).own) refl f.makers;
          own = has_own g (step_b gs t) b'.node;
          below = λ q. absurd (f.stray (above_none gs t g.id a) (q ∙ s.own));
          place = λ z. place_like (step_b gs t) g (with_own g (step_b gs t)) refl refl u;
          clock = omega (arith, f.clock, s.highest);
          stays = λ o q r. absurd (not_none (sym a ∙ q));
        })
