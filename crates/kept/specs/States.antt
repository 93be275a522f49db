-- The new states of the calls are such as `issue` asks for: a state at the same place (dead, or live again), a state at
-- a new place, and the state of a replica that is made. Assumes nothing.
use Rattle.std.specs.Prelude.{◌≡◌, refl, ◌⊎◌, Bool, true, false, ◌||◌, not, ℕ, ◌+◌, ◌^◌, ◌≤◌, ◌<◌, eqb, leb, ltb}
use Rattle.std.proofs.Common.{ap, sym, ◌∙◌, inl, inr, true≢false, arith, eq-eqb, leb-true, le-leb, lt-ltb, ltb-true, ltb-false}
use Rattle.std.proofs.Math.Bool.{or-true}
use Rattle.std.proofs.Math.Option.{Option, some, none}
use Rattle.codec.specs.Lists.{and_true, and_both}
use Rattle.names.specs.declared.Name.{Name}
use Rattle.names.specs.Names.{is_name}
use Rattle.numbers.specs.Nodes.{is_within, is_size, is_node, is_set, has, join, single}
use Rattle.numbers.specs.Ids.{id_of, maker, count, clock_of, issuer, is_made, is_id, is_stamp}
use Rattle.numbers.specs.Laws.{has_join, has_single, is_set_join, maker_of, count_of, clock_of_law, issuer_of, node_small, made_id}
use Rattle.records.specs.declared.head.Head.{Head}
use Rattle.records.specs.Heads.{head_fits}
use Rattle.records.specs.Ordinary.{ordinary_is, is_ordinary_law}
use Rattle.document.specs.Tables.{Table, with_next, head_of}
use Rattle.document.specs.Sound.{is_live, is_directory}
use Rattle.document.specs.Steps.{clock_at, stamp_at, with_state, with_place}
use Rattle.document.specs.Calls.{new_head}
use Rattle.views.specs.Lists.{no_both, some_only, not_none, same?}
use Rattle.views.specs.Puts.{head_id, head_own, dead_not}
use Rattle.views.specs.Sets.{is_set_single}
use Rattle.views.specs.Issues.{clock_above}
use Rattle.views.specs.Sounds.{Place, HeadsFit, OwnBelowNext, Sound, root_only}
use Rattle.kept.specs.Rules.{UnderLive, OverDead}
use Rattle.kept.specs.Firm.{Base, NewState}

-- ---- the new stamp is in its range

pub stamp_fits : (now : ℕ) (t : Table) → is_size t.nodes ≡ true → is_node t.nodes t.own ≡ true →
    clock_at now t < 2 ^ 40 → is_stamp t.nodes (stamp_at now t) ≡ true
unfolding is_stamp
stamp_fits now t p q b =
    let small = node_small t.nodes t.own p q in
    let c : clock_of (stamp_at now t) ≡ clock_at now t = clock_of_law (clock_at now t) t.own (omega (arith, small.1)) in
    let i : issuer (stamp_at now t) ≡ t.own = issuer_of (clock_at now t) t.own (omega (arith, small.1)) in
    and_both (le-leb 1 (clock_of (stamp_at now t)) (omega (arith, c, clock_above now t)))
    (and_both (lt-ltb (clock_of (stamp_at now t)) (2 ^ 40) (omega (arith, c, b))) (ap (is_node t.nodes) i ∙ q))

-- heads with one place and depth
pub place_like : (t : Table) (a b : Head) → b.directory ≡ a.directory → b.depth ≡ a.depth → Place t a → Place t b
place_like t a b d e p =
    record {
      parent = p.parent;
      held = ap (λ (m : ℕ). head_of t m) d ∙ p.held;
      directory = p.directory;
      depth = p.depth ∙ sym e;
    }

-- ---- a state at the same place

pub same_place_state : (now live : ℕ) (t : Table) (f : ℕ) (h : Head) → Base t → head_of t f ≡ some h → (h.id ≡ 0 → ⊥) →
    leb live 1 ≡ true → NewState now (with_state h live) t
same_place_state now live t f h s e z l =
    record {
      nonroot = z;
      stamp = refl;
      fit = fit;
      deep = s.depths_fit f h e;
      maker_holds_law = s.makers_hold f h e;
      own = s.own_holds f h e;
      below = s.own_below f h e;
      place = place_like t h (with_state h live (stamp_at now t)) refl refl (s.placed f h e z);
      stays = λ o p d. (ap is_directory (same o p) ∙ d, ap (λ (y : Head). y.depth) (same o p));
    }
  where
    same : (o : Head) → head_of t h.id ≡ some o → h ≡ o
    same o p = some_only (sym (head_own f t.replicas h e) ∙ p)

    fit : clock_at now t < 2 ^ 40 → head_fits t.nodes (with_state h live (stamp_at now t)) ≡ true
    fit b =
        let o = ordinary_is t.nodes h z (s.heads_fit (omega (arith, b, clock_above now t)) f h e) in
        is_ordinary_law t.nodes (with_state h live (stamp_at now t)) z
        (record {
          kind = o.kind;
          live = l;
          made = o.made;
          stamp = stamp_fits now t s.size s.node b;
          holders = o.holders;
          depth = o.depth;
          directory = o.directory;
          name = o.name;
        })

-- a dead one is under anything, and a live one over anything
pub dead_under : (t : Table) (h : Head) (stamp : ℕ) → UnderLive t (with_state h 0 stamp)
dead_under t h stamp z l = absurd (true≢false (sym l))

pub live_over_law : (t : Table) (h : Head) → is_live h ≡ true → OverDead t h
live_over_law t h l d = absurd (no_both (is_live h) l d)

-- one whose place directory is live is under a live one
pub under_live : (t : Table) (h p : Head) → head_of t h.directory ≡ some p → is_live p ≡ true → UnderLive t h
under_live t h p e l z a = dead_not (head_of t h.directory) p e ∙ ap not l

-- the id of a held head is an id
pub id_fits : (t : Table) → HeadsFit t → (d : ℕ) (p : Head) → head_of t d ≡ some p → is_id t.nodes p.id ≡ true
unfolding is_id
id_fits t s d p e = go (same? p.id 0)
  where
    go : (p.id ≡ 0) ⊎ (p.id ≡ 0 → ⊥) → is_id t.nodes p.id ≡ true
    go (inl z) = ap (λ (b : Bool). b || is_made t.nodes p.id) (eq-eqb p.id 0 z)
    go (inr z) = made_id t.nodes p.id (ordinary_is t.nodes p z (s d p e)).made

-- ---- a state at a new place: of a file, under a directory that has room

pub new_place_state : (now : ℕ) (t : Table) (f d : ℕ) (h p : Head) (name : Name) → Base t → head_of t f ≡ some h →
    head_of t d ≡ some p → is_directory h ≡ false → is_directory p ≡ true → p.depth < 16 → is_name name ≡ true →
    NewState now (with_place h p name) t
new_place_state now t f d h p name s e g hf pd room nm =
    record {
      nonroot = z;
      stamp = refl;
      fit = fit;
      deep = omega (arith, room);
      maker_holds_law = s.makers_hold f h e;
      own = s.own_holds f h e;
      below = s.own_below f h e;
      place = record { parent = p; held = here; directory = pd; depth = refl };
      stays = λ o q y. absurd (no_both (is_directory o) y (ap is_directory (sym (same o q)) ∙ hf));
    }
  where
    same : (o : Head) → head_of t h.id ≡ some o → h ≡ o
    same o q = some_only (sym (head_own f t.replicas h e) ∙ q)

    here : head_of t p.id ≡ some p
    here = head_own d t.replicas p g

    -- the root is a directory
    z : h.id ≡ 0 → ⊥
    z o = no_both (is_directory h) (ap is_directory (root_only t s.root_first_law f h e o)) hf

    fit : clock_at now t < 2 ^ 40 → head_fits t.nodes (with_place h p name (stamp_at now t)) ≡ true
    fit b =
        let low : t.highest < 2 ^ 40 = omega (arith, b, clock_above now t) in
        let o = ordinary_is t.nodes h z (s.heads_fit low f h e) in
        is_ordinary_law t.nodes (with_place h p name (stamp_at now t)) z
        (record {
          kind = o.kind;
          live = o.live;
          made = o.made;
          stamp = stamp_fits now t s.size s.node b;
          holders = o.holders;
          depth = and_both (le-leb 1 (p.depth + 1) (omega arith)) (le-leb (p.depth + 1) 16 (omega (arith, room)));
          directory = id_fits t (s.heads_fit low) d p g;
          name = nm;
        })

-- ---- the state of a replica that is made

-- the next id is not held
pub next_id_free : (t : Table) → OwnBelowNext t → t.next < 16777216 → head_of t (id_of t.own t.next) ≡ none
next_id_free t s b = go (head_of t (id_of t.own t.next)) refl
  where
    go : (o : Option Head) → head_of t (id_of t.own t.next) ≡ o → o ≡ none
    go none e = refl
    go (some h) e =
        let i : h.id ≡ id_of t.own t.next = head_id (id_of t.own t.next) t.replicas h e in
        let lt : count h.id < t.next = s _ h e (ap maker i ∙ maker_of t.own t.next b) in
        let c : count h.id ≡ t.next = ap count i ∙ count_of t.own t.next b in
        absurd (omega (arith, lt, c))

-- in a sound table also where none is left
pub new_id_free : (t : Table) → Sound t → head_of t (id_of t.own t.next) ≡ none
unfolding is_made
new_id_free t s = go (ltb t.next 16777216) refl
  where
    last : t.next ≡ 16777216 → (o : Option Head) → head_of t (id_of t.own t.next) ≡ o → o ≡ none
    last m none e = refl
    last m (some h) e =
        let i : h.id ≡ id_of t.own t.next = head_id (id_of t.own t.next) t.replicas h e in
        let made = (ordinary_is t.nodes h (λ z. omega (arith, i, z, m)) (s.heads_fit _ h e)).made in
        let low = leb-true 1 (count h.id) (and_true (is_node t.nodes (maker h.id)) _ made).1 in
        absurd (omega (arith, low, i, m))

    go : (b : Bool) → ltb t.next 16777216 ≡ b → head_of t (id_of t.own t.next) ≡ none
    go true p = next_id_free t s.own_below (ltb-true _ _ p)
    go false p = last (omega (arith, ltb-false t.next 16777216 p, s.next_high)) _ refl

made_fits : (n node c : ℕ) → is_node n node ≡ true → 1 ≤ c → c < 16777216 → is_made n (id_of node c) ≡ true
unfolding is_made
made_fits n node c p q b =
    and_both (ap (is_node n) (maker_of node c b) ∙ p)
    (le-leb 1 (count (id_of node c)) (omega (arith, count_of node c b)))

pub made_state : (now kind set : ℕ) (t : Table) (d : ℕ) (p : Head) (name : Name) → Base t → head_of t d ≡ some p →
    is_directory p ≡ true → p.depth < 16 → is_name name ≡ true → is_within 1 kind 2 ≡ true →
    is_set t.nodes set ≡ true → t.next < 16777216 → NewState now (new_head kind name set t p) (with_next t (t.next + 1))
made_state now kind set t d p name s g pd room nm k st b =
    record {
      nonroot = nonroot;
      stamp = refl;
      fit = fit;
      deep = omega (arith, room);
      maker_holds_law =
          ap (λ (x : Bool). eqb (id_of t.own t.next) 0 || x)
          (ap (has (join set (single t.own))) (maker_of t.own t.next b) ∙ owns)
          ∙ or-true (eqb (id_of t.own t.next) 0);
      own = owns;
      below = λ m. omega (arith, count_of t.own t.next b);
      place = record { parent = p; held = here; directory = pd; depth = refl };
      stays = λ o q y. absurd (not_none (sym free ∙ q));
    }
  where
    small : (1 ≤ t.own) × (t.own ≤ 8)
    small = node_small t.nodes t.own s.size s.node

    nonroot : id_of t.own t.next ≡ 0 → ⊥
    nonroot z = omega (arith, z, small.0)

    here : head_of t p.id ≡ some p
    here = head_own d t.replicas p g

    free : head_of t (id_of t.own t.next) ≡ none
    free = next_id_free t s.own_below b

    owns : has (join set (single t.own)) t.own ≡ true
    owns =
        has_join set (single t.own) t.own
        ∙ ap (λ (x : Bool). has set t.own || x) (has_single t.own small.0) ∙ or-true (has set t.own)

    fit : clock_at now t < 2 ^ 40 →
        head_fits t.nodes (new_head kind name set t p (stamp_at now t)) ≡ true
    fit c =
        is_ordinary_law t.nodes (new_head kind name set t p (stamp_at now t)) nonroot
        (record {
          kind = k;
          live = refl;
          made = made_fits t.nodes t.own t.next s.node s.next_low b;
          stamp = stamp_fits now t s.size s.node c;
          holders =
              is_set_join t.nodes set (single t.own) st
              (is_set_single t.nodes t.own (leb-true _ _ (and_true (leb 1 t.own) _ s.node).1));
          depth = and_both (le-leb 1 (p.depth + 1) (omega arith)) (le-leb (p.depth + 1) 16 (omega (arith, room)));
          directory = id_fits t (s.heads_fit (omega (arith, c, clock_above now t))) d p g;
          name = nm;
        })
