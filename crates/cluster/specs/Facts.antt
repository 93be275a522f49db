-- A sound table by lookup: what demand 3 needs of it, as numbers and equations. Assumes nothing.
use Rattle.std.specs.Prelude.{◌≡◌, refl, true, false, ℕ, ◌+◌, ◌*◌, ◌≤◌, ◌<◌, leb}
use Rattle.std.proofs.Common.{ap, sym, subst, ◌∙◌, arith, eqb-true, eq-eqb, leb-true}
use Rattle.std.proofs.Math.Option.{Option, some, none}
use Rattle.std.proofs.lemmas.Bool.{not-false}
use Rattle.codec.specs.Lists.{and_true}
use Rattle.names.specs.declared.Name.{Name}
use Rattle.numbers.specs.Nodes.{is_node, has}
use Rattle.numbers.specs.Ids.{maker, count, is_made, is_version}
use Rattle.numbers.specs.Laws.{size_most}
use Rattle.records.specs.declared.head.Head.{Head}
use Rattle.records.specs.declared.entry.Entry.{Entry}
use Rattle.records.specs.Ordinary.{ordinary_is}
use Rattle.slots.specs.declared.listed.Listed.{Listed}
use Rattle.document.specs.Tables.{Table, find, head_of, find_entry}
use Rattle.document.specs.Sound.{is_root_id, is_live, sound}
use Rattle.document.specs.Steps.{is_dead}
use Rattle.views.specs.Lists.{or_second}
use Rattle.views.specs.Puts.{version_of, head_id, head_found, dead_not}
use Rattle.views.specs.Joins.{entry_key, entry_in, entry_found}
use Rattle.views.specs.Sounds.{Sound, sound_is, not_root, root_held}
use Rattle.kept.specs.Settled.{holders_fit}
use Rattle.cluster.specs.Cluster.{Node}
use Rattle.cluster.specs.Ranks.{rank_o, mark_o, rank, mark, vers, held, entered}
use Rattle.cluster.specs.Invariants.{Facts, Placed, Entered as Enters}

-- a node in range
pub node_is : (n i : ℕ) → is_node n i ≡ true → Node n i
node_is n i e = let p = and_true (leb 1 i) _ e in (leb-true 1 i p.0, leb-true i n p.1)

-- the maker of an id that a node made is a node
maker_is : (n id : ℕ) → is_made n id ≡ true → Node n (maker id)
unfolding is_made
maker_is n id e = node_is n (maker id) (and_true (is_node n (maker id)) _ e).0

-- versions start at 1
version_least : (v : ℕ) → is_version v ≡ true → 1 ≤ v
unfolding is_version
version_least v e = leb-true 1 v (and_true (leb 1 v) _ e).0

module _ (t : Table) (s : Sound t) where
  -- a head found by f has the id f
  id_of_law : (f : ℕ) (h : Head) → head_of t f ≡ some h → h.id ≡ f
  id_of_law f h e = head_id f t.replicas h e

  other : (f : ℕ) (h : Head) → head_of t f ≡ some h → (f ≡ 0 → ⊥) → h.id ≡ 0 → ⊥
  other f h e z q = z (sym (id_of_law f h e) ∙ q)

  names_maker : (f : ℕ) (h : Head) → head_of t f ≡ some h → (f ≡ 0 → ⊥) → has h.holders (maker f) ≡ true
  names_maker f h e z =
      ap (λ (m : ℕ). has h.holders (maker m)) (sym (id_of_law f h e))
      ∙ or_second (is_root_id h) _ (s.makers_hold f h e) (not_root h (other f h e z))

  place_of : (f : ℕ) (h : Head) → head_of t f ≡ some h → (f ≡ 0 → ⊥) → Placed t h
  place_of f h e z =
      let p = s.placed f h e (other f h e z) in
      record {
        parent = p.parent;
        found = p.held;
        kind = eqb-true _ _ p.directory;
        depth = omega (arith, p.depth);
        live = λ l. eqb-true _ _ (lives p.parent p.held (s.live_places f h e (other f h e z) (eq-eqb _ _ l)));
      }
    where
      lives : (q : Head) → head_of t h.directory ≡ some q → is_dead (head_of t h.directory) ≡ false → is_live q ≡ true
      lives q a b = not-false (is_live q) (sym (dead_not _ q a) ∙ b)

  entry_of : (f : ℕ) (h : Head) → head_of t f ≡ some h → (f ≡ 0 → ⊥) → h.live ≡ 1 → Enters t h
  entry_of f h e z l =
      let n = s.shown f h e (other f h e z) (eq-eqb _ _ l) in
      let x = entry_found (find_entry h.directory h.id h.name t.entries) n.entry n.there in
      let st : x.0.entry.stamp ≡ n.entry.stamp = ap (λ (y : Entry). y.stamp) x.2 in
      record {
        entry = x.0;
        there = x.1;
        stamp = omega (arith, n.stamp);
        live = λ q. ap (λ (y : Entry). y.live) x.2 ∙ eqb-true _ _ (n.live (q ∙ st));
      }

  held_dirs : (d f : ℕ) (name : Name) → 1 ≤ mark t d f name → 1 ≤ rank t d
  held_dirs d f name p =
      let x = entered (find_entry d f name t.entries) p in
      let q = s.parents x.0 (entry_in d f name t.entries x.0 x.1) in
      let e : head_of t d ≡ some q.head =
      ap (λ (m : ℕ). head_of t m) (sym (entry_key d f name t.entries x.0 x.1).directory) ∙ q.held in
      omega (arith, ap rank_o e)

  no_root : (d : ℕ) (name : Name) → mark t d 0 name ≡ 0
  no_root d name = go (find_entry d 0 name t.entries) refl
    where
      go : (o : Option Listed) → find_entry d 0 name t.entries ≡ o → mark_o o ≡ 0
      go none e = refl
      go (some x) e =
          absurd (s.no_root_child x (entry_in d 0 name t.entries x e) (entry_key d 0 name t.entries x e).child)

  least : (f : ℕ) → 1 ≤ rank t f → 1 ≤ vers t f
  least f p =
      let h = held (head_of t f) p in
      let r = head_found (find f t.replicas) h.0 h.1 in
      omega (arith, version_least r.0.version (s.versions_fit f r.0 r.1), ap version_of r.1)

  below : (f : ℕ) → 1 ≤ rank t f → maker f ≡ t.own → count f < t.next
  below f p q =
      let h = held (head_of t f) p in
      let i = id_of_law f h.0 h.1 in
      omega (arith, s.own_below f h.0 h.1 (ap maker i ∙ q), ap count i)

  clocks_of : (f : ℕ) → rank t f ≤ t.highest * 256 + 256
  clocks_of f = go (head_of t f) refl
    where
      go : (o : Option Head) → head_of t f ≡ o → rank_o o ≤ t.highest * 256 + 256
      go none e = omega arith
      go (some h) e = omega (arith, s.head_clocks f h e)

  pub facts_of : Facts t.nodes t
  facts_of =
      record {
        node = node_is t.nodes t.own s.node;
        few = size_most t.nodes s.size;
        root = root_held t s.root_first_law;
        own = s.own_holds;
        within = holders_fit t s.root_first_law s.heads_fit;
        names = names_maker;
        made = λ f h e z.
            subst (λ (m : ℕ). Node t.nodes (maker m)) (id_of_law f h e)
            (maker_is t.nodes h.id (ordinary_is t.nodes h (other f h e z) (s.heads_fit f h e)).made);
        place = place_of;
        dirs = held_dirs;
        child = no_root;
        entry = entry_of;
        versions = least;
        counted = below;
        clocks = clocks_of;
        pending = s.pendings_fit;
      }

-- as K1 has them
pub facts_at : (n : ℕ) (t : Table) → sound t ≡ true → t.nodes ≡ n → Facts n t
facts_at n t e q = subst (λ (m : ℕ). Facts m t) q (facts_of t (sound_is t e))
