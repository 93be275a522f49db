-- The beginning: nobody has started, and a start may come late. Until it comes, the node is taken to stand there with
-- its fresh table, which no other node looks at. So what holds of every cluster that can be reached. Assumes nothing.
use Rattle.std.specs.Prelude.{◌≡◌, refl, Bool, true, false, ◌&&◌, not, cond, List, [], ◌++◌, ℕ, eqb, length}
use Rattle.std.proofs.Math.Path.{ap}
use Rattle.std.proofs.Common.{sym, subst, ◌∙◌, true≢false, arith, eqb-true, le-leb}
use Rattle.std.proofs.Math.Option.{some, none}
use Rattle.std.proofs.lemmas.Bool.{not-false}
use Rattle.codec.specs.Lists.{and_true, and_both}
use Rattle.numbers.specs.Nodes.{is_size, is_node}
use Rattle.records.specs.declared.head.Head.{Head}
use Rattle.records.specs.Heads.{root_head}
use Rattle.slots.specs.declared.listed.Listed.{Listed}
use Rattle.document.specs.Tables.{Table, table_size, fresh, table_bytes, table_of, first, head_of?, head_of}
use Rattle.document.specs.Sound.{sound, sound_bytes}
use Rattle.document.specs.Outcomes.{Outcome, refused, done, number_of, table_after, judged}
use Rattle.document.specs.Calls.{start}
use Rattle.views.specs.Lists.{In, not_none}
use Rattle.views.specs.Sounds.{is_sound}
use Rattle.kept.specs.Shapes.{full_fresh}
use Rattle.kept.specs.Kept.{Left, sound_bytes_law}
use Rattle.kept.specs.Starts.{sound_fresh}
use Rattle.cluster.specs.Cluster.{Node, Cluster, Call, creates, unlinks, renames, removes, spreads, lists, pushes, receives, hears, counts, answer, sends, issues, Handed, after, begun, Later, same, starts, more, idle, Started}
use Rattle.cluster.specs.Ranks.{Covers, leq_refl}
use Rattle.cluster.specs.Invariants.{Inv}
use Rattle.cluster.specs.Facts.{facts_at}
use Rattle.cluster.specs.Reached.{table_back, world, Reached}
use Rattle.cluster.proofs.Makes.{makes}

-- a node is in range
is_node_law : (n i : ℕ) → Node n i → is_node n i ≡ true
is_node_law n i ni = and_both (le-leb 1 i ni.0) (le-leb i n ni.1)

-- ---- the beginning

-- a start that was done left a fresh table
started : (l : List ℕ) (i n : ℕ) → number_of (start l i n) ≡ 0 → start l i n ≡ done 0 (fresh i n) []
unfolding start judged
started l i n e = go (not (eqb (length l) table_size)) (not (is_size n && is_node n i)) e
  where
    go : (a b : Bool) → number_of (cond a (refused 1) (cond b (refused 2) (done 0 (fresh i n) []))) ≡ 0 →
        cond a (refused 1) (cond b (refused 2) (done 0 (fresh i n) [])) ≡ done 0 (fresh i n) []
    go true b e = absurd (omega arith)
    go false true e = absurd (omega arith)
    go false false e = refl

-- which holds the root and nothing else, the same on each node
fresh_only : (i n f : ℕ) (h : Head) → head_of (fresh i n) f ≡ some h → (f ≡ 0 → ⊥) → ⊥
unfolding fresh first
fresh_only i n f h e z = go (eqb 0 f) refl e
  where
    go : (b : Bool) → eqb 0 f ≡ b →
        head_of? (cond b (some (record { head = root_head n; version = 1; pending = 0 })) none) ≡ some h → ⊥
    go true p q = z (sym (eqb-true 0 f p))
    go false p q = not_none q

fresh_entries : (i n : ℕ) → (fresh i n).entries ≡ []
unfolding fresh
fresh_entries i n = refl

fresh_covers : (i j n f : ℕ) → Covers (fresh i n) (fresh j n) f
unfolding fresh
fresh_covers i j n f = leq_refl f _ []

-- ---- a start may come late: meanwhile the node stands there as if it had started

-- as c, but each node that has not started has a fresh table
abbrev pub ghost : Cluster → Cluster
ghost c =
    record {
      nodes = c.nodes;
      started = λ (i : ℕ). true;
      bytes =
          λ (i : ℕ). cond (is_node c.nodes i && not (c.started i)) (table_bytes (fresh i c.nodes)) (c.bytes i);
      written = c.written;
      issued = c.issued;
    }

-- where the node has started
pub woken : (a s : Bool) (x y : List ℕ) → s ≡ true → cond (a && not s) x y ≡ y
woken true s x y e = ap (λ (b : Bool). cond (not b) x y) e
woken false s x y e = refl

pub awake : (c : Cluster) (i : ℕ) → c.started i ≡ true → (ghost c).bytes i ≡ c.bytes i
awake c i e = woken (is_node c.nodes i) (c.started i) _ _ e

-- where it has not
asleep : (c : Cluster) (i : ℕ) → is_node c.nodes i ≡ true → c.started i ≡ false →
    (ghost c).bytes i ≡ table_bytes (fresh i c.nodes)
asleep c i n e = rw (n, e)

-- ---- the beginning: nobody has started

module _ (n : ℕ) (lent : ℕ → List ℕ) (size : (i : ℕ) → Node n i → is_size n ≡ true) where
  abbrev C : Cluster
  C = ghost (idle n lent)

  left : (i : ℕ) → Node n i → Left (fresh i n)
  left i ni =
      let s = is_sound (fresh i n) (sound_fresh i n (size i ni) (is_node_law n i ni)) in
      record { table = s; full = full_fresh i n; bytes = sound_bytes_law (fresh i n) s (full_fresh i n) }

  bytes : (i : ℕ) → Node n i → C.bytes i ≡ table_bytes (fresh i n)
  bytes i ni = asleep (idle n lent) i (is_node_law n i ni) refl

  table : (i : ℕ) → Node n i → table_of (C.bytes i) ≡ fresh i n
  table i ni = ap table_of (bytes i ni) ∙ table_back (fresh i n) (left i ni)

  fresh_sound : (i : ℕ) → Node n i → sound (table_of (C.bytes i)) ≡ true
  fresh_sound i ni = ap sound (table i ni) ∙ (left i ni).table

  fresh_size : (i : ℕ) → Node n i → (table_of (C.bytes i)).nodes ≡ n
  unfolding fresh
  fresh_size i ni = ap (λ (t : Table). t.nodes) (table i ni)

  fresh_own : (i : ℕ) → Node n i → (table_of (C.bytes i)).own ≡ i
  unfolding fresh
  fresh_own i ni = ap (λ (t : Table). t.own) (table i ni)

  inv_begun : Inv (world C [] []) []
  inv_begun =
      record {
        k1 =
            record {
              sound = fresh_sound;
              facts = λ i ni. facts_at n (table_of (C.bytes i)) (fresh_sound i ni) (fresh_size i ni);
              own = fresh_own;
              size = fresh_size;
            };
        k2 =
            record {
              one = λ x y a b e. elim a [ ];
              tables = λ i ni.
                  record {
                    heads =
                        λ f h e z. absurd (fresh_only i n f h
                        (ap (λ (t : Table). head_of t f) (sym (table i ni)) ∙ e) z);
                    entries =
                        λ x m. none (subst (λ (l : List Listed). In x l)
                        (ap (λ (t : Table). t.entries) (table i ni) ∙ fresh_entries i n) m);
                  };
              pushes = λ p m. elim m [ ];
            };
        k3 = record { node = λ x m. elim m [ ]; seen = λ x m. elim m [ ] };
        k4 =
            record { from = λ p m. elim m [ ]; push = λ p m. elim m [ ]; to = λ a m. elim m [ ]; ack = λ a m. elim m [ ] };
        k5 = record { told = λ i j f ni nj ne h p. covers i j f ni nj };
        k6 = record { remembers = λ x m. elim m [ ] };
      }
    where
      none : {x : Listed} {P : Type 0} → In x [] → P
      none m = elim m [ ]

      covers : (i j f : ℕ) → Node n i → Node n j →
          Covers (table_of ((ghost (idle n lent)).bytes i)) (table_of ((ghost (idle n lent)).bytes j)) f
      covers i j f ni nj =
          subst (λ (t : Table). Covers t (table_of ((ghost (idle n lent)).bytes j)) f) (sym (table i ni))
          (subst (λ (t : Table). Covers (fresh i n) t f) (sym (table j nj)) (fresh_covers i j n f))

  pub reached_begun : Reached C
  reached_begun =
      record {
        pushes = [];
        acks = [];
        inv = inv_begun;
        sound = λ i ni. ap sound_bytes (bytes i ni) ∙ (left i ni).bytes;
        letters = λ m i. elim i [ ];
      }

-- ---- any steps, one after the other

-- a call of a node that has started
ghost_after : (c : Cluster) (i : ℕ) (k : Call) → c.started i ≡ true → after (ghost c) i k ≡ ghost (after c i k)
ghost_after c i k e =
    λ p. record {
      nodes = c.nodes;
      started = λ (j : ℕ). true;
      bytes = λ (j : ℕ). at j (eqb j i) refl p;
      written = sends k (answer k (same_bytes p)) ++ c.written;
      issued = issues k (answer k (same_bytes p)) (table_of (same_bytes p)) ++ c.issued;
    }
  where
    same_bytes : (ghost c).bytes i ≡ c.bytes i
    same_bytes = awake c i e

    at : (j : ℕ) (b : Bool) → eqb j i ≡ b →
        cond b (table_after (answer k ((ghost c).bytes i)) ((ghost c).bytes i)) ((ghost c).bytes j)
        ≡ cond (is_node c.nodes j && not (c.started j)) (table_bytes (fresh j c.nodes))
        (cond b (table_after (answer k (c.bytes i)) (c.bytes i)) (c.bytes j))
    at j true q =
        ap (λ (l : List ℕ). table_after (answer k l) l) same_bytes
        ∙ sym (woken (is_node c.nodes j) (c.started j) _ _ (ap c.started (eqb-true _ _ q) ∙ e))
    at j false q = refl

-- a node that starts has the table that it is taken to have
ghost_begun : (c : Cluster) (i : ℕ) → Node c.nodes i → c.started i ≡ false →
    number_of (start (c.bytes i) i c.nodes) ≡ 0 →
    ghost c ≡ ghost (begun c i)
ghost_begun c i ni e ok =
    λ p. record {
      nodes = c.nodes;
      started = λ (j : ℕ). true;
      bytes = λ (j : ℕ). at j (eqb j i) refl p;
      written = c.written;
      issued = c.issued;
    }
  where
    o : start (c.bytes i) i c.nodes ≡ done 0 (fresh i c.nodes) []
    o = started (c.bytes i) i c.nodes ok

    at : (j : ℕ) (b : Bool) → eqb j i ≡ b →
        (ghost c).bytes j
        ≡ cond (is_node c.nodes j && not (cond b true (c.started j))) (table_bytes (fresh j c.nodes))
        (cond b (table_after (start (c.bytes i) i c.nodes) (c.bytes i)) (c.bytes j))
    at j true q =
        let s : j ≡ i = eqb-true _ _ q in
        ap (ghost c).bytes s ∙ asleep c i (is_node_law c.nodes i ni) e
        ∙ sym (ap (λ (x : Outcome). table_after x (c.bytes i)) o) ∙ sym (woken (is_node c.nodes j) true _ _ refl)
    at j false q = refl

-- N stays, and is a size once a node has started
nodes_stay : (b c : Cluster) → Later b c → c.nodes ≡ b.nodes
nodes_stay b c same = refl
nodes_stay b c (starts l i ni f ok) = nodes_stay b _ l
nodes_stay b c (more l i k ni f h) = nodes_stay b _ l

start_size : (l : List ℕ) (i n : ℕ) → number_of (start l i n) ≡ 0 → is_size n ≡ true
unfolding start judged
start_size l i n e = go (not (eqb (length l) table_size)) (not (is_size n && is_node n i)) refl e
  where
    go : (a b : Bool) → not (is_size n && is_node n i) ≡ b →
        number_of (cond a (refused 1) (cond b (refused 2) (done 0 (fresh i n) []))) ≡ 0 → is_size n ≡ true
    go true b q e = absurd (omega arith)
    go false true q e = absurd (omega arith)
    go false false q e = (and_true (is_size n) _ (not-false _ q)).0

pub sized : (n : ℕ) (lent : ℕ → List ℕ) (c : Cluster) → Later (idle n lent) c → (i : ℕ) → c.started i ≡ true →
    is_size n ≡ true
sized n lent c same i e = absurd (true≢false (sym e))
sized n lent c (starts {c = d} l i ni f ok) j e =
    ap is_size (sym (nodes_stay (idle n lent) d l)) ∙ start_size (d.bytes i) i d.nodes ok
sized n lent c (more l i k ni f h) j e = sized n lent _ l j e

-- and so where every node has
pub all_sized : (n : ℕ) (lent : ℕ → List ℕ) (c : Cluster) → Later (idle n lent) c → Started c → (i : ℕ) → Node n i →
    is_size n ≡ true
all_sized n lent c l s i ni =
    sized n lent c l i (s i (subst (λ (m : ℕ). Node m i) (sym (nodes_stay (idle n lent) c l)) ni))

-- a message handed over is the same
handed : (c : Cluster) (k : Call) → Handed c k → Handed (ghost c) k
handed c (creates now d kind name set) h = h
handed c (unlinks now id) h = h
handed c (renames now id d name) h = h
handed c (removes now id) h = h
handed c (spreads id set) h = h
handed c (lists id room) h = h
handed c (pushes id node room) h = h
handed c (receives now message room) h = h
handed c (hears message) h = h
handed c counts h = h

pub reached : (n : ℕ) (lent : ℕ → List ℕ) → ((i : ℕ) → Node n i → is_size n ≡ true) → (c : Cluster) →
    Later (idle n lent) c →
    Reached (ghost c)
reached n lent size c same = reached_begun n lent size
reached n lent size c (starts {c = d} l i ni f ok) = subst Reached (ghost_begun d i ni f ok) (reached n lent size d l)
reached n lent size c (more {c = d} l i k ni f h) =
    subst Reached (ghost_after d i k f) (makes (ghost d) (reached n lent size d l) i ni k (handed d k h))
