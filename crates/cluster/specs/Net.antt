-- A push written, an acknowledgement taken, an acknowledgement written. Assumes nothing.
use Rattle.std.specs.Prelude.{◌≡◌, refl, ◌⊎◌, Bool, true, false, cond, List, ◌∷◌, ℕ, ◌≤◌, eqb}
use Rattle.std.proofs.Math.Path.{ap, subst}
use Rattle.std.proofs.Common.{sym, ◌∙◌, inl, inr, eqb-true}
use Rattle.std.proofs.Math.Option.{Option, some, none}
use mathlib.Core.List.Memᴰ
use native.Mathlib.Omega.{arith}
use Rattle.numbers.specs.Nodes.{has, without}
use Rattle.numbers.specs.Laws.{has_without}
use Rattle.records.specs.declared.head.Head.{Head}
use Rattle.messages.specs.declared.acknowledgement.Acknowledgement.{Acknowledgement}
use Rattle.slots.specs.declared.replica.Replica.{Replica}
use Rattle.document.specs.Tables.{Table, with_replicas, find, head_of?, head_of}
use Rattle.document.specs.Sound.{sound}
use Rattle.document.specs.Messages.{Push, chain_up, push_from}
use Rattle.document.specs.Receive.{joined_in, ack_for}
use Rattle.document.specs.Calls.{clear}
use Rattle.views.specs.Lists.{In, same?}
use Rattle.views.specs.Puts.{version_of, pending_of, find_id, head_id}
use Rattle.views.specs.Maps.{on_found, find_map, head_map}
use Rattle.views.specs.Chains.{chain_held}
use Rattle.kept.specs.Clears.{cleared, clear_map, cleared_head, cleared_version}
use Rattle.cluster.specs.Cluster.{Node, State, state_of}
use Rattle.cluster.specs.Ranks.{rank_o, vers, pend, Leq, Covers, leq_trans}
use Rattle.cluster.specs.Invariants.{World, TruePush, From, Inv}
use Rattle.cluster.specs.Facts.{facts_at}
use Rattle.cluster.specs.Directory.{inside_find, inside_in}
use Rattle.cluster.specs.Keeps.{Done, after, keeps}
use Rattle.cluster.specs.Users.{ready_of}
use Rattle.cluster.specs.Accepted.{Hears}

-- a push more, an acknowledgement more
abbrev pub wrote : World → Push → World
wrote c p = record { nodes = c.nodes; tab = c.tab; pushes = p ∷ c.pushes; acks = c.acks }

abbrev pub answered : World → Acknowledgement → World
answered c a = record { nodes = c.nodes; tab = c.tab; pushes = c.pushes; acks = a ∷ c.acks }

-- ---- a push written

module _ (c : World) (L : List State) (k : Inv c L) (i : ℕ) (ni : Node c.nodes i) (f j : ℕ) (r : Replica)
    (e : find f (c.tab i).replicas ≡ some r) where
  abbrev t : Table
  t = c.tab i

  abbrev p : Push
  p = push_from t r.head r.version j

  id : r.head.id ≡ f
  id = find_id f t.replicas r e

  head : head_of t r.head.id ≡ some r.head
  head = ap (λ (m : ℕ). head_of t m) id ∙ ap head_of? e

  own : t.own ≡ i
  own = k.k1.own i ni

  this : TruePush L p
  unfolding push_from
  this =
      record {
        root =
            λ z. omega (
              arith,
              ap rank_o (ap (λ (m : ℕ). head_of t m) (sym z) ∙ head),
              ap rank_o
                  (k.k1.facts i ni).root,
            );
        heads = λ h m z. at h (Memᴰ.cases_cons m) z;
        entries = λ x m. (k.k2.tables i ni).entries x (inside_in r.head.id t.entries x m);
      }
    where
      at : (h : Head) → (h ≡ r.head) ⊎ In h (chain_up r.head.depth r.head.directory t) → (h.id ≡ 0 → ⊥) →
          In (state_of h) L
      at h (inl q) z =
          (k.k2.tables i ni).heads r.head.id h (head ∙ ap some (sym q)) (λ o. z (ap (λ (y : Head). y.id) q ∙ o))
      at h (inr m) z =
          let g = chain_held r.head.depth r.head.directory t h m in
          (k.k2.tables i ni).heads g.0 h g.1 (λ o. z (head_id g.0 t.replicas h g.1 ∙ o))

  version : vers t r.head.id ≡ r.version
  version = ap (λ (m : ℕ). vers t m) id ∙ ap version_of e

  from : From c p.sender p.first.id p.version
  unfolding push_from
  from =
      record {
        node = rw own ni;
        most = subst (λ (s : ℕ). r.version ≤ vers (c.tab s) r.head.id) (sym own) (omega (arith, version));
        least = omega (arith, version, (k.k1.facts i ni).versions r.head.id (omega (arith, ap rank_o head)));
      }

  covered : Leq p.first.id (head_of (c.tab p.sender) p.first.id) (some p.first)
      (c.tab p.sender).entries (joined_in p)
  unfolding push_from
  covered =
      subst (λ (s : ℕ).
      Leq r.head.id (head_of (c.tab s) r.head.id) (some r.head) (c.tab s).entries (joined_in p)) (sym own)
      (record {
        rank = rw head (omega arith);
        hold = λ y o. rw head at o;
        mark = λ a b. rw (inside_find r.head.id a b t.entries) (omega arith);
      })

  pub writes_keep : Inv (wrote c p) L
  writes_keep =
      record {
        k1 = record { sound = k.k1.sound; facts = k.k1.facts; own = k.k1.own; size = k.k1.size };
        k2 = record { one = k.k2.one; tables = k.k2.tables; pushes = λ q m. truth q (Memᴰ.cases_cons m) };
        k3 = record { node = k.k3.node; seen = k.k3.seen };
        k4 =
            record {
              from = λ q m. from' q (Memᴰ.cases_cons m);
              push = λ q m. push' q (Memᴰ.cases_cons m);
              to = λ a m. still _ _ _ (k.k4.to a m);
              ack = k.k4.ack;
            };
        k5 = record { told = k.k5.told };
        k6 = record { remembers = k.k6.remembers };
      }
    where
      still : (s g v : ℕ) → From c s g v → From (wrote c p) s g v
      still s g v o = record { node = o.node; most = o.most; least = o.least }

      truth : (q : Push) → (q ≡ p) ⊎ In q c.pushes → TruePush L q
      truth q (inl a) = subst (λ (z : Push). TruePush L z) (sym a) this
      truth q (inr m) = k.k2.pushes q m

      from' : (q : Push) → (q ≡ p) ⊎ In q c.pushes → From (wrote c p) q.sender q.first.id q.version
      from' q (inl a) =
          subst (λ (z : Push). From (wrote c p) z.sender z.first.id z.version) (sym a) (still _ _ _ from)
      from' q (inr m) = still _ _ _ (k.k4.from q m)

      push' : (q : Push) → (q ≡ p) ⊎ In q c.pushes → vers (c.tab q.sender) q.first.id ≡ q.version →
          Leq q.first.id (head_of (c.tab q.sender) q.first.id) (some q.first)
          (c.tab q.sender).entries (joined_in q)
      push' q (inl a) x =
          subst (λ (z : Push).
          Leq z.first.id (head_of (c.tab z.sender) z.first.id) (some z.first)
          (c.tab z.sender).entries
          (joined_in z)) (sym a) covered
      push' q (inr m) x = k.k4.push q m x

-- ---- an acknowledgement written

pub answers_keep : (c : World) (L : List State) → Inv c L → (p : Push) → In p c.pushes →
    Leq p.first.id (some p.first) (head_of (c.tab p.addressee) p.first.id) (joined_in p)
    (c.tab p.addressee).entries →
    Inv (answered c (ack_for p)) L
answers_keep c L k p m l =
    record {
      k1 = record { sound = k.k1.sound; facts = k.k1.facts; own = k.k1.own; size = k.k1.size };
      k2 = record { one = k.k2.one; tables = k.k2.tables; pushes = k.k2.pushes };
      k3 = record { node = k.k3.node; seen = k.k3.seen };
      k4 =
          record {
            from = λ q i. still _ _ _ (k.k4.from q i);
            push = k.k4.push;
            to = λ a i. to a (Memᴰ.cases_cons i);
            ack = λ a i. ack a (Memᴰ.cases_cons i);
          };
      k5 = record { told = k.k5.told };
      k6 = record { remembers = k.k6.remembers };
    }
  where
    still : (s g v : ℕ) → From c s g v → From (answered c (ack_for p)) s g v
    still s g v o = record { node = o.node; most = o.most; least = o.least }

    to : (a : Acknowledgement) → (a ≡ ack_for p) ⊎ In a c.acks →
        From (answered c (ack_for p)) a.addressee a.id a.version
    to a (inl q) =
        subst (λ (z : Acknowledgement). From (answered c (ack_for p)) z.addressee z.id z.version) (sym q)
        (still _ _ _ (k.k4.from p m))
    to a (inr i) = still _ _ _ (k.k4.to a i)

    ack : (a : Acknowledgement) → (a ≡ ack_for p) ⊎ In a c.acks → vers (c.tab a.addressee) a.id ≡ a.version →
        Covers (c.tab a.addressee) (c.tab a.sender) a.id
    ack a (inl q) =
        subst (λ (z : Acknowledgement).
        vers (c.tab z.addressee) z.id ≡ z.version → Covers (c.tab z.addressee) (c.tab z.sender) z.id)
        (sym q) (λ v. leq_trans p.first.id _ _ _ _ _ _ (k.k4.push p m v) l)
    ack a (inr i) = k.k4.ack a i

-- ---- an acknowledgement taken

-- what an id finds then
find_clear : (id s : ℕ) (l : List Replica) (g : ℕ) → find g (clear id s l) ≡ on_found (cleared id s) (find g l)
find_clear id s l g = ap (find g) (clear_map id s l) ∙ find_map (cleared id s) (cleared_head id s) g l

version_clear : (id s : ℕ) (o : Option Replica) → version_of (on_found (cleared id s) o) ≡ version_of o
version_clear id s none = refl
version_clear id s (some r) = cleared_version id s r

-- the pending set of that replica has lost the node, and nothing else has changed
pending_clear : (id s j : ℕ) (o : Option Replica) → has (pending_of (on_found (cleared id s) o)) j ≡ false →
    (has (pending_of o) j ≡ false) ⊎ ((r : Replica) × (o ≡ some r) × (r.head.id ≡ id) × (j ≡ s))
pending_clear id s j none p = inl p
pending_clear id s j (some r) p = go (eqb r.head.id id) refl (same? s j) p
  where
    go : (b : Bool) → eqb r.head.id id ≡ b → (s ≡ j) ⊎ (s ≡ j → ⊥) →
        has (cond b (record { head = r.head; version = r.version; pending = without r.pending s }) r).pending j
        ≡ false →
        (has r.pending j ≡ false) ⊎ ((x : Replica) × (some r ≡ some x) × (x.head.id ≡ id) × (j ≡ s))
    go true e (inl q) p = inr (r, refl, eqb-true _ _ e, sym q)
    go true e (inr ne) p = inl (sym (has_without r.pending s j ne) ∙ p)
    go false e q p = inl p

abbrev pub ToldBy : Acknowledgement → ℕ → ℕ → Type 0
ToldBy a g j = (g ≡ a.id) × (j ≡ a.sender)

module _ (c : World) (L : List State) (k : Inv c L) (i : ℕ) (ni : Node c.nodes i) (a : Acknowledgement)
    (m : In a c.acks) where
  abbrev rs : List Replica
  rs = (c.tab i).replicas

  abbrev u : Table
  u = with_replicas (c.tab i) (clear a.id a.sender rs)

  heads : (g : ℕ) → head_of u g ≡ head_of (c.tab i) g
  heads g =
      ap (λ (l : List Replica). head_of? (find g l)) (clear_map a.id a.sender rs)
      ∙ head_map (cleared a.id a.sender) (cleared_head a.id a.sender) g rs

  versions : (g : ℕ) → vers u g ≡ vers (c.tab i) g
  versions g = ap version_of (find_clear a.id a.sender rs g) ∙ version_clear a.id a.sender (find g rs)

  pends : (g j : ℕ) → pend u g j ≡ false → (pend (c.tab i) g j ≡ false) ⊎ ToldBy a g j
  pends g j p =
      go (pending_clear a.id a.sender j (find g rs)
      (sym (ap (λ (o : Option Replica). has (pending_of o) j) (find_clear a.id a.sender rs g)) ∙ p))
    where
      go : (pend (c.tab i) g j ≡ false)
          ⊎ ((r : Replica) × (find g rs ≡ some r) × (r.head.id ≡ a.id) × (j ≡ a.sender)) →
          (pend (c.tab i) g j ≡ false) ⊎ ToldBy a g j
      go (inl q) = inl q
      go (inr q) = inr (sym (find_id g rs q.0 q.1) ∙ q.2, q.3)

  up : (g : ℕ) → Covers (c.tab i) u g
  up g = record { rank = rw (heads g) (omega arith); hold = λ j p. rw (heads g) p; mark = λ x y. omega arith }

  back : (g : ℕ) → Covers u (c.tab i) g
  back g = record { rank = rw (heads g) (omega arith); hold = λ j p. rw (heads g) at p; mark = λ x y. omega arith }

  done : sound u ≡ true → Done (ToldBy a) c.nodes L (c.tab i) L u
  done sd =
      let r = ready_of c L k i ni in
      record {
        grows =
            record {
              own = refl;
              nodes = refl;
              highest = omega arith;
              leq = up;
              told = λ g h x. inl (record { vers = versions g; pend = λ j p. pends g j p; covers = back g });
            };
        sound = sd;
        facts = facts_at c.nodes u sd (k.k1.size i ni);
        more = λ x o. o;
        new = λ x o. inl o;
        one = r.one;
        trues = record { heads = λ f h x z. r.trues.heads f h (sym (heads f) ∙ x) z; entries = r.trues.entries };
        remembers = λ x o q.
            let y = r.rem x o q in
            let s = ap rank_o (heads x.id) in
            record { held = omega (arith, y.held); entered = y.entered; struck = λ lt. y.struck (omega arith) };
      }

  -- the sender covers what was acknowledged
  ok : Hears (c.tab i) u a → (f j : ℕ) → ToldBy a f j → Covers (c.tab i) (c.tab j) f
  ok h f j (ef, ej) =
      let to : a.addressee ≡ i = h.mine ∙ k.k1.own i ni in
      let v : vers (c.tab a.addressee) a.id ≡ a.version =
      ap (λ (s : ℕ). vers (c.tab s) a.id) to ∙ ap version_of h.found ∙ h.current in
      let w = subst (λ (s : ℕ). Covers (c.tab s) (c.tab a.sender) a.id) to (k.k4.ack a m v) in
      rw (ef, ej) w

  pub hears_keep : Hears (c.tab i) u a → sound u ≡ true → Inv (after c i u) L
  hears_keep h sd = keeps c L k i ni L u (ToldBy a) (ok h) (done sd)
