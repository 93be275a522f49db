-- One accepted call of one node keeps K1 to K7: by what the call does to its own table, and nothing else of it. Each
-- call shows `Done`; a changed call shows it again, and nothing here changes. Assumes nothing.
use Rattle.std.specs.Prelude.{◌≡◌, refl, ◌⊎◌, cond, List, ℕ, ◌≤◌, eqb}
use Rattle.std.proofs.Common.{sym, subst, ◌∙◌, inl, inr, arith, eq-eqb, ne_eqb}
use Rattle.std.proofs.Math.Bool.{true, false}
use Rattle.numbers.specs.Ids.{clock_of, issuer}
use Rattle.slots.specs.declared.listed.Listed.{Listed}
use Rattle.document.specs.Tables.{Table, find, head_of}
use Rattle.document.specs.Sound.{sound}
use Rattle.views.specs.Lists.{In, same?, no_both}
use Rattle.cluster.specs.Cluster.{Node, State, state_of}
use Rattle.cluster.specs.Ranks.{hold_o, vers, pend, Covers, leq_refl, leq_trans, held, hold_held, vers_held}
use Rattle.cluster.specs.Invariants.{World, Facts, K1, True, TrueTable, One, K2, K3, From, K4, K5, Remembers, K6, Inv}
use Rattle.cluster.specs.Settle.{Still, ToTell, Grows}

-- ---- tables by node

abbrev pub upd : (ℕ → Table) → ℕ → Table → ℕ → Table
upd T i t j = cond (eqb j i) t (T j)

-- node i has the table t now
abbrev pub after : World → ℕ → Table → World
after c i t = record { nodes = c.nodes; tab = upd c.tab i t; pushes = c.pushes; acks = c.acks }

pub upd_same : (T : ℕ → Table) (i : ℕ) (t : Table) → upd T i t i ≡ t
upd_same T i t = rw (eq-eqb i i refl)

upd_other : (T : ℕ → Table) (i : ℕ) (t : Table) (j : ℕ) → (j ≡ i → ⊥) → upd T i t j ≡ T j
upd_other T i t j ne = rw (ne_eqb j i ne)

-- what holds of t and of every other table holds of each
upd_all : (T : ℕ → Table) (i : ℕ) (t : Table) (P : ℕ → Table → Type 0) → P i t → ((j : ℕ) → (j ≡ i → ⊥) → P j (T j)) →
    (j : ℕ) → P j (upd T i t j)
upd_all T i t P here there j = go (same? j i)
  where
    go : (j ≡ i) ⊎ (j ≡ i → ⊥) → P j (upd T i t j)
    go (inl e) = subst (λ (m : ℕ). P m (upd T i t m)) (sym e) (subst (λ (u : Table). P i u) (sym (upd_same T i t)) here)
    go (inr ne) = subst (λ (u : Table). P j u) (sym (upd_other T i t j ne)) (there j ne)

-- ---- an accepted call, by its table before and after and the states issued before and after

pub record New (t u : Table) (x : State) : Type 0 where
  pub issuer : issuer x.stamp ≡ t.own
  pub clock : clock_of x.stamp ≤ u.highest

pub record Done (Told : ℕ → ℕ → Type 0) (n : ℕ) (L : List State) (t : Table) (M : List State) (u : Table) : Type 0 where
  pub grows : Grows Told t u
  pub sound : sound u ≡ true
  pub facts : Facts n u
  pub more : (x : State) → In x L → In x M
  pub new : (x : State) → In x M → In x L ⊎ New t u x
  pub one : One M
  pub trues : TrueTable M u
  pub remembers : (x : State) → In x M → issuer x.stamp ≡ t.own → Remembers u x

pub true_more : (L M : List State) (e : Listed) → ((x : State) → In x L → In x M) → True L e → True M e
true_more L M e m t =
    record { state = t.state; known = m t.state t.known; child = t.child; stamp = t.stamp; live = t.live }

-- versions of what is held do not fall
vers_grow : (Told : ℕ → ℕ → Type 0) (t u : Table) → Grows Told t u → (f : ℕ) → 1 ≤ vers t f → vers t f ≤ vers u f
vers_grow Told t u g f p =
    let r = vers_held (find f t.replicas) p in
    let h = held (head_of u f) (omega (arith, (g.leq f).rank)) in
    go (g.told f h.0 h.1)
  where
    go : Still Told t u f ⊎ ToTell t u f → vers t f ≤ vers u f
    go (inl s) = omega (arith, s.vers)
    go (inr s) = omega (arith, s.vers)

-- what stayed at its version has what it had
stayed : (Told : ℕ → ℕ → Type 0) (t u : Table) → Grows Told t u → (f v : ℕ) → 1 ≤ v → v ≤ vers t f → vers u f ≡ v →
    (vers t f ≡ v) × Covers u t f
stayed Told t u g f v a b e =
    let r = vers_held (find f t.replicas) (omega arith) in
    let h = held (head_of u f) (omega (arith, (g.leq f).rank)) in
    go (g.told f h.0 h.1)
  where
    go : Still Told t u f ⊎ ToTell t u f → (vers t f ≡ v) × Covers u t f
    go (inl s) = (omega (arith, s.vers), s.covers)
    go (inr s) = absurd (omega (arith, s.vers))

module _ (c : World) (L : List State) (k : Inv c L) (i : ℕ) (ni : Node c.nodes i) (M : List State) (u : Table)
    (Told : ℕ → ℕ → Type 0) (ok : (f j : ℕ) → Told f j → Covers (c.tab i) (c.tab j) f)
    (d : Done Told c.nodes L (c.tab i) M u) where
  T' : ℕ → Table
  T' = upd c.tab i u

  own_i : (c.tab i).own ≡ i
  own_i = k.k1.own i ni

  -- every table has what it had
  later : (j f : ℕ) → Covers (c.tab j) (T' j) f
  unfolding T'
  later j f =
      upd_all c.tab i u (λ (m : ℕ) (t : Table). Covers (c.tab m) t f) (d.grows.leq f) (λ m ne. leq_refl f _ _) j

  later_highest : (j : ℕ) → (c.tab j).highest ≤ (T' j).highest
  unfolding T'
  later_highest j =
      upd_all c.tab i u (λ (m : ℕ) (t : Table). (c.tab m).highest ≤ t.highest) d.grows.highest
      (λ m ne. omega arith) j

  later_vers : (j f : ℕ) → 1 ≤ vers (c.tab j) f → vers (c.tab j) f ≤ vers (T' j) f
  unfolding T'
  later_vers j f =
      upd_all c.tab i u (λ (m : ℕ) (t : Table). 1 ≤ vers (c.tab m) f → vers (c.tab m) f ≤ vers t f)
      (vers_grow Told (c.tab i) u d.grows f) (λ m ne p. omega arith) j

  stays : (j f v : ℕ) → 1 ≤ v → v ≤ vers (c.tab j) f → vers (T' j) f ≡ v →
      (vers (c.tab j) f ≡ v) × Covers (T' j) (c.tab j) f
  unfolding T'
  stays j f v a =
      upd_all c.tab i u
      (λ (m : ℕ) (t : Table). v ≤ vers (c.tab m) f → vers t f ≡ v → (vers (c.tab m) f ≡ v) × Covers t (c.tab m) f)
      (λ b e. stayed Told (c.tab i) u d.grows f v a b e) (λ m ne b e. (e, leq_refl f _ _)) j

  pub keep1 : K1 (after c i u)
  keep1 =
      record {
        sound =
            upd_all c.tab i u (λ (m : ℕ) (t : Table). Node c.nodes m → sound t ≡ true) (λ n. d.sound)
            (λ m ne n. k.k1.sound m n);
        facts =
            upd_all c.tab i u (λ (m : ℕ) (t : Table). Node c.nodes m → Facts c.nodes t) (λ n. d.facts)
            (λ m ne n. k.k1.facts m n);
        own =
            upd_all c.tab i u (λ (m : ℕ) (t : Table). Node c.nodes m → t.own ≡ m) (λ n. d.grows.own ∙ own_i)
            (λ m ne n. k.k1.own m n);
        size =
            upd_all c.tab i u (λ (m : ℕ) (t : Table). Node c.nodes m → t.nodes ≡ c.nodes)
            (λ n. d.grows.nodes ∙ k.k1.size i ni) (λ m ne n. k.k1.size m n);
      }

  pub keep2 : K2 (after c i u) M
  keep2 =
      record {
        one = d.one;
        tables =
            upd_all c.tab i u (λ (m : ℕ) (t : Table). Node c.nodes m → TrueTable M t) (λ n. d.trues)
            (λ m ne n. record {
              heads = λ f h e z. d.more (state_of h) ((k.k2.tables m n).heads f h e z);
              entries = λ e p. true_more L M e d.more ((k.k2.tables m n).entries e p);
            });
        pushes = λ p m.
            let o = k.k2.pushes p m in
            record {
              root = o.root;
              heads = λ h j z. d.more (state_of h) (o.heads h j z);
              entries = λ e j. true_more L M e d.more (o.entries e j);
            };
      }

  pub keep3 : K3 (after c i u) M
  unfolding T'
  keep3 = record { node = λ x m. node x (d.new x m); seen = λ x m. seen x (d.new x m) }
    where
      node : (x : State) → In x L ⊎ New (c.tab i) u x → Node c.nodes (issuer x.stamp)
      node x (inl m) = k.k3.node x m
      node x (inr w) = rw (w.issuer ∙ own_i) ni

      seen : (x : State) → In x L ⊎ New (c.tab i) u x → clock_of x.stamp ≤ (T' (issuer x.stamp)).highest
      seen x (inl m) = omega (arith, k.k3.seen x m, later_highest (issuer x.stamp))
      seen x (inr w) = rw (w.issuer ∙ own_i, upd_same c.tab i u) w.clock

  from : (j f v : ℕ) → From c j f v → From (after c i u) j f v
  unfolding T'
  from j f v o =
      record {
        node = o.node;
        most = omega (arith, later_vers j f (omega (arith, o.most, o.least)), o.most);
        least = o.least;
      }

  pub keep4 : K4 (after c i u)
  unfolding T'
  keep4 =
      record {
        from = λ p m. from p.sender p.first.id p.version (k.k4.from p m);
        push = λ p m e.
            let o = k.k4.from p m in
            let s = stays p.sender p.first.id p.version o.least o.most e in
            leq_trans p.first.id _ _ _ _ _ _ s.1 (k.k4.push p m s.0);
        to = λ a m. from a.addressee a.id a.version (k.k4.to a m);
        ack = λ a m e.
            let o = k.k4.to a m in
            let s = stays a.addressee a.id a.version o.least o.most e in
            leq_trans a.id _ _ _ _ _ _ s.1
            (leq_trans a.id _ _ _ _ _ _ (k.k4.ack a m s.0) (later a.sender a.id));
      }

  pub keep5 : K5 (after c i u)
  unfolding T'
  keep5 =
      record { told = λ a b f na nb ne h p. leq_trans f _ _ _ _ _ _ (source a b f na nb ne h p) (later b f) }
    where
      here : (b f : ℕ) → Node c.nodes b → (i ≡ b → ⊥) → hold_o (head_of u f) b ≡ true → pend u f b ≡ false →
          Covers u (c.tab b) f
      here b f nb ne h p =
          let g = held (head_of u f) (hold_held (head_of u f) b h) in
          go (d.grows.told f g.0 g.1)
        where
          on : Still Told (c.tab i) u f → (pend (c.tab i) f b ≡ false) ⊎ Told f b → Covers u (c.tab b) f
          on s (inl q) =
              leq_trans f _ _ _ _ _ _ s.covers (k.k5.told i b f ni nb ne (s.covers.hold b h) q)
          on s (inr q) = leq_trans f _ _ _ _ _ _ s.covers (ok f b q)

          go : Still Told (c.tab i) u f ⊎ ToTell (c.tab i) u f → Covers u (c.tab b) f
          go (inl s) = on s (s.pend b p)
          go (inr s) = absurd (no_both (pend u f b) (s.pend b (λ z. ne (sym own_i ∙ z)) h) p)

      source : (a b f : ℕ) → Node c.nodes a → Node c.nodes b → (a ≡ b → ⊥) → hold_o (head_of (T' a) f) b ≡ true →
          pend (T' a) f b ≡ false → Covers (T' a) (c.tab b) f
      source a b f na nb =
          upd_all c.tab i u
          (λ (m : ℕ) (t : Table). Node c.nodes m → (m ≡ b → ⊥) → hold_o (head_of t f) b ≡ true → pend t f b ≡ false →
          Covers t (c.tab b) f)
          (λ n. here b f nb) (λ m ne n. k.k5.told m b f n nb) a na

  pub keep6 : K6 (after c i u) M
  keep6 = record { remembers = λ x m. go x m (same? (issuer x.stamp) i) (d.new x m) }
    where
      go : (x : State) → In x M → (issuer x.stamp ≡ i) ⊎ (issuer x.stamp ≡ i → ⊥) → In x L ⊎ New (c.tab i) u x →
          Remembers (upd c.tab i u (issuer x.stamp)) x
      go x m (inl e) w = rw (e, upd_same c.tab i u) (d.remembers x m (e ∙ sym own_i))
      go x m (inr ne) (inl o) = rw (upd_other c.tab i u (issuer x.stamp) ne) (k.k6.remembers x o)
      go x m (inr ne) (inr w) = absurd (ne (w.issuer ∙ own_i))

  pub keeps : Inv (after c i u) M
  keeps = record { k1 = keep1; k2 = keep2; k3 = keep3; k4 = keep4; k5 = keep5; k6 = keep6 }
