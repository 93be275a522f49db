-- The calls of users: what each does to its own table, by one new stamp or by none. Assumes nothing.
use Rattle.std.specs.Prelude.{◌≡◌, ◌⊎◌, true, false}
use Rattle.std.proofs.Math.Path.{refl, ap, subst}
use Rattle.std.proofs.Common.{sym, ◌∙◌, inl, inr, arith}
use Rattle.std.proofs.Math.Option.{Option, some}
use mathlib.Core.List.{List, [], ◌∷◌, ◌++◌}
use Prim.Native.Nat.{ℕ, ◌+◌, ◌≤◌, ◌<◌}
use Rattle.names.specs.Names.{name_from}
use Rattle.numbers.specs.Nodes.{has, join}
use Rattle.numbers.specs.Ids.{id_of, clock_of}
use Rattle.numbers.specs.Laws.{maker_of, count_of}
use Rattle.records.specs.declared.head.Head.{Head}
use Rattle.records.specs.Heads.{root_head}
use Rattle.slots.specs.declared.listed.Listed.{Listed}
use Rattle.document.specs.Tables.{Table, with_next, head_of}
use Rattle.document.specs.Sound.{sound, is_directory}
use Rattle.document.specs.Steps.{stamp_at, put, issue, settle, with_state, with_place, with_holders, is_dead}
use Rattle.document.specs.Calls.{new_head, created, killed, renamed, spread_to}
use Rattle.views.specs.Lists.{In, same?, some_only, no_both}
use Rattle.views.specs.Puts.{head_id, head_own, head_put_same, head_put_other, put_cases}
use Rattle.views.specs.Sets.{has_join_left}
use Rattle.views.specs.Settles.{head_settle, settle_entries, settle_nodes, settle_highest}
use Rattle.cluster.specs.Cluster.{Node, State, state_of, stated, placed, creates, renames, draws}
use Rattle.cluster.specs.Ranks.{rank_o, rank, hold_held}
use Rattle.cluster.specs.Invariants.{World, Facts, Remembers, Inv}
use Rattle.cluster.specs.Facts.{facts_at}
use Rattle.cluster.specs.Adds.{Up, up_put}
use Rattle.cluster.specs.Settle.{Nobody, settled}
use Rattle.cluster.specs.Keeps.{New, Done}
use Rattle.cluster.specs.Issue.{Ready, Goes, goes_issue, rem_same}
use Rattle.cluster.specs.Accepted.{Creates, Kills, Renames, Spreads}

-- ---- from the invariants, and back to them

pub ready_of : (c : World) (L : List State) → Inv c L → (i : ℕ) → Node c.nodes i → Ready L (c.tab i)
ready_of c L k i ni =
    let f = k.k1.facts i ni in
    record {
      trues = k.k2.tables i ni;
      one = k.k2.one;
      seen = λ x m e.
          subst (λ (j : ℕ). clock_of x.stamp ≤ (c.tab j).highest) (e ∙ k.k1.own i ni) (k.k3.seen x m);
      rem = λ x m e. subst (λ (j : ℕ). Remembers (c.tab j) x) (e ∙ k.k1.own i ni) (k.k6.remembers x m);
      clocks = f.clocks;
      small = omega (arith, f.node.1, f.few);
      root = ap is_dead f.root;
    }

-- states, entries and memory do not see what settling changes
rem_settle : (t u : Table) (x : State) → Remembers u x → Remembers (settle t u) x
rem_settle t u x r =
    let q = ap rank_o (head_settle t u x.id) in
    record {
      held = omega (arith, r.held);
      entered = rw (settle_entries t u) r.entered;
      struck = λ lt. rw (settle_entries t u) (r.struck (omega arith));
    }

pub done_of : (n : ℕ) (L M : List State) (t u : Table) → t.nodes ≡ n → Goes L t M u → sound (settle t u) ≡ true →
    Done Nobody n L t M (settle t u)
done_of n L M t u q g s =
    record {
      grows = settled t u g.adds;
      sound = s;
      facts = facts_at n (settle t u) s (settle_nodes t u ∙ g.adds.nodes ∙ q);
      more = g.more;
      new = λ x m. new x (g.new x m);
      one = g.ready.one;
      trues =
          record {
            heads = λ f h e z. g.ready.trues.heads f h (sym (head_settle t u f) ∙ e) z;
            entries = λ x m. g.ready.trues.entries x (subst (λ (l : List Listed). In x l) (settle_entries t u) m);
          };
      remembers = λ x m e. rem_settle t u x (g.ready.rem x m (e ∙ sym g.adds.own));
    }
  where
    new : (x : State) → In x L ⊎ New t u x → In x L ⊎ New t (settle t u) x
    new x (inl m) = inl m
    new x (inr w) = inr (record { issuer = w.issuer; clock = rw (settle_highest t u) w.clock })

-- ---- what an accepted call does: it goes on, and then it settles

pub record Went (L : List State) (t : Table) (M : List State) (u : Table) : Type 0 where
  pub mid : Table
  pub goes : Goes L t M mid
  pub is : u ≡ settle t mid

module _ (L : List State) (n : ℕ) (t : Table) (r : Ready L t) (s : Facts n t) where
  -- a held replica that is not the root gets another state with a new stamp
  changed : (now id : ℕ) (h : Head) (f : ℕ → Head) → head_of t id ≡ some h → (id ≡ 0 → ⊥) →
      (f (stamp_at now t)).id ≡ h.id → (f (stamp_at now t)).holders ≡ h.holders → (f (stamp_at now t)).stamp
      ≡ stamp_at now t →
      Goes L t (state_of (f (stamp_at now t)) ∷ L) (issue now f t)
  changed now id h f e z ei eh es =
      let i : h.id ≡ id = head_id id t.replicas h e in
      let e' : head_of t (f (stamp_at now t)).id ≡ some h = ap (λ (m : ℕ). head_of t m) (ei ∙ i) ∙ e in
      goes_issue L now t f r
      (record {
        stamp = es;
        hold = λ j p. ap (λ (x : ℕ). has x j) eh ∙ (rw e' at p);
        nonroot = λ q. z (sym i ∙ sym ei ∙ q);
      })

  -- a file is not the root
  not_root : (id : ℕ) (h : Head) → head_of t id ≡ some h → is_directory h ≡ false → id ≡ 0 → ⊥
  not_root id h e d z =
      let q : h ≡ root_head n = some_only (sym e ∙ ap (λ (m : ℕ). head_of t m) z ∙ s.root) in
      no_both (is_directory h) (ap is_directory q) d

  pub went_kill : (now id : ℕ) (u : Table) → Kills t u now id →
      Went L t (stated (head_of t id) (λ h. with_state h 0 (stamp_at now t)) ++ L) u
  unfolding killed
  went_kill now id u k =
      let h : Head = k.head in
      record {
        mid = issue now (with_state h 0) t;
        goes =
            subst (λ (o : Option Head). Goes L t (stated o (λ h. with_state h 0 (stamp_at now t)) ++ L)
            (issue now (with_state h 0) t))
            (sym k.found) (changed now id h (with_state h 0) k.found k.other refl refl refl);
        is = k.is;
      }

  pub went_rename : (now id d : ℕ) (name : List ℕ) (u : Table) → Renames t u now id d name →
      Went L t (draws (renames now id d name) t ++ L) u
  unfolding renamed
  went_rename now id d name u k =
      let h : Head = k.head in
      let f : ℕ → Head = with_place h k.place (name_from name) in
      record {
        mid = issue now f t;
        goes =
            subst (λ (K : List State). Goes L t (K ++ L) (issue now f t)) (sym same)
            (changed now id h f k.found (not_root id h k.found k.file) refl refl refl);
        is = k.is;
      }
    where
      same : placed (head_of t d) (λ p. stated (head_of t id) (λ h. with_place h p (name_from name) (stamp_at now t)))
          ≡ state_of (with_place k.head k.place (name_from name) (stamp_at now t)) ∷ []
      same =
          ap (λ (o : Option Head). placed o
          (λ p. stated (head_of t id) (λ h. with_place h p (name_from name) (stamp_at now t))))
          k.there
          ∙ ap (λ (o : Option Head). stated o (λ h. with_place h k.place (name_from name) (stamp_at now t))) k.found

  -- the next count alone
  ready_next : (m : ℕ) → Ready L (with_next t m)
  ready_next m =
      record {
        trues = record { heads = r.trues.heads; entries = r.trues.entries };
        one = r.one;
        seen = r.seen;
        rem = λ x i e. let q = r.rem x i e in record { held = q.held; entered = q.entered; struck = q.struck };
        clocks = r.clocks;
        small = r.small;
        root = r.root;
      }

  from_next : (m : ℕ) (M : List State) (u : Table) → Goes L (with_next t m) M u → Goes L t M u
  from_next m M u g =
      let a = g.adds in
      record {
        adds =
            record {
              own = a.own;
              nodes = a.nodes;
              highest = a.highest;
              leq = λ f. let q = a.leq f in record { rank = q.rank; hold = q.hold; mark = q.mark };
              vers = a.vers;
              pend = a.pend;
            };
        more = g.more;
        new = λ x i. new x (g.new x i);
        ready = g.ready;
      }
    where
      new : (x : State) → In x L ⊎ New (with_next t m) u x → In x L ⊎ New t u x
      new x (inl i) = inl i
      new x (inr w) = inr (record { issuer = w.issuer; clock = w.clock })

  -- the next id is not held
  unheld : t.next < 16777216 → rank t (id_of t.own t.next) ≡ 0
  unheld lt = none_held (rank t (id_of t.own t.next))
      (λ one.
      let c = s.counted (id_of t.own t.next) one (maker_of t.own t.next lt) in
      omega (arith, count_of t.own t.next lt))
    where
      none_held : (m : ℕ) → (1 ≤ m → ⊥) → m ≡ 0
      none_held m free = omega (arith, free)

  pub went_create : (now d kind : ℕ) (name : List ℕ) (set : ℕ) (u : Table) → Creates t u now d kind name set →
      Went L t (draws (creates now d kind name set) t ++ L) u
  unfolding created
  went_create now d kind name set u k =
      let p : Head = k.place in
      let f : ℕ → Head = new_head kind (name_from name) set t p in
      let t' : Table = with_next t (t.next + 1) in
      record {
        mid = issue now f t';
        goes =
            subst (λ (o : Option Head).
            Goes L t (stated o (λ p. new_head kind (name_from name) set t p (stamp_at now t)) ++ L) (issue now f t'))
            (sym k.found)
            (from_next (t.next + 1) _ _
            (goes_issue L now t' f (ready_next (t.next + 1))
            (record {
              stamp = refl;
              hold =
                  λ j q. absurd (let h = hold_held (head_of t (id_of t.own t.next)) j q in omega
                  (arith, unheld k.more));
              nonroot = λ z. omega (arith, s.node.0);
            })));
        is = k.is;
      }

  -- holders joined, the state as it was
  goes_hold : (id : ℕ) (h : Head) (z : ℕ) → head_of t id ≡ some h →
      ((j : ℕ) → has h.holders j ≡ true → has z j ≡ true) →
      Goes L t L (put (with_holders h z) t)
  goes_hold id h z e sub =
      record {
        adds = up.adds;
        more = λ x m. m;
        new = λ x m. inl m;
        ready =
            record {
              trues =
                  record {
                    heads = λ g y p q. heads g y q
                        (put_cases (with_holders h z) t.replicas g y p);
                    entries = r.trues.entries;
                  };
              one = r.one;
              seen = r.seen;
              rem =
                  λ x m i. rem_same t (put (with_holders h z) t) x up.adds (ranks x.id (same? x.id h.id))
                  (r.rem x m i);
              clocks = up.clocks r.clocks;
              small = r.small;
              root = rooted (same? 0 h.id);
            };
      }
    where
      e' : head_of t h.id ≡ some h
      e' = head_own id t.replicas h e

      up : Up t (put (with_holders h z) t)
      up =
          up_put (with_holders h z) t (record { rank = rw e' (omega arith); hold = λ j p. sub j (rw e' at p) })
          (omega (arith, r.clocks h.id, ap rank_o e'))

      rooted : (0 ≡ h.id) ⊎ (0 ≡ h.id → ⊥) → is_dead (head_of (put (with_holders h z) t) 0) ≡ false
      rooted (inl p) =
          ap (λ (m : ℕ). is_dead (head_of (put (with_holders h z) t) m)) p ∙ ap is_dead
          (head_put_same (with_holders h z) t.replicas)
          ∙ sym (ap is_dead e') ∙ ap (λ (m : ℕ). is_dead (head_of t m)) (sym p) ∙ r.root
      rooted (inr ne) = ap is_dead (head_put_other (with_holders h z) t.replicas 0 ne) ∙ r.root

      ranks : (g : ℕ) → (g ≡ h.id) ⊎ (g ≡ h.id → ⊥) → rank (put (with_holders h z) t) g ≡ rank t g
      ranks g (inl p) =
          ap (λ (m : ℕ). rank (put (with_holders h z) t) m) p ∙ ap rank_o (head_put_same (with_holders h z) t.replicas)
          ∙ sym (ap rank_o e') ∙ ap (λ (m : ℕ). rank t m) (sym p)
      ranks g (inr ne) = ap rank_o (head_put_other (with_holders h z) t.replicas g ne)

      heads : (g : ℕ) (y : Head) → (g ≡ 0 → ⊥) →
          ((g ≡ h.id) × (y ≡ with_holders h z)) ⊎ ((g ≡ h.id → ⊥) × (head_of t g ≡ some y)) → In (state_of y) L
      heads g y q (inl a) =
          subst (λ (k : Head). In (state_of k) L) (sym a.1) (r.trues.heads h.id h e' (λ o. q (a.0 ∙ o)))
      heads g y q (inr a) = r.trues.heads g y a.1 q

  pub went_spread : (id set : ℕ) (u : Table) → Spreads t u id set → Went L t L u
  unfolding spread_to
  went_spread id set u k =
      let h : Head = k.head in
      record {
        mid = put (with_holders h (join h.holders set)) t;
        goes = goes_hold id h (join h.holders set) k.found (λ j p. has_join_left h.holders set j p);
        is = k.is;
      }
