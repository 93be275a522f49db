-- Receive: (a) to (e) keep truth, clocks and memory and issue nothing; (f) issues; the message is covered. Assumes
-- nothing.
use Rattle.std.specs.Prelude.{◌≡◌, ◌⊎◌, Bool, true, false, not, cond, List, [], ◌∷◌, ◌++◌, ℕ, suc, ◌≤◌, eqb, ltb}
use Rattle.std.proofs.Math.Path.{refl}
use Rattle.std.proofs.Common.{ap, sym, subst, ◌∙◌, inl, inr, arith, ltb-true}
use Rattle.std.proofs.Math.Option.{Option, some, none}
use mathlib.Core.List.Memᴰ
use Rattle.numbers.specs.Nodes.{join}
use Rattle.numbers.specs.Ids.{issuer}
use Rattle.records.specs.declared.head.Head.{Head}
use Rattle.slots.specs.declared.replica.Replica.{Replica}
use Rattle.slots.specs.declared.listed.Listed.{Listed}
use Rattle.document.specs.Tables.{Table, find, head_of?, head_of}
use Rattle.document.specs.Sound.{sound}
use Rattle.document.specs.Steps.{put, put_head, set_by, join_all, with_holders, is_dead}
use Rattle.document.specs.Messages.{Push}
use Rattle.document.specs.Receive.{step_a, with_own, make_missing, step_b, merged, step_c, joined_in, set_if_made, set_above, set_if_taken, set_in, joins, step_f, taken, received, ack_for}
use Rattle.views.specs.Lists.{In, same?}
use Rattle.views.specs.Puts.{head_id, head_put_same, head_put_other, put_cases}
use Rattle.views.specs.Joins.{join_all_same}
use Rattle.views.specs.Takes.{merged_rank, merged_hold, merged_id, merged_new, merged_old, merged_live}
use Rattle.kept.specs.ReceiveAbove.{above_held}
use Rattle.cluster.specs.Cluster.{Node, State, state_of, mended_all, received_states}
use Rattle.cluster.specs.Ranks.{rank_o, rank, mark, Leq, leq_trans, held}
use Rattle.cluster.specs.Invariants.{World, True, AllTrue, TrueTable, TruePush, Remembers, Inv}
use Rattle.cluster.specs.Adds.{Adds, Up, up_trans, up_joins, up_step_a, seen_step_a, up_step_b, up_merged}
use Rattle.cluster.specs.Settle.{Nobody, covers_settle}
use Rattle.cluster.specs.Keeps.{Done, upd, upd_same, after, keeps}
use Rattle.cluster.specs.Issue.{joins_mark, true_joins, set_old, true_set, Ready, Goes, goes_trans, rem_same, rem_changed, goes_step_f}
use Rattle.cluster.specs.Users.{ready_of, done_of}
use Rattle.cluster.specs.Net.{answered, answers_keep}
use Rattle.cluster.specs.Accepted.{Takes}

-- ---- truth

-- a head that was issued, unless it is the root's
abbrev Known : List State → Head → Type 0
Known L h = (h.id ≡ 0 → ⊥) → In (state_of h) L

true_put : (L : List State) (h : Head) (t : Table) → TrueTable L t → Known L h → TrueTable L (put h t)
true_put L h t a i = record { heads = λ f g e z. go f g z (put_cases h t.replicas f g e); entries = a.entries }
  where
    go : (f : ℕ) (g : Head) → (f ≡ 0 → ⊥) → ((f ≡ h.id) × (g ≡ h)) ⊎ ((f ≡ h.id → ⊥) × (head_of t f ≡ some g)) →
        In (state_of g) L
    go f g z (inl p) = subst (λ (y : Head). In (state_of y) L) (sym p.1) (i (λ o. z (p.0 ∙ o)))
    go f g z (inr p) = a.heads f g p.1 z

true_missing : (L : List State) (o : Option Head) (h : Head) (t : Table) → TrueTable L t → Known L h →
    TrueTable L (make_missing o h t)
true_missing L none h t a i = true_put L (with_own h t) t a i
true_missing L (some o) h t a i = a

true_step_b : (L : List State) (hs : List Head) (t : Table) → TrueTable L t → ((h : Head) → In h hs → Known L h) →
    TrueTable L (step_b hs t)
unfolding step_b
true_step_b L [] t a k = a
true_step_b L (h ∷ hs) t a k =
    true_missing L (head_of (step_b hs t) h.id) h (step_b hs t) (true_step_b L hs t a (λ x m. k x (Memᴰ.tail m)))
    (k h (Memᴰ.head refl))

true_merged : (L : List State) (o : Option Head) (h : Head) (t : Table) → head_of t h.id ≡ o → TrueTable L t →
    Known L h →
    TrueTable L (put (merged o h t) t)
true_merged L none h t e a i = true_put L (with_own h t) t a i
true_merged L (some o) h t e a i = go (ltb o.stamp h.stamp)
  where
    go : (b : Bool) → TrueTable L (put (with_holders (cond b h o) (join o.holders h.holders)) t)
    go true = true_put L (with_holders h (join o.holders h.holders)) t a i
    go false =
        true_put L (with_holders o (join o.holders h.holders)) t a
        (λ z. a.heads h.id o e (λ q. z (head_id h.id t.replicas o e ∙ q)))

-- what is not held is not the root
absent : (t : Table) (f : ℕ) → 1 ≤ rank t 0 → head_of t f ≡ none → f ≡ 0 → ⊥
absent t f a e z = omega (arith, ap rank_o e, ap (λ (m : ℕ). rank t m) z)

true_made : (L : List State) (t : Table) (o : Option Head) (h : Head) → head_of t h.id ≡ o → 1 ≤ rank t 0 →
    Known L h →
    AllTrue L (set_if_made o h)
true_made L t none h e r i = true_set L h none (i (absent t h.id r e))
true_made L t (some o) h e r i = λ x m. elim m [ ]

true_above : (L : List State) (t : Table) (hs : List Head) → 1 ≤ rank t 0 → ((h : Head) → In h hs → Known L h) →
    AllTrue L (set_above t hs)
unfolding set_above
true_above L t [] r k x m = elim m [ ]
true_above L t (h ∷ hs) r k x m =
    go (Memᴰ.append_cases (set_above t hs) m) (true_above L t hs r (λ y i. k y (Memᴰ.tail i)) x)
  where
    go : In x (set_above t hs) ⊎ In x (set_if_made (head_of t h.id) h) → (In x (set_above t hs) → True L x) → True L x
    go (inl i) ih = ih i
    go (inr i) ih = true_made L t (head_of t h.id) h refl r (k h (Memᴰ.head refl)) x i

true_taken : (L : List State) (t : Table) (o : Option Head) (h : Head) → head_of t h.id ≡ o → 1 ≤ rank t 0 →
    (h.id ≡ 0 → h.stamp ≡ 0) → Known L h → AllTrue L (set_if_taken o h)
true_taken L t none h e r z i = true_set L h none (i (absent t h.id r e))
true_taken L t (some o) h e r z i = go (ltb o.stamp h.stamp) refl
  where
    go : (c : Bool) → ltb o.stamp h.stamp ≡ c → AllTrue L (cond c (set_by h (some o)) [])
    go true lt = true_set L h (some o) (i (λ q. let y = z q in omega (arith, ltb-true)))
    go false lt = λ x m. elim m [ ]

-- ---- what is held stays as it is, but for the first

step_b_keeps : (hs : List Head) (t : Table) (g : ℕ) → 1 ≤ rank t g → head_of (step_b hs t) g ≡ head_of t g
step_b_keeps hs t g r = let o = held (head_of t g) r in above_held hs t g o.0 o.1 ∙ sym o.1

-- ---- (a) to (e)

module _ (L : List State) (p : Push) (t : Table) (r : Ready L t) (tp : TruePush L p) (rooted : 1 ≤ rank t 0) where
  abbrev F : Head
  F = p.first

  abbrev f : ℕ
  f = p.first.id

  -- after (b), and after (e)
  abbrev B : Table
  B = step_b p.above (step_a p t)

  abbrev E : Table
  E = join_all (joins p t) (taken p t)

  known : (h : Head) → In h (p.first ∷ p.above) → Known L h
  known = tp.heads

  up_B : Up t B
  up_B = up_trans (up_step_a p t) (up_step_b p.above (step_a p t) (λ h i. seen_step_a p t h (Memᴰ.tail i)))

  up_E : Up t E
  unfolding taken step_c
  up_E =
      let above = up_step_b p.above (step_a p t) (λ h i. seen_step_a p t h (Memᴰ.tail i)) in
      up_trans up_B
      (up_trans
      (up_merged (head_of B f) F B refl (omega (arith, above.adds.highest, seen_step_a p t F (Memᴰ.head refl)))
      (up_B.clocks r.clocks))
      (up_joins (joins p t) (taken p t)))

  A-keeps : (g : ℕ) → head_of (step_a p t) g ≡ head_of t g
  unfolding step_a
  A-keeps g = refl

  B-keeps : (g : ℕ) → 1 ≤ rank t g → head_of B g ≡ head_of t g
  B-keeps g q = step_b_keeps p.above (step_a p t) g (omega (arith, ap rank_o (A-keeps g))) ∙ A-keeps g

  B-rooted : 1 ≤ rank B 0
  B-rooted = omega (arith, (up_B.adds.leq 0).rank)

  E-replicas : E.replicas ≡ put_head (merged (head_of B f) F B) B.replicas
  unfolding taken step_c
  E-replicas = (join_all_same (joins p t) (taken p t)).replicas

  -- after (e), the heads: the first is the merged one, what was held else is as it was
  E-first : head_of E f ≡ some (merged (head_of B f) F B)
  E-first =
      ap (λ (l : List Replica). head_of? (find f l)) E-replicas
      ∙ ap (λ (m : ℕ). head_of? (find m (put_head (merged (head_of B f) F B) B.replicas)))
      (sym (merged_id (head_of B f) F B (head_id f B.replicas)))
      ∙ head_put_same (merged (head_of B f) F B) B.replicas

  E-other : (g : ℕ) → (g ≡ f → ⊥) → 1 ≤ rank t g → head_of E g ≡ head_of t g
  E-other g ne q =
      ap (λ (l : List Replica). head_of? (find g l)) E-replicas
      ∙ head_put_other (merged (head_of B f) F B) B.replicas g (λ z. ne (z ∙ merged_id (head_of B f) F B (head_id f B.replicas)))
      ∙ B-keeps g q

  true_A : TrueTable L (step_a p t)
  unfolding step_a
  true_A = record { heads = r.trues.heads; entries = r.trues.entries }

  true_C : TrueTable L (taken p t)
  unfolding taken step_c
  true_C =
      true_merged L (head_of B f) F B refl
      (true_step_b L p.above (step_a p t) true_A (λ h m. known h (Memᴰ.tail m))) (known F (Memᴰ.head refl))

  true_in : AllTrue L (joins p t)
  true_in x m = go (Memᴰ.append_cases (joined_in p) m)
    where
      on : In x (set_above t p.above) ⊎ In x (set_if_taken (head_of t f) F) → True L x
      on (inl i) = true_above L t p.above rooted (λ h j. known h (Memᴰ.tail j)) x i
      on (inr i) = true_taken L t (head_of t f) F refl rooted tp.root (known F (Memᴰ.head refl)) x i

      go : In x (joined_in p) ⊎ In x (set_in t p) → True L x
      go (inl i) = tp.entries x i
      go (inr i) = on (Memᴰ.append_cases (set_above t p.above) i)

  true_E : TrueTable L E
  true_E =
      record {
        heads =
            λ g h q z. true_C.heads g h (sym
            (ap (λ (l : List Replica). head_of? (find g l)) (join_all_same (joins p t) (taken p t)).replicas) ∙ q) z;
        entries = true_joins L (joins p t) (taken p t) true_in true_C.entries;
      }

  -- memory of the states issued for the first
  rem_first : (x : State) → In x L → x.id ≡ f → Remembers t x → Remembers E x
  rem_first x m i old = from (head_of t f) refl
    where
      a : Adds t E
      a = up_E.adds

      held_f : 1 ≤ rank t f
      held_f = omega (arith, old.held, ap (λ (z : ℕ). rank t z) i)

      rank_E : (o : Head) → head_of t f ≡ some o → rank E x.id ≡ suc (merged (some o) F B).stamp
      rank_E o e =
          ap (λ (z : ℕ). rank E z) i ∙ ap rank_o E-first
          ∙ ap (λ (q : Option Head). suc (merged q F B).stamp) (B-keeps f held_f ∙ e)

      nz : (o : Head) → ltb o.stamp F.stamp ≡ true → x.id ≡ 0 → ⊥
      nz o lt q = let y = tp.root (sym i ∙ q) in omega (arith, ltb-true)

      struck : (o : Head) → head_of t f ≡ some o → ltb o.stamp F.stamp ≡ true →
          suc F.stamp ≤ mark E o.directory x.id o.name
      struck o e lt =
          subst (λ (z : ℕ). suc F.stamp ≤ mark E o.directory z o.name) (sym i)
          (set_old (joins p t) F o (λ y j. Memᴰ.append_right (joined_in p)
          (Memᴰ.append_right (set_above t p.above) (sub y j)))
          (taken p t))
        where
          set : set_by F (some o) ≡ set_if_taken (head_of t f) F
          set = sym (ap (λ (q : Option Head). set_if_taken q F) e ∙ ap (λ (b : Bool). cond b (set_by F (some o)) []) lt)

          sub : (y : Listed) → In y (set_by F (some o)) → In y (set_if_taken (head_of t f) F)
          sub y j = subst (λ (l : List Listed). In y l) set j

      at : (o : Head) → head_of t f ≡ some o → (b : Bool) → ltb o.stamp F.stamp ≡ b → Remembers E x
      at o e true lt =
          let v : rank E x.id ≡ suc F.stamp = rank_E o e ∙ ap suc (merged_new o F B lt) in
          let in_t : head_of t x.id ≡ some o = ap (λ (z : ℕ). head_of t z) i ∙ e in
          let k = struck o e lt in
          rem_changed L t E x o a r.one m (r.trues.heads x.id o in_t (nz o lt)) in_t (omega arith)
          (omega (arith, ltb-true o.stamp F.stamp lt)) old
      at o e false lt =
          let in_t : head_of t x.id ≡ some o = ap (λ (z : ℕ). head_of t z) i ∙ e in
          rem_same t E x a (rank_E o e ∙ ap suc (merged_old o F B lt) ∙ sym (ap rank_o in_t)) old

      from : (o : Option Head) → head_of t f ≡ o → Remembers E x
      from none e = absurd (omega (arith, held_f, ap rank_o e))
      from (some o) e = at o e (ltb o.stamp F.stamp) refl

  root_E : is_dead (head_of E 0) ≡ false
  root_E = go (same? 0 f)
    where
      dead0 : is_dead (head_of B 0) ≡ false
      dead0 = ap is_dead (B-keeps 0 rooted) ∙ r.root

      on : (o : Head) → head_of B f ≡ some o → 0 ≡ f → (b : Bool) → ltb o.stamp F.stamp ≡ b →
          is_dead (some (merged (some o) F B)) ≡ false
      on o e q true lt = let y = tp.root (sym q) in absurd (omega (arith, ltb-true))
      on o e q false lt =
          ap (λ (l : ℕ). not (eqb l 1)) (merged_live o F B lt)
          ∙ sym (ap is_dead e) ∙ ap (λ (z : ℕ). is_dead (head_of B z)) (sym q) ∙ dead0

      first : (o : Option Head) → head_of B f ≡ o → 0 ≡ f → is_dead (some (merged o F B)) ≡ false
      first none e q = absurd (absent B f B-rooted e (sym q))
      first (some o) e q = on o e q (ltb o.stamp F.stamp) refl

      go : (0 ≡ f) ⊎ (0 ≡ f → ⊥) → is_dead (head_of E 0) ≡ false
      go (inl q) = ap (λ (z : ℕ). is_dead (head_of E z)) q ∙ ap is_dead E-first ∙ first (head_of B f) refl q
      go (inr ne) = ap is_dead (E-other 0 ne rooted) ∙ r.root

  goes_E : Goes L t L E
  goes_E =
      record {
        adds = up_E.adds;
        more = λ x m. m;
        new = λ x m. inl m;
        ready =
            record {
              trues = true_E;
              one = r.one;
              seen = λ x m i. omega (arith, r.seen x m (i ∙ up_E.adds.own), up_E.adds.highest);
              rem = rem;
              clocks = up_E.clocks r.clocks;
              small = omega (arith, r.small, up_E.adds.own);
              root = root_E;
            };
      }
    where
      rem : (x : State) → In x L → issuer x.stamp ≡ E.own → Remembers E x
      rem x m i = go (same? x.id f)
        where
          old : Remembers t x
          old = r.rem x m (i ∙ up_E.adds.own)

          go : (x.id ≡ f) ⊎ (x.id ≡ f → ⊥) → Remembers E x
          go (inl q) = rem_first x m q old
          go (inr ne) = rem_same t E x up_E.adds (ap rank_o (E-other x.id ne (omega (arith, old.held)))) old

  covers_E : Leq f (some F) (head_of E f) (joined_in p) E.entries
  covers_E =
      record {
        rank = rw E-first (omega (arith, merged_rank (head_of B f) F B));
        hold = λ j q. rw E-first (merged_hold (head_of B f) F B j q);
        mark = λ a b. joins_mark (joins p t) (joined_in p) (λ x m. Memᴰ.append_left (set_in t p) m) (taken p t) f a b;
      }

  -- ---- and (f)

  goes_F : (now : ℕ) → Goes L t (mended_all now E.replicas E ++ L) (step_f now E.replicas E)
  goes_F now = goes_trans goes_E (goes_step_f L now E.replicas E goes_E.ready)

  covers_F : (now : ℕ) →
      Leq f (some F) (head_of (step_f now E.replicas E) f) (joined_in p) (step_f now E.replicas E).entries
  covers_F now =
      leq_trans f _ _ _ _ _ _ covers_E ((goes_step_f L now E.replicas E goes_E.ready).adds.leq f)

-- ---- a push received

pub takes_keep : (c : World) (L : List State) → Inv c L → (i now : ℕ) (p : Push) (u : Table) (w : List ℕ) →
    Node c.nodes i →
    In p c.pushes → Takes (c.tab i) u w now p → sound u ≡ true →
    Inv (answered (after c i u) (ack_for p)) (received_states now (some p) (c.tab i) ++ L)
unfolding received received_states
takes_keep c L k i now p u w ni m h sd =
    answers_keep (after c i u) _ k' p m
    (subst (λ (z : Table). Leq p.first.id (some p.first) (head_of z p.first.id) (joined_in p) z.entries)
    (sym here) cov)
  where
    t : Table
    t = c.tab i

    rooted : 1 ≤ rank (c.tab i) 0
    rooted = omega (arith, ap rank_o (k.k1.facts i ni).root)

    E' : Table
    E' = join_all (joins p (c.tab i)) (taken p (c.tab i))

    F' : Table
    F' = step_f now E'.replicas E'

    M : List State
    M = mended_all now E'.replicas E' ++ L

    d : Done Nobody c.nodes L (c.tab i) M u
    d =
        subst (λ (z : Table). Done Nobody c.nodes L (c.tab i) M z) (sym h.is)
        (done_of c.nodes L M (c.tab i) F' (k.k1.size i ni)
        (goes_F L p (c.tab i) (ready_of c L k i ni) (k.k2.pushes p m) rooted now)
        (subst (λ (z : Table). sound z ≡ true) h.is sd))

    k' : Inv (after c i u) M
    k' = keeps c L k i ni M u Nobody (λ f j z. absurd z) d

    cov : Leq p.first.id (some p.first) (head_of u p.first.id) (joined_in p) u.entries
    cov =
        subst (λ (z : Table). Leq p.first.id (some p.first) (head_of z p.first.id) (joined_in p) z.entries)
        (sym h.is)
        (leq_trans p.first.id _ _ _ _ _ _
        (covers_F L p (c.tab i) (ready_of c L k i ni) (k.k2.pushes p m) rooted now)
        (covers_settle (c.tab i) F' p.first.id))

    here : upd c.tab i u p.addressee ≡ u
    here = ap (λ (z : ℕ). upd c.tab i u z) (h.mine ∙ k.k1.own i ni) ∙ upd_same c.tab i u
