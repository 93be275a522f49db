-- A new stamp is drawn, the head put, its entries set: truth, clocks and memory are kept, with one more state issued.
-- So for making a directory live, and for (f). Assumes nothing.
use Rattle.std.specs.Prelude.{◌≡◌, ◌⊎◌, Bool, true, false, ◌&&◌, cond, List, [], ◌∷◌, ◌++◌}
use Rattle.std.proofs.Math.Path.{refl, ap, subst}
use Rattle.std.proofs.Common.{sym, ◌∙◌, inl, inr, append_assoc}
use Rattle.std.proofs.Math.Option.{Option, some, none}
use mathlib.Core.List.Memᴰ
use Prim.Native.Nat.{ℕ, zero, suc, ◌≤◌, ◌<◌}
use native.Mathlib.Omega.{arith}
use Rattle.codec.specs.Lists.{and_true}
use Rattle.names.specs.declared.Name.{Name}
use Rattle.numbers.specs.Nodes.{has}
use Rattle.numbers.specs.Ids.{clock_of, issuer}
use Rattle.records.specs.declared.head.Head.{Head}
use Rattle.slots.specs.declared.replica.Replica.{Replica}
use Rattle.slots.specs.declared.listed.Listed.{Listed}
use Rattle.document.specs.Tables.{Table, with_highest, head_of, find_entry}
use Rattle.document.specs.Sound.{is_live}
use Rattle.document.specs.Steps.{clock_at, stamp_at, put, place_entry, strike, same_place, set_by, join_all, issue, with_state, is_dead, directory_of, relive, make_live}
use Rattle.document.specs.Receive.{mend, step_f}
use Rattle.views.specs.Lists.{In, same?, no_both}
use Rattle.views.specs.Puts.{head_id, head_own}
use Rattle.views.specs.Joins.{Key, entry_key, entry_in, join_all_there, join_all_in}
use Rattle.views.specs.Issues.{same_place_law, place_same, set_place, set_cases, issue_highest, issue_head_same, issue_head_other, issue_cases, issue_in}
use Rattle.cluster.specs.Cluster.{State, state_of, stated, made_live, mended, mended_all}
use Rattle.cluster.specs.Ranks.{rank_o, hold_o, mark_o, rank, mark, held}
use Rattle.cluster.specs.Invariants.{True, AllTrue, TrueTable, One, Remembers}
use Rattle.cluster.specs.Adds.{Adds, adds_refl, adds_trans, Clocks, Up, up_issue}
use Rattle.cluster.specs.Keeps.{New, true_more}

-- ---- joins: every entry joined is there with its stamp, and all is true

pub joins_there : (es : List Listed) (t : Table) (e : Listed) → In e es →
    suc e.entry.stamp ≤ mark (join_all es t) e.directory e.entry.child e.entry.name
joins_there es t e m =
    let z = join_all_there es t e m in
    omega (arith, ap mark_o z.1, z.2)

joins_key : (es : List Listed) (t : Table) (e : Listed) → In e es → (d c : ℕ) (n : Name) → Key d c n e →
    suc e.entry.stamp ≤ mark (join_all es t) d c n
joins_key es t e m d c n k = rw (sym k.directory, sym k.child, sym k.name) (joins_there es t e m)

-- so what a key finds among some of them, it finds with no lesser stamp
pub joins_mark : (es l : List Listed) → ((x : Listed) → In x l → In x es) → (t : Table) (d c : ℕ) (n : Name) →
    mark_o (find_entry d c n l) ≤ mark (join_all es t) d c n
joins_mark es l sub t d c n = go (find_entry d c n l) refl
  where
    go : (o : Option Listed) → find_entry d c n l ≡ o → mark_o o ≤ mark (join_all es t) d c n
    go none e = omega arith
    go (some x) e = joins_key es t x (sub x (entry_in d c n l x e)) d c n (entry_key d c n l x e)

pub true_joins : (M : List State) (es : List Listed) (t : Table) → AllTrue M es → AllTrue M t.entries →
    AllTrue M (join_all es t).entries
true_joins M es t a b x m = go (join_all_in es t x m)
  where
    go : In x es ⊎ In x t.entries → True M x
    go (inl i) = a x i
    go (inr i) = b x i

-- ---- the entries that a state sets

set_new : (h : Head) (o : Option Head) (t : Table) →
    suc h.stamp ≤ mark (join_all (set_by h o) t) h.directory h.id h.name
set_new h o t = joins_there (set_by h o) t (place_entry h) (set_place h o)

-- one of them stands at the old place, with the new stamp
pub set_there : (h o : Head) → (e : Listed) × In e (set_by h (some o)) × Key o.directory h.id o.name e
    × (e.entry.stamp ≡ h.stamp)
unfolding set_by
set_there h o = go (same_place h o) refl
  where
    go : (b : Bool) → same_place h o ≡ b →
        (e : Listed) × In e (place_entry h ∷ cond b [] (strike h o ∷ [])) × Key o.directory h.id o.name e
        × (e.entry.stamp ≡ h.stamp)
    go true e =
        let p = same_place_law h o e in
        (place_entry h, Memᴰ.head refl, record { directory = p.0; child = refl; name = p.1 }, refl)
    go false e =
        (strike h o, Memᴰ.tail (Memᴰ.head refl), record { directory = refl; child = refl; name = refl }, refl)

pub set_old : (es : List Listed) (h o : Head) → ((x : Listed) → In x (set_by h (some o)) → In x es) → (t : Table) →
    suc h.stamp ≤ mark (join_all es t) o.directory h.id o.name
set_old es h o sub t =
    let e = set_there h o in
    omega (arith, joins_key es t e.0 (sub e.0 e.1) o.directory h.id o.name e.2, e.3)

pub true_set : (M : List State) (h : Head) (o : Option Head) → In (state_of h) M → AllTrue M (set_by h o)
true_set M h o i x m = go (set_cases h o x m)
  where
    at_place : True M (place_entry h)
    at_place =
        record {
          state = state_of h;
          known = i;
          child = refl;
          stamp = refl;
          live = sym (ap (λ (b : Bool). cond b h.live 0) (place_same h h refl refl));
        }

    gone : (g : Head) → same_place h g ≡ false → True M (strike h g)
    gone g e =
        record {
          state = state_of h;
          known = i;
          child = refl;
          stamp = refl;
          live = sym (ap (λ (b : Bool). cond b h.live 0) e);
        }

    go : (x ≡ place_entry h) ⊎ ((old : Head) × (o ≡ some old) × (same_place h old ≡ false) × (x ≡ strike h old)) →
        True M x
    go (inl p) = subst (λ (y : Listed). True M y) (sym p) at_place
    go (inr p) = subst (λ (y : Listed). True M y) (sym p.3) (gone p.0 p.2)

-- ---- what a table is to be at each step: true, its clocks seen, its own states remembered

pub record Ready (L : List State) (t : Table) : Type 0 where
  pub trues : TrueTable L t
  pub one : One L
  pub seen : (x : State) → In x L → issuer x.stamp ≡ t.own → clock_of x.stamp ≤ t.highest
  pub rem : (x : State) → In x L → issuer x.stamp ≡ t.own → Remembers t x
  pub clocks : Clocks t
  pub small : t.own < 256
  pub root : is_dead (head_of t 0) ≡ false

-- from one such table to the next
pub record Goes (L : List State) (t : Table) (M : List State) (u : Table) : Type 0 where
  pub adds : Adds t u
  pub more : (x : State) → In x L → In x M
  pub new : (x : State) → In x M → In x L ⊎ New t u x
  pub ready : Ready M u

pub goes_refl : (L : List State) (t : Table) → Ready L t → Goes L t L t
goes_refl L t r = record { adds = adds_refl t; more = λ x m. m; new = λ x m. inl m; ready = r }

pub goes_trans : {L M K : List State} {t u v : Table} → Goes L t M u → Goes M u K v → Goes L t K v
goes_trans {L} {M} {K} {t} {u} {v} p q =
    record {
      adds = adds_trans p.adds q.adds;
      more = λ x m. q.more x (p.more x m);
      new = λ x m. go x (q.new x m);
      ready = q.ready;
    }
  where
    back : (x : State) → In x L ⊎ New t u x → In x L ⊎ New t v x
    back x (inl i) = inl i
    back x (inr w) = inr (record { issuer = w.issuer; clock = omega (arith, w.clock, q.adds.highest) })

    go : (x : State) → In x M ⊎ New u v x → In x L ⊎ New t v x
    go x (inl m) = back x (p.new x m)
    go x (inr w) = inr (record { issuer = w.issuer ∙ p.adds.own; clock = w.clock })

-- memory where the head stays
pub rem_same : (t u : Table) (x : State) → Adds t u → rank u x.id ≡ rank t x.id → Remembers t x → Remembers u x
rem_same t u x a e r =
    let m = (a.leq x.directory).mark x.id x.name in
    record {
      held = omega (arith, r.held);
      entered = omega (arith, r.entered);
      struck = λ lt. let z = r.struck (omega arith) in omega arith;
    }

-- memory where the head has changed: its stamp is at the old place
pub rem_changed : (L : List State) (t u : Table) (x : State) (o : Head) → Adds t u → One L → In x L → In (state_of o) L →
    head_of t x.id ≡ some o → rank u x.id ≤ mark u o.directory x.id o.name →
    suc o.stamp < rank u x.id → Remembers t x → Remembers u x
rem_changed L t u x o a one ix io e le lt r = go (same? x.stamp o.stamp)
  where
    rt : rank t x.id ≡ suc o.stamp
    rt = ap rank_o e

    go : (x.stamp ≡ o.stamp) ⊎ (x.stamp ≡ o.stamp → ⊥) → Remembers u x
    go (inl q) =
        let same = one x (state_of o) ix io q in
        let d : x.directory ≡ o.directory = ap (λ (z : State). z.directory) same in
        let n : x.name ≡ o.name = ap (λ (z : State). z.name) same in
        let m : rank u x.id ≤ mark u x.directory x.id x.name = rw (d, n) le in
        record { held = omega arith; entered = omega arith; struck = λ z. omega arith }
    go (inr ne) =
        let v = rt in
        let s = r.struck (omega (arith, r.held)) in
        let m = (a.leq x.directory).mark x.id x.name in
        record { held = omega arith; entered = omega arith; struck = λ z. omega arith }

-- ---- a new stamp

pub record Fresh (now : ℕ) (t : Table) (h : Head) : Type 0 where
  pub stamp : h.stamp ≡ stamp_at now t
  pub hold : (j : ℕ) → hold_o (head_of t h.id) j ≡ true → has h.holders j ≡ true
  pub nonroot : h.id ≡ 0 → ⊥

module _ (L : List State) (now : ℕ) (t : Table) (f : ℕ → Head) (r : Ready L t)
    (w : Fresh now t (f (stamp_at now t))) where
  abbrev h : Head
  h = f (stamp_at now t)

  M : List State
  M = state_of h ∷ L

  u : Table
  u = issue now f t

  up : Up t u
  unfolding u
  up = up_issue now f t r.small r.clocks w.stamp w.hold

  u_highest : u.highest ≡ clock_at now t
  unfolding u
  u_highest = issue_highest now f t

  u_rank : rank u h.id ≡ suc h.stamp
  unfolding u
  u_rank = ap rank_o (issue_head_same now f t)

  u_old : (g : Head) → head_of t h.id ≡ some g → suc h.stamp ≤ mark u g.directory h.id g.name
  unfolding u issue
  u_old g e =
      let v : Table = put h (with_highest t (clock_at now t)) in
      subst (λ (o : Option Head). suc h.stamp ≤ mark (join_all (set_by h o) v) g.directory h.id g.name)
      (sym e)
      (set_old (set_by h (some g)) h g (λ x m. m) v)

  new_issuer : issuer h.stamp ≡ t.own
  new_issuer = let s = w.stamp in omega (arith, r.small)

  new_clock_law : clock_of h.stamp ≡ clock_at now t
  new_clock_law = let s = w.stamp in omega (arith, r.small)

  cases : {x : State} → In x M → (x ≡ state_of h) ⊎ In x L
  unfolding M
  cases m = Memᴰ.cases_cons m

  -- no older state has the new stamp
  unused : (y : State) → In y L → y.stamp ≡ h.stamp → ⊥
  unused y m e =
      let i : issuer y.stamp ≡ t.own = ap issuer e ∙ new_issuer in
      omega (arith, r.seen y m i, new_clock_law, ap clock_of e)

  one' : One M
  one' x y a b e = go (cases a) (cases b)
    where
      go : (x ≡ state_of h) ⊎ In x L → (y ≡ state_of h) ⊎ In y L → x ≡ y
      go (inl p) (inl q) = p ∙ sym q
      go (inl p) (inr q) = absurd (unused y q (sym e ∙ ap (λ (z : State). z.stamp) p))
      go (inr p) (inl q) = absurd (unused x p (e ∙ ap (λ (z : State). z.stamp) q))
      go (inr p) (inr q) = r.one x y p q e

  more' : (x : State) → In x L → In x M
  unfolding M
  more' x m = Memᴰ.tail m

  in_M : In (state_of h) M
  unfolding M
  in_M = Memᴰ.head refl

  heads' : (g : ℕ) (x : Head) → head_of u g ≡ some x → (g ≡ 0 → ⊥) → In (state_of x) M
  unfolding u
  heads' g x e z = go (issue_cases now f t g x e)
    where
      go : ((g ≡ h.id) × (x ≡ h)) ⊎ ((g ≡ h.id → ⊥) × (head_of t g ≡ some x)) → In (state_of x) M
      go (inl p) = subst (λ (y : Head). In (state_of y) M) (sym p.1) in_M
      go (inr p) = more' (state_of x) (r.trues.heads g x p.1 z)

  trues' : TrueTable M u
  unfolding u
  trues' = record { heads = heads'; entries = entries' }
    where
      entries' : AllTrue M u.entries
      entries' x m = go (issue_in now f t x m)
        where
          go : In x (set_by h (head_of t h.id)) ⊎ In x t.entries → True M x
          go (inl i) = true_set M h (head_of t h.id) in_M x i
          go (inr i) = true_more L M x more' (r.trues.entries x i)

  rem' : (x : State) → In x M → issuer x.stamp ≡ u.own → Remembers u x
  unfolding u issue
  rem' x m i = go (cases m)
    where
      fresh : Remembers u (state_of h)
      fresh =
          let a = u_rank in
          record { held = omega arith; entered = set_new h (head_of t h.id) _; struck = λ z. omega arith }

      other : In x L → (x.id ≡ h.id → ⊥) → Remembers u x
      other o ne =
          rem_same t u x up.adds (ap rank_o (issue_head_other now f t x.id ne)) (r.rem x o (i ∙ up.adds.own))

      changed : In x L → x.id ≡ h.id → Remembers u x
      changed o e =
          let old = r.rem x o (i ∙ up.adds.own) in
          let g = held (head_of t x.id) (omega (arith, old.held)) in
          let g' : head_of t h.id ≡ some g.0 = ap (λ (z : ℕ). head_of t z) (sym e) ∙ g.1 in
          let a : rank u x.id ≡ suc h.stamp = ap (λ (z : ℕ). rank u z) e ∙ u_rank in
          let b : suc h.stamp ≤ mark u g.0.directory x.id g.0.name =
          subst (λ (z : ℕ). suc h.stamp ≤ mark u g.0.directory z g.0.name) (sym e) (u_old g.0 g') in
          rem_changed L t u x g.0 up.adds r.one o
          (r.trues.heads x.id g.0 g.1 (λ z. w.nonroot (sym e ∙ z))) g.1 (omega arith)
          (omega (arith, r.clocks h.id, ap rank_o g', w.stamp)) old

      go : (x ≡ state_of h) ⊎ In x L → Remembers u x
      go (inl p) = subst (λ (z : State). Remembers u z) (sym p) fresh
      go (inr o) = pick (same? x.id h.id)
        where
          pick : (x.id ≡ h.id) ⊎ (x.id ≡ h.id → ⊥) → Remembers u x
          pick (inl e) = changed o e
          pick (inr ne) = other o ne

  new' : (x : State) → (x ≡ state_of h) ⊎ In x L → In x L ⊎ New t u x
  new' x (inl p) =
      inr (subst (λ (z : State). New t u z) (sym p)
      (record { issuer = new_issuer; clock = omega (arith, new_clock_law, u_highest) }))
  new' x (inr o) = inl o

  seen' : (x : State) → (x ≡ state_of h) ⊎ In x L → issuer x.stamp ≡ u.own → clock_of x.stamp ≤ u.highest
  seen' x (inl p) i =
      let s : x.stamp ≡ h.stamp = ap (λ (z : State). z.stamp) p in
      rw s (omega (arith, new_clock_law, u_highest))
  seen' x (inr o) i = omega (arith, r.seen x o (i ∙ up.adds.own), up.adds.highest)

  root' : is_dead (head_of u 0) ≡ false
  unfolding u
  root' = ap is_dead (issue_head_other now f t 0 (λ z. w.nonroot (sym z))) ∙ r.root

  pub goes_issue : Goes L t (state_of (f (stamp_at now t)) ∷ L) (issue now f t)
  unfolding M u
  goes_issue =
      record {
        adds = up.adds;
        more = more';
        new = λ x m. new' x (cases m);
        ready =
            record {
              trues = trues';
              one = one';
              seen = λ x m. seen' x (cases m);
              rem = rem';
              clocks = up.clocks r.clocks;
              small = omega (arith, r.small, up.adds.own);
              root = root';
            };
      }

-- ---- making a directory live, and (f)

goes_relive : (L : List State) (now d : ℕ) (o : Option Head) (t : Table) → head_of t d ≡ o → (d ≡ 0 → ⊥) → Ready L t →
    Goes L t (stated o (λ h. with_state h 1 (stamp_at now t)) ++ L) (relive now o t)
unfolding relive
goes_relive L now d none t e z r = goes_refl L t r
goes_relive L now d (some h) t e z r =
    goes_issue L now t (with_state h 1) r
    (record {
      stamp = refl;
      hold = λ j p. rw (head_own d t.replicas h e) at p;
      nonroot = λ q. z (sym (head_id d t.replicas h e) ∙ q);
    })

-- what is dead is not the root
dead_nonroot : (t : Table) (f : ℕ) → is_dead (head_of t 0) ≡ false → is_dead (head_of t f) ≡ true → f ≡ 0 → ⊥
dead_nonroot t f a b z = no_both (is_dead (head_of t f)) b (ap (λ (m : ℕ). is_dead (head_of t m)) z ∙ a)

goes_live : (L : List State) (k now d : ℕ) (t : Table) → (d ≡ 0 → ⊥) → Ready L t →
    Goes L t (made_live k now d t ++ L) (make_live k now d t)
unfolding make_live made_live
goes_live L zero now d t z r = goes_refl L t r
goes_live L (suc k) now d t z r = last (is_dead (head_of t place)) refl (λ q. goes_live L k now place t q r)
  where
    place : ℕ
    place = directory_of (head_of t d)

    then' : (u : Table) (M : List State) → Goes L t (M ++ L) u → (o : Option Head) → head_of u d ≡ o →
        Goes L t ((stated o (λ h. with_state h 1 (stamp_at now u)) ++ M) ++ L) (relive now o u)
    then' u M g none e = goes_trans g (goes_relive (M ++ L) now d none u e z g.ready)
    then' u M g (some h) e = goes_trans g (goes_relive (M ++ L) now d (some h) u e z g.ready)

    last : (b : Bool) → is_dead (head_of t place) ≡ b →
        ((place ≡ 0 → ⊥) → Goes L t (made_live k now place t ++ L) (make_live k now place t)) →
        Goes L t
        ((let u = cond b (make_live k now place t) t in
        stated (head_of u d) (λ h. with_state h 1 (stamp_at now u)) ++ cond b (made_live k now place t) []) ++ L)
        (let u = cond b (make_live k now place t) t in relive now (head_of u d) u)
    last true e ih =
        then' (make_live k now place t) (made_live k now place t) (ih (dead_nonroot t place r.root e)) _ refl
    last false e ih = then' t [] (goes_refl L t r) _ refl

goes_mend : (L : List State) (now : ℕ) (o : Option Head) (t : Table) → Ready L t →
    Goes L t (mended now o t ++ L) (mend now o t)
goes_mend L now none t r = goes_refl L t r
goes_mend L now (some h) t r = go (is_live h && is_dead (head_of t h.directory)) refl
  where
    go : (b : Bool) → (is_live h && is_dead (head_of t h.directory)) ≡ b →
        Goes L t (cond b (made_live 16 now h.directory t) [] ++ L) (cond b (make_live 16 now h.directory t) t)
    go true e =
        let p = and_true (is_live h) _ e in
        goes_live L 16 now h.directory t (dead_nonroot t h.directory r.root p.1) r
    go false e = goes_refl L t r

pub goes_step_f : (L : List State) (now : ℕ) (l : List Replica) (t : Table) → Ready L t →
    Goes L t (mended_all now l t ++ L) (step_f now l t)
unfolding step_f mended_all
goes_step_f L now [] t r = goes_refl L t r
goes_step_f L now (x ∷ xs) t r =
    let o : Option Head = head_of t x.head.id in
    let g = goes_mend L now o t r in
    let s = goes_step_f (mended now o t ++ L) now xs (mend now o t) g.ready in
    subst (λ (K : List State). Goes L t K (step_f now xs (mend now o t)))
    (sym (append_assoc (mended_all now xs (mend now o t)) (mended now o t) L)) (goes_trans g s)
