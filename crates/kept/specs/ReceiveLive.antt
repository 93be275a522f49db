-- Step (f) of a receive: in slot order, each live replica whose place directory is dead has it made live. Heads keep
-- their places and depths, what is live stays live, and what is made live is under something live: so each replica
-- mended stays mended. Making live goes up one directory at a time, and depths are at most 16, so that its bound never
-- cuts. Assumes nothing.
use Rattle.std.specs.Prelude.{◌≡◌, refl, ◌⊎◌, Bool, true, false, ◌&&◌, cond, List, [], ◌∷◌, ℕ, zero, suc, ◌≤◌}
use Rattle.std.proofs.Common.{ap, sym, subst, ◌∙◌, inl, inr, arith}
use Rattle.std.proofs.Math.Option.{Option, some, none}
use mathlib.Core.List.Memᴰ
use Rattle.codec.specs.Lists.{and_true}
use Rattle.records.specs.declared.head.Head.{Head}
use Rattle.slots.specs.declared.replica.Replica.{Replica}
use Rattle.document.specs.Tables.{Table, find, head_of}
use Rattle.document.specs.Sound.{is_live}
use Rattle.document.specs.Steps.{stamp_at, issue, with_state, is_dead, directory_of, relive, make_live}
use Rattle.document.specs.Receive.{mend, step_f}
use Rattle.views.specs.Lists.{In, no_both, some_only, not_none, same?}
use Rattle.views.specs.Puts.{head_id, head_own, head_found, find_in, find_id}
use Rattle.views.specs.Issues.{issue_head_same, issue_head_other, issue_cases}
use Rattle.views.specs.Sounds.{Place, LivePlaces, Shown, root_held, root_only}
use Rattle.kept.specs.MessageFacts.{and_false}
use Rattle.kept.specs.Firm.{Base}
use Rattle.kept.specs.Lives.{Mended, mended_refl, mended_trans, mended_relive}

-- ---- what making live does to a table

-- "a live replica's is live": of the replica with that id
abbrev pub Lives : Table → ℕ → Type 0
Lives t g =
    (h : Head) → head_of t g ≡ some h → (h.id ≡ 0 → ⊥) → is_live h ≡ true → is_dead (head_of t h.directory) ≡ false

-- what stands at g in u stood there in t, with its place and depth; if it is no longer the same, its place is live
pub record Was (t u : Table) (g : ℕ) (x : Head) : Type 0 where
  pub head : Head
  pub held : head_of t g ≡ some head
  pub directory : x.directory ≡ head.directory
  pub depth : x.depth ≡ head.depth
  pub how : (x ≡ head) ⊎ (is_dead (head_of u x.directory) ≡ false)

pub record Lifted (t u : Table) : Type 0 where
  pub mended : Mended t u
  pub held : (g : ℕ) (h : Head) → head_of t g ≡ some h → (x : Head) × (head_of u g ≡ some x)
  pub undead : (g : ℕ) → is_dead (head_of t g) ≡ false → is_dead (head_of u g) ≡ false
  pub was : (g : ℕ) (x : Head) → head_of u g ≡ some x → Was t u g x

pub lift_refl : (t : Table) → Base t → Shown t → Lifted t t
lift_refl t b s =
    record {
      mended = mended_refl t b s;
      held = λ g h e. (h, e);
      undead = λ g e. e;
      was = λ g x e. record { head = x; held = e; directory = refl; depth = refl; how = inl refl };
    }

pub lift_trans : (t u v : Table) → Lifted t u → Lifted u v → Lifted t v
lift_trans t u v a b =
    record {
      mended = mended_trans t u v a.mended b.mended;
      held = λ g h e. let x = a.held g h e in b.held g x.0 x.1;
      undead = λ g e. b.undead g (a.undead g e);
      was = λ g x e. let y = b.was g x e in join g x y (a.was g y.head y.held);
    }
  where
    join : (g : ℕ) (x : Head) (y : Was u v g x) → Was t u g y.head → Was t v g x
    join g x y w =
        record {
          head = w.head;
          held = w.held;
          directory = y.directory ∙ w.directory;
          depth = y.depth ∙ w.depth;
          how = how y.how w.how;
        }
      where
        how : (x ≡ y.head) ⊎ (is_dead (head_of v x.directory) ≡ false) →
            (y.head ≡ w.head) ⊎ (is_dead (head_of u y.head.directory) ≡ false) →
            (x ≡ w.head) ⊎ (is_dead (head_of v x.directory) ≡ false)
        how (inr p) q = inr p
        how (inl p) (inl q) = inl (p ∙ q)
        how (inl p) (inr q) = inr (b.undead x.directory (ap (λ (m : ℕ). is_dead (head_of u m)) y.directory ∙ q))

-- a replica mended stays mended
pub lift_lives : (t u : Table) → Lifted t u → (g : ℕ) → Lives t g → Lives u g
lift_lives t u a g l x e z live = go w.how
  where
    w : Was t u g x
    w = a.was g x e

    go : (x ≡ w.head) ⊎ (is_dead (head_of u x.directory) ≡ false) → is_dead (head_of u x.directory) ≡ false
    go (inr p) = p
    go (inl p) = a.undead x.directory (l x (w.held ∙ ap some (sym p)) z live)

-- a directory under a live one is made live
pub lift_issue : (now : ℕ) (t : Table) → Base t → Shown t → (d : ℕ) (h : Head) → head_of t d ≡ some h → (h.id ≡ 0 → ⊥) →
    is_dead (head_of t h.directory) ≡ false → Lifted t (issue now (with_state h 1) t)
unfolding relive
lift_issue now t b s d h e z up =
    record {
      mended = mended_relive now d (some h) t e (λ q. z (head_id d t.replicas h e ∙ q)) b s;
      held = λ g x q. held g x q (same? g h.id);
      undead = λ g q. undead g q (same? g h.id);
      was = λ g x q. was g x (issue_cases now (with_state h 1) t g x q);
    }
  where
    u : Table
    u = issue now (with_state h 1) t

    here : (g : ℕ) → g ≡ h.id → head_of u g ≡ some (with_state h 1 (stamp_at now t))
    here g p = ap (λ (m : ℕ). head_of u m) p ∙ issue_head_same now (with_state h 1) t

    held : (g : ℕ) (x : Head) → head_of t g ≡ some x → (g ≡ h.id) ⊎ (g ≡ h.id → ⊥) → (y : Head) × (head_of u g ≡ some y)
    held g x q (inl p) = (with_state h 1 (stamp_at now t), here g p)
    held g x q (inr p) = (x, issue_head_other now (with_state h 1) t g p ∙ q)

    undead : (g : ℕ) → is_dead (head_of t g) ≡ false → (g ≡ h.id) ⊎ (g ≡ h.id → ⊥) → is_dead (head_of u g) ≡ false
    undead g q (inl p) = ap is_dead (here g p)
    undead g q (inr p) = ap is_dead (issue_head_other now (with_state h 1) t g p) ∙ q

    was : (g : ℕ) (x : Head) →
        ((g ≡ h.id) × (x ≡ with_state h 1 (stamp_at now t))) ⊎ ((g ≡ h.id → ⊥) × (head_of t g ≡ some x)) → Was t u g x
    was g x (inl (p, q)) =
        let k : x.directory ≡ h.directory = ap (λ (y : Head). y.directory) q in
        let live = ap (λ (m : ℕ). is_dead (head_of t m)) k ∙ up in
        record {
          head = h;
          held = ap (λ (m : ℕ). head_of t m) p ∙ head_own d t.replicas h e;
          directory = k;
          depth = ap (λ (y : Head). y.depth) q;
          how = inr (undead x.directory live (same? x.directory h.id));
        }
    was g x (inr (p, q)) = record { head = x; held = q; directory = refl; depth = refl; how = inl refl }

-- ---- up to the root

-- a directory made live is live then, with all above it
pub record Lit (t u : Table) (d : ℕ) : Type 0 where
  pub lifted : Lifted t u
  pub lit : is_dead (head_of u d) ≡ false

lit_relive : (now : ℕ) (t u : Table) (d : ℕ) (h : Head) → head_of t d ≡ some h → (h.id ≡ 0 → ⊥) → Lifted t u →
    is_dead (head_of u h.directory) ≡ false → (o : Option Head) → head_of u d ≡ o → Lit t (relive now o u) d
unfolding relive
lit_relive now t u d h e z a up none q = let x = a.held d h e in absurd (not_none (sym q ∙ x.1))
lit_relive now t u d h e z a up (some y) q =
    let w = a.was d y q in
    let k : w.head ≡ h = some_only (sym w.held ∙ e) in
    let i : y.id ≡ d = head_id d u.replicas y q in
    let zy : y.id ≡ 0 → ⊥ = λ r. z (head_id d t.replicas h e ∙ sym i ∙ r) in
    let place : is_dead (head_of u y.directory) ≡ false =
    ap (λ (m : ℕ). is_dead (head_of u m)) (w.directory ∙ ap (λ (x : Head). x.directory) k) ∙ up in
    let l = lift_issue now u a.mended.base a.mended.shown d y q zy place in
    record {
      lifted = lift_trans t u (issue now (with_state y 1) u) a l;
      lit = ap (λ (m : ℕ). is_dead (head_of (issue now (with_state y 1) u) m)) (sym i)
          ∙ ap is_dead (issue_head_same now (with_state y 1) u);
    }

-- what is dead is not the root
pub nonroot_dead : (t : Table) → Base t → (d : ℕ) (h : Head) → head_of t d ≡ some h → is_dead (head_of t d) ≡ true →
    h.id ≡ 0 → ⊥
nonroot_dead t b d h e k z =
    no_both (is_dead (head_of t d)) k (ap is_dead (e ∙ ap some (root_only t b.root_first_law d h e z)))

pub lit_live : (k now d : ℕ) (t : Table) (h : Head) → Base t → Shown t → head_of t d ≡ some h → (h.id ≡ 0 → ⊥) →
    h.depth ≤ k → Lit t (make_live k now d t) d
unfolding make_live
lit_live zero now d t h b s e z le = absurd (omega (arith, (b.placed d h e z).depth))
lit_live (suc k) now d t h b s e z le =
    subst (λ (o : Option Head). Lit t (up o) d) (sym e)
    (last (is_dead (head_of t h.directory)) refl
    (λ y. lit_live k now h.directory t P.parent b s P.held y (omega (arith, P.depth))))
  where
    P : Place t h
    P = b.placed d h e z

    up : Option Head → Table
    up o =
        let u = cond (is_dead (head_of t (directory_of o))) (make_live k now (directory_of o) t) t in
        relive now (head_of u d) u

    last : (x : Bool) → is_dead (head_of t h.directory) ≡ x →
        ((P.parent.id ≡ 0 → ⊥) → Lit t (make_live k now h.directory t) h.directory) →
        Lit t (let u = cond x (make_live k now h.directory t) t in relive now (head_of u d) u) d
    last true q ih =
        let u = make_live k now h.directory t in
        let l = ih (nonroot_dead t b h.directory P.parent P.held q) in
        lit_relive now t u d h e z l.lifted l.lit (head_of u d) refl
    last false q ih = lit_relive now t t d h e z (lift_refl t b s) q (head_of t d) refl

-- as many directories up as the place is deep are enough: a larger bound changes nothing
pub live_enough : (k j now d : ℕ) (t : Table) (h : Head) → Base t → head_of t d ≡ some h → (h.id ≡ 0 → ⊥) →
    h.depth ≤ k → h.depth ≤ j → make_live k now d t ≡ make_live j now d t
unfolding make_live
live_enough zero j now d t h b e z le lj = absurd (omega (arith, (b.placed d h e z).depth))
live_enough (suc k) zero now d t h b e z le lj = absurd (omega (arith, (b.placed d h e z).depth))
live_enough (suc k) (suc j) now d t h b e z le lj =
    ap (λ (o : Option Head). up k o) e
    ∙ go (is_dead (head_of t h.directory)) refl
    (λ y. live_enough k j now h.directory t P.parent b P.held y (deep k le) (deep j lj))
    ∙ ap (λ (o : Option Head). up j o) (sym e)
  where
    P : Place t h
    P = b.placed d h e z

    deep : (n : ℕ) → h.depth ≤ suc n → P.parent.depth ≤ n
    deep n l = omega (arith, P.depth)

    up : ℕ → Option Head → Table
    up n o =
        let u = cond (is_dead (head_of t (directory_of o))) (make_live n now (directory_of o) t) t in
        relive now (head_of u d) u

    go : (x : Bool) → is_dead (head_of t h.directory) ≡ x →
        ((P.parent.id ≡ 0 → ⊥) → make_live k now h.directory t ≡ make_live j now h.directory t) →
        (let u = cond x (make_live k now h.directory t) t in relive now (head_of u d) u)
        ≡ (let u = cond x (make_live j now h.directory t) t in relive now (head_of u d) u)
    go true q ih =
        ap (λ (u : Table). relive now (head_of u d) u) (ih (nonroot_dead t b h.directory P.parent P.held q))
    go false q ih = refl

-- so 16 never cuts
pub live_16 : (k now d : ℕ) (t : Table) (h : Head) → Base t → head_of t d ≡ some h → (h.id ≡ 0 → ⊥) → h.depth ≤ k →
    make_live 16 now d t ≡ make_live k now d t
live_16 k now d t h b e z le =
    live_enough 16 k now d t h b e z (b.depths_fit d h e) le

-- ---- in slot order

-- one replica mended
pub record MendedAt (t u : Table) (g : ℕ) : Type 0 where
  pub lifted : Lifted t u
  pub lives : Lives u g

mended : (now g : ℕ) (t : Table) → Base t → Shown t → MendedAt t (mend now (head_of t g) t) g
mended now g t b s = go (head_of t g) refl
  where
    go : (o : Option Head) → head_of t g ≡ o → MendedAt t (mend now o t) g
    go none e = record { lifted = lift_refl t b s; lives = λ x q. absurd (not_none (sym e ∙ q)) }
    go (some h) e = on (is_live h && is_dead (head_of t h.directory)) refl
      where
        same : (x : Head) → head_of t g ≡ some x → h ≡ x
        same x q = some_only (sym e ∙ q)

        on : (x : Bool) → (is_live h && is_dead (head_of t h.directory)) ≡ x →
            MendedAt t (cond x (make_live 16 now h.directory t) t) g
        on true q =
            let dead = (and_true (is_live h) _ q).1 in
            let z : h.id ≡ 0 → ⊥ =
            λ o.
            let i : h.directory ≡ 0 = ap (λ (y : Head). y.directory) (root_only t b.root_first_law g h e o) in
            no_both _ dead (ap (λ (m : ℕ). is_dead (head_of t m)) i ∙ ap is_dead (root_held t b.root_first_law)) in
            let P = b.placed g h e z in
            let y = nonroot_dead t b h.directory P.parent P.held dead in
            let deep = b.depths_fit h.directory P.parent P.held in
            let l = lit_live 16 now h.directory t P.parent b s P.held y deep in
            record {
              lifted = l.lifted;
              lives = λ x r zx live.
                  let w = l.lifted.was g x r in
                  ap (λ (m : ℕ). is_dead (head_of (make_live 16 now h.directory t) m))
                  (w.directory ∙ ap (λ (y : Head). y.directory) (sym (same w.head w.held))) ∙ l.lit;
            }
        on false q = record { lifted = lift_refl t b s; lives = λ x r z live. fine x (same x r) live }
          where
            fine : (x : Head) → h ≡ x → is_live x ≡ true → is_dead (head_of t x.directory) ≡ false
            fine x i live =
                ap (λ (y : Head). is_dead (head_of t y.directory)) (sym i)
                ∙ and_false (is_live h) _ q (ap is_live i ∙ live)

pub mends : (now : ℕ) (l : List Replica) (t : Table) → Base t → Shown t →
    Lifted t (step_f now l t) × ((r : Replica) → In r l → Lives (step_f now l t) r.head.id)
unfolding step_f
mends now [] t b s = (lift_refl t b s, λ r m. elim m [ ])
mends now (r ∷ rs) t b s =
    let u = mend now (head_of t r.head.id) t in
    let a = mended now r.head.id t b s in
    let w = mends now rs u a.lifted.mended.base a.lifted.mended.shown in (
      lift_trans t u (step_f now rs u) a.lifted w.0,
      λ x m. pick u x a.lives w.0 w.1 (Memᴰ.cases_cons m),
    )
  where
    pick : (u : Table) (x : Replica) → Lives u r.head.id → Lifted u (step_f now rs u) →
        ((y : Replica) → In y rs → Lives (step_f now rs u) y.head.id) → (x ≡ r) ⊎ In x rs →
        Lives (step_f now rs u) x.head.id
    pick u x here a rest (inl q) =
        subst (λ (y : Replica). Lives (step_f now rs u) y.head.id) (sym q)
        (lift_lives u (step_f now rs u) a r.head.id here)
    pick u x here a rest (inr i) = rest x i

-- all replicas mended, in the order of their slots
pub mended_all_law : (now : ℕ) (t : Table) → Base t → Shown t →
    Lifted t (step_f now t.replicas t) × LivePlaces (step_f now t.replicas t)
mended_all_law now t b s = (m.0, live)
  where
    u : Table
    u = step_f now t.replicas t

    m : Lifted t u × ((r : Replica) → In r t.replicas → Lives u r.head.id)
    m = mends now t.replicas t b s

    live : LivePlaces u
    live g x e z l =
        let w = m.0.was g x e in
        let r = head_found (find g t.replicas) w.head w.held in
        let i = find_id g t.replicas r.0 r.1 in
        m.1 r.0 (find_in g t.replicas r.0 r.1) x (ap (λ (k : ℕ). head_of u k) i ∙ e) z l
