-- The heads above a replica, up to the root, as a push has them: one step up, that each of them is held, and that in a
-- sound table each is the place of the one before it and one less deep. Assumes nothing.
use Rattle.std.specs.Prelude.{◌≡◌, refl, ◌⊎◌, Bool, true, false, ◌||◌, not, cond, List, [], ◌∷◌, eqb}
use Rattle.std.proofs.Math.Path.{ap}
use Rattle.std.proofs.Common.{sym, subst, ◌∙◌, inl, inr, arith, eq-eqb, ne_eqb}
use Rattle.std.proofs.Math.Option.{Option, some, none}
use mathlib.Core.List.Memᴰ
use Prim.Native.Nat.{ℕ, zero, suc, ◌+◌, ◌-◌, ◌≤◌, ◌<◌, max}
use Rattle.std.proofs.Math.ListN.{length}
use Rattle.std.proofs.lemmas.Bool.{not-false}
use Rattle.codec.specs.Lists.{every, and_both}
use Rattle.records.specs.declared.head.Head.{Head}
use Rattle.document.specs.Tables.{Table, head_of}
use Rattle.document.specs.Sound.{is_live, is_directory, distinct}
use Rattle.document.specs.Messages.{chained, above, chain_up, same_head_id}
use Rattle.views.specs.Lists.{In, same?, some_only, in_every}
use Rattle.views.specs.Puts.{head_id, head_own, dead_not}
use Rattle.views.specs.Sounds.{Sound, Place, root_only}

-- ---- one step up

pub chain_root : (k d : ℕ) (t : Table) → d ≡ 0 → chain_up k d t ≡ []
unfolding chain_up
chain_root zero d t e = refl
chain_root (suc k) d t e = simp (eq-eqb d 0 e)

pub chain_gone : (k d : ℕ) (t : Table) → head_of t d ≡ none → chain_up k d t ≡ []
unfolding chain_up
chain_gone zero d t e = refl
chain_gone (suc k) d t e = go (eqb d 0)
  where
    go : (b : Bool) → cond b [] (above (head_of t d) (λ (up : ℕ). chain_up k up t)) ≡ []
    go true = refl
    go false = rw e

pub chain_next : (k d : ℕ) (t : Table) (h : Head) → (d ≡ 0 → ⊥) → head_of t d ≡ some h →
    chain_up (suc k) d t ≡ h ∷ chain_up k h.directory t
unfolding chain_up
chain_next k d t h ne e = simp (ne_eqb d 0 ne, e)

pub chain_up_law : (most i d : ℕ) (t : Table) (h : Head) → i < most → (d ≡ 0 → ⊥) → head_of t d ≡ some h →
    chain_up (most - i) d t ≡ h ∷ chain_up (most - (i + 1)) h.directory t
chain_up_law most i d t h l ne e =
    ap (λ (k : ℕ). chain_up k d t) {x = most - i} {y = suc (most - (i + 1))} (omega arith)
    ∙ chain_next (most - (i + 1)) d t h ne e

pub chain_end : (most i d : ℕ) (t : Table) → most ≤ i → chain_up (most - i) d t ≡ []
unfolding chain_up
chain_end most i d t l = ap (λ (k : ℕ). chain_up k d t) {x = most - i} {y = 0} (omega arith)

-- every head of the chain is held
pub chain_held : (k d : ℕ) (t : Table) (h : Head) → In h (chain_up k d t) → (g : ℕ) × (head_of t g ≡ some h)
unfolding chain_up
chain_held zero d t h m = elim m [ ]
chain_held (suc k) d t h m = go (eqb d 0) (head_of t d) refl (λ up. chain_held k up t h) m
  where
    on : (x : Head) → head_of t d ≡ some x → ((up : ℕ) → In h (chain_up k up t) → (g : ℕ) × (head_of t g ≡ some h)) →
        (h ≡ x) ⊎ In h (chain_up k x.directory t) → (g : ℕ) × (head_of t g ≡ some h)
    on x e ih (inl p) = (d, e ∙ ap some (sym p))
    on x e ih (inr p) = ih x.directory p

    go : (b : Bool) (o : Option Head) → head_of t d ≡ o →
        ((up : ℕ) → In h (chain_up k up t) → (g : ℕ) × (head_of t g ≡ some h)) →
        In h (cond b [] (above o (λ (up : ℕ). chain_up k up t))) → (g : ℕ) × (head_of t g ≡ some h)
    go true o e ih m = elim m [ ]
    go false none e ih m = elim m [ ]
    go false (some x) e ih m = on x e ih (Memᴰ.cases_cons m)

-- ---- the chain of a replica that a sound table holds

-- what the heads gs above h are, up to the root
pub record Chain (t : Table) (h : Head) (gs : List Head) : Type 0 where
  pub count : suc (length gs) ≡ h.depth
  pub linked : chained h gs ≡ true
  pub held : (g : Head) → In g gs → head_of t g.id ≡ some g
  pub lower : (g : Head) → In g gs → g.depth < h.depth
  pub apart : distinct same_head_id (h ∷ gs) ≡ true

-- a head at depth 1 has none above it
chain_last : (t : Table) (h : Head) → h.directory ≡ 0 → h.depth ≡ 1 → Chain t h []
unfolding chained distinct every
chain_last t h d e =
    record {
      count = sym e;
      linked = and_both (eq-eqb h.directory 0 d) (eq-eqb h.depth 1 e);
      held = λ g m. elim m [ ];
      lower = λ g m. elim m [ ];
      apart = refl;
    }

-- any other has its place, and what is above that
chain_more : (t : Table) (h p : Head) (gs : List Head) → head_of t h.id ≡ some h → head_of t p.id ≡ some p →
    h.directory ≡ p.id → p.depth + 1 ≡ h.depth → is_directory p ≡ true → (is_live h ≡ true → is_live p ≡ true) →
    Chain t p gs → Chain t h (p ∷ gs)
unfolding chained distinct
chain_more t h p gs hh hp d e k live c =
    record {
      count = omega (arith, c.count);
      linked =
          and_both (eq-eqb h.directory p.id d)
          (and_both (eq-eqb h.depth (p.depth + 1) (sym e)) (and_both k (and_both (go (is_live h) refl) c.linked)));
      held = held;
      lower = lower;
      apart = and_both (in_every (λ (g : Head). not (same_head_id h g)) (p ∷ gs) other) c.apart;
    }
  where
    go : (b : Bool) → is_live h ≡ b → (not b || is_live p) ≡ true
    go true z = live z
    go false z = refl

    held : (g : Head) → In g (p ∷ gs) → head_of t g.id ≡ some g
    held g m = one (Memᴰ.cases_cons m)
      where
        one : (g ≡ p) ⊎ In g gs → head_of t g.id ≡ some g
        one (inl z) = subst (λ (x : Head). head_of t x.id ≡ some x) (sym z) hp
        one (inr i) = c.held g i

    lower : (g : Head) → In g (p ∷ gs) → g.depth < h.depth
    lower g m = one (Memᴰ.cases_cons m)
      where
        one : (g ≡ p) ⊎ In g gs → g.depth < h.depth
        one (inl z) = omega (arith, ap (λ (x : Head). x.depth) z)
        one (inr i) = omega (arith, c.lower g i)

    -- two held heads with one id are one, and these differ in depth
    other : (g : Head) → In g (p ∷ gs) → not (same_head_id h g) ≡ true
    other g m =
        ap not
        (ne_eqb h.id g.id
        (λ z.
        let one : h ≡ g = some_only (sym hh ∙ ap (head_of t) z ∙ held g m) in
        omega (arith, ap (λ (x : Head). x.depth) one, lower g m)))

module _ (t : Table) (s : Sound t) where
  -- the root has depth 0
  root_top : (f : ℕ) (h : Head) → head_of t f ≡ some h → h.id ≡ 0 → h.depth ≡ 0
  root_top f h e z = ap (λ (x : Head). x.depth) (root_only t s.root_first_law f h e z)

  -- any other has its chain
  pub chain_of : (k f : ℕ) (h : Head) → head_of t f ≡ some h → (h.id ≡ 0 → ⊥) → h.depth ≡ k →
      Chain t h (chain_up k h.directory t)
  chain_of zero f h e n d = let p = s.placed f h e n in absurd (omega (arith, p.depth))
  chain_of (suc k) f h e n d = go (same? h.directory 0) (chain_of k h.directory p.parent p.held)
    where
      p : Place t h
      p = s.placed f h e n

      below : p.parent.depth ≡ k
      below = omega (arith, p.depth)

      id : p.parent.id ≡ h.directory
      id = head_id h.directory t.replicas p.parent p.held

      live : is_live h ≡ true → is_live p.parent ≡ true
      live z =
          not-false (is_live p.parent)
          (sym (dead_not (head_of t h.directory) p.parent p.held) ∙ s.live_places f h e n z)

      go : (h.directory ≡ 0) ⊎ (h.directory ≡ 0 → ⊥) →
          ((p.parent.id ≡ 0 → ⊥) → p.parent.depth ≡ k → Chain t p.parent (chain_up k p.parent.directory t)) →
          Chain t h (chain_up (suc k) h.directory t)
      go (inl z) up =
          let top = root_top h.directory p.parent p.held (id ∙ z) in
          subst (Chain t h) (sym (chain_root (suc k) h.directory t z))
          (chain_last t h z (omega (arith, p.depth)))
      go (inr nz) up =
          subst (Chain t h) (sym (chain_next k h.directory t p.parent nz p.held))
          (chain_more t h p.parent (chain_up k p.parent.directory t) (head_own f t.replicas h e)
          (head_own h.directory t.replicas p.parent p.held) (sym id) p.depth p.directory live
          (up (λ z. nz (sym id ∙ z)) below))

  -- "so max(1, depth) heads"
  pub head_count : (f : ℕ) (h : Head) → head_of t f ≡ some h →
      suc (length (chain_up h.depth h.directory t)) ≡ max 1 h.depth
  unfolding chain_up
  head_count f h e = go (same? h.id 0)
    where
      go : (h.id ≡ 0) ⊎ (h.id ≡ 0 → ⊥) → suc (length (chain_up h.depth h.directory t)) ≡ max 1 h.depth
      go (inl z) =
          let d = root_top f h e z in
          omega (arith, ap (λ (k : ℕ). length (chain_up k h.directory t)) d)
      go (inr n) = omega (arith, (chain_of h.depth f h e n refl).count)
