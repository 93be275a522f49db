-- Step (f) of a receive, as the code takes it: making a directory live and setting its entry in its place directory call
-- each other, and depth falls at each turn. Assumes nothing.
use Rattle.std.specs.Prelude.{◌≡◌, refl, Bool, true, false, ◌&&◌, cond}
use Rattle.std.proofs.Math.Path.{ap, sym, subst}
use Rattle.std.proofs.Common.{◌∙◌}
use Rattle.std.proofs.Math.Option.{Option, some, none}
use mathlib.Core.List.{List, [], ◌∷◌}
use Prim.Native.Nat.{ℕ, zero, suc, ◌+◌, ◌-◌, ◌*◌, ◌^◌, ◌≤◌, ◌<◌, max}
use native.Mathlib.Omega.{arith}
use Rattle.records.specs.declared.head.Head.{Head}
use Rattle.slots.specs.declared.replica.Replica.{Replica}
use Rattle.document.specs.Tables.{Table, head_of, slots_from, table_of, replica_in, replicas_used, with_highest}
use Rattle.document.specs.Sound.{is_live}
use Rattle.document.specs.Steps.{stamp_at, clock_at, with_state, is_dead, directory_of, relive, make_live, too_many}
use Rattle.document.specs.Receive.{mend, step_f}
use Rattle.document.specs.Reading.{few_replicas}
use Rattle.views.specs.Lists.{no_both}
use Rattle.views.specs.Puts.{head_id}
use Rattle.views.specs.Issues.{issue_highest}
use Rattle.views.specs.Sounds.{Place, Shown, root_held, root_only}
use Rattle.kept.specs.Firm.{Base}
use Rattle.kept.specs.ReceiveLive.{Lit, nonroot_dead, lit_live, live_16, mends}
use Rattle.steps.specs.Standing.{Is, stands}
use Rattle.steps.specs.Room.{Room, crowd}
use Rattle.steps.specs.Grown.{Grown, grown_refl, grows_slots}
use Rattle.steps.specs.States.{Held, Made, Ready, stated, issue_stated, Housed, crowd_most, made_past, held_head}
use Rattle.merge.specs.Working.{Works, made_works, made_none, made_all, made_full, made_is, room_high}
use Rattle.merge.specs.Turns.{slots_next, slots_end}
use Rattle.merge.specs.Keeping.{past_relive, past_mends, grown_mend}

-- each entry's directory is held, where the table is sound but for what the end of a call sees to
pub base_housed : (t : Table) → Base t → Housed t
base_housed t b x i = let p = b.parents x i in held_head t x.directory p.head p.held

-- the place of what is not the root is held
place_held_law : (t : Table) → Base t → (d : ℕ) (h : Head) → head_of t d ≡ some h → (h.id ≡ 0 → ⊥) → Held t h.directory
place_held_law t b d h e z = let p = b.placed d h e z in held_head t h.directory p.parent p.held

-- ---- a new stamp at the last place

pub record Revives (l : List ℕ) (id now : ℕ) : Type 0 where
  pub works : Works l
  pub base : Base (table_of l)
  pub nonroot : id ≡ 0 → ⊥
  pub clock : (table_of l).highest < 2 ^ 48
  pub late : now < 2 ^ 48

pub revive_none : (id now : ℕ) {l : List ℕ} → Works l → head_of (table_of l) id ≡ none →
    Made true l (relive now (head_of (table_of l) id) (table_of l))
unfolding relive
revive_none id now {l} w e = made_is (ap (λ (o : Option Head). relive now o (table_of l)) (sym e)) (made_none w)

module _ (id now : ℕ) {l : List ℕ} (k : Revives l id now) (h : Head) (e : head_of (table_of l) id ≡ some h) {stamp : ℕ}
    (s : stamp ≡ stamp_at now (table_of l)) {l' : List ℕ}
    (d : Is l' (with_highest (table_of l) (clock_at now (table_of l)))) {new : Head}
    (n : new ≡ with_state h 1 stamp) where
  nonroot : h.id ≡ 0 → ⊥
  nonroot z = k.nonroot (sym (head_id id (table_of l).replicas h e) ∙ z)

  is : new ≡ with_state h 1 (stamp_at now (table_of l))
  is = n ∙ ap (with_state h 1) s

  pub revive_ready : Ready l' new
  revive_ready =
      subst (Ready l') (sym is)
      (record {
        stands = stands d;
        room = subst Room (sym d.table) (room_high (table_of l) _ k.works.room);
        place = held h.directory (place_held_law (table_of l) k.base id h e nonroot);
        last = λ old q.
            let at : head_of (table_of l) h.id ≡ some old =
            ap (λ (u : Table). head_of u h.id) (sym d.table) ∙ q in
            held old.directory
            (place_held_law (table_of l) k.base h.id old at
            (λ z. nonroot (sym (head_id h.id (table_of l).replicas old at) ∙ z)));
        crowd = subst (λ (u : Table). crowd u h.id ≤ 32) (sym d.table)
            (crowd_most (table_of l) k.works.room k.works.housed h.id);
      })
    where
      held : (f : ℕ) → Held (table_of l) f → Held (table_of l') f
      held f p = subst (λ (u : Table). Held u f) (sym d.table) p

  pub revive_made : {r : Bool} {l2 : List ℕ} → Made r l2 (stated new (table_of l')) →
      Made r l2 (relive now (head_of (table_of l) id) (table_of l))
  unfolding relive
  revive_made m =
      made_is (ap (λ (u : Table). stated new u) d.table
      ∙ ap (λ (x : Head). stated x (with_highest (table_of l) (clock_at now (table_of l)))) is
      ∙ sym (issue_stated now (with_state h 1) (table_of l))
      ∙ ap (λ (o : Option Head). relive now o (table_of l)) (sym e)) m

-- ---- the clocks drawn on the way

high_relive : (now : ℕ) (o : Option Head) (t : Table) (c : ℕ) → t.highest ≤ c → now ≤ c →
    (relive now o t).highest ≤ c + 1
unfolding relive
high_relive now none t c p q = omega arith
high_relive now (some h) t c p q = omega (arith, issue_highest now (with_state h 1) t)

high_live : (k now d : ℕ) (t : Table) (c : ℕ) → t.highest ≤ c → now ≤ c → (make_live k now d t).highest ≤ c + k
unfolding make_live
high_live zero now d t c p q = omega arith
high_live (suc k) now d t c p q =
    let place = directory_of (head_of t d) in
    let u = cond (is_dead (head_of t place)) (make_live k now place t) t in
    omega (
      arith,
      high_relive now (head_of u d) u (c + k)
          (go (is_dead (head_of t place)) (high_live k now place t c p q)) (omega arith),
    )
  where
    go : (b : Bool) → (make_live k now (directory_of (head_of t d)) t).highest ≤ c + k →
        (cond b (make_live k now (directory_of (head_of t d)) t) t).highest ≤ c + k
    go true up = up
    go false up = omega arith

high_mend : (now : ℕ) (o : Option Head) (t : Table) (c : ℕ) → t.highest ≤ c → now ≤ c →
    (mend now o t).highest ≤ c + 16
high_mend now none t c p q = omega arith
high_mend now (some h) t c p q = go (is_live h && is_dead (head_of t h.directory))
  where
    go : (b : Bool) → (cond b (make_live 16 now h.directory t) t).highest ≤ c + 16
    go true = high_live 16 now h.directory t c p q
    go false = omega arith

-- ---- up to the root

-- a directory that is to be made live, at most k deep
pub record Lights (l : List ℕ) (d k now : ℕ) : Type 0 where
  pub works : Works l
  pub base : Base (table_of l)
  pub shown : Shown (table_of l)
  pub head : Head
  pub held : head_of (table_of l) d ≡ some head
  pub nonroot : head.id ≡ 0 → ⊥
  pub deep : head.depth ≤ k
  pub clock : (table_of l).highest + k < 2 ^ 48
  pub late : now + k < 2 ^ 48

-- the directory made live at its place, which is made live first if it is dead
abbrev pub live_if : Bool → ℕ → ℕ → ℕ → ℕ → Table → Table
live_if dead k now d place t = let u = cond dead (make_live k now place t) t in relive now (head_of u d) u

abbrev pub live_over : ℕ → ℕ → ℕ → ℕ → Table → Table
live_over k now d place t = live_if (is_dead (head_of t place)) k now d place t

module _ (d k now : ℕ) {l : List ℕ} (a : Lights l d k now) where
  P : Place (table_of l) a.head
  P = a.base.placed d a.head a.held a.nonroot

  pub light_low : 1 ≤ k
  light_low = omega (arith, P.depth, a.deep)

  -- as the definition has it
  pub light_made : (place : ℕ) → place ≡ directory_of (head_of (table_of l) d) → {r : Bool} {l' : List ℕ} →
      Made r l' (live_over (k - 1) now d place (table_of l)) → Made r l' (make_live k now d (table_of l))
  unfolding make_live
  light_made place e m =
      let less : suc (k - 1) ≡ k = omega (arith, light_low) in
      made_is (ap (λ (f : ℕ). live_over (k - 1) now d f (table_of l)) e
      ∙ ap (λ (n : ℕ). make_live n now d (table_of l)) less) m

  module _ (place : ℕ) (e : place ≡ directory_of (head_of (table_of l) d)) where
    there : place ≡ a.head.directory
    there = e ∙ ap directory_of a.held

    -- its place is live
    pub over_live : Revives l d now
    over_live =
        record {
          works = a.works;
          base = a.base;
          nonroot = λ z. a.nonroot (head_id d (table_of l).replicas a.head a.held ∙ z);
          clock = omega (arith, a.clock);
          late = omega (arith, a.late);
        }

    pub over_live_made : is_dead (head_of (table_of l) place) ≡ false → {r : Bool} {l' : List ℕ} →
        Made r l' (relive now (head_of (table_of l) d) (table_of l)) →
        Made r l' (live_over (k - 1) now d place (table_of l))
    over_live_made q m =
        made_is (ap (λ (b : Bool). live_if b (k - 1) now d place (table_of l)) (sym q)) m

    -- its place is dead
    module _ (q : is_dead (head_of (table_of l) place) ≡ true) where
      parent : head_of (table_of l) place ≡ some P.parent
      parent = ap (λ (f : ℕ). head_of (table_of l) f) there ∙ P.held

      apart : P.parent.id ≡ 0 → ⊥
      apart = nonroot_dead (table_of l) a.base place P.parent parent q

      pub over_dead : Lights l place (k - 1) now
      over_dead =
          record {
            works = a.works;
            base = a.base;
            shown = a.shown;
            head = P.parent;
            held = parent;
            nonroot = apart;
            deep = omega (arith, P.depth, a.deep);
            clock = omega (arith, a.clock);
            late = omega (arith, a.late);
          }

      abbrev up : Table
      up = make_live (k - 1) now place (table_of l)

      over_is : relive now (head_of up d) up ≡ live_over (k - 1) now d place (table_of l)
      over_is =
          ap (λ (b : Bool). live_if b (k - 1) now d place (table_of l)) (sym q)

      pub over_full : {l' l2 : List ℕ} → Made false l' (make_live (k - 1) now place (table_of l)) →
          Made false l2 (live_over (k - 1) now d place (table_of l))
      over_full m = made_full (ap too_many (sym over_is) ∙ past_relive now (head_of up d) up (made_past m refl))

      module _ {l' : List ℕ} (m : Made true l' (make_live (k - 1) now place (table_of l))) where
        lit : Lit (table_of l) up place
        lit =
            lit_live (k - 1) now place (table_of l) P.parent a.base a.shown parent apart
            (omega (arith, P.depth, a.deep))

        at : table_of l' ≡ up
        at = (m.bytes refl).table

        pub over_next : Revives l' d now
        over_next =
            let b = lit.lifted.mended.base in
            let high = high_live (k - 1) now place (table_of l) (max (table_of l).highest now) (omega arith)
            (omega arith) in
            record {
              works = made_works m (base_housed up b);
              base = subst Base (sym at) b;
              nonroot = over_live.nonroot;
              clock = subst (λ (u : Table). u.highest < 2 ^ 48) (sym at)
                  (omega (arith, high, a.clock, a.late, light_low));
              late = omega (arith, a.late);
            }

        pub over_made : {r : Bool} {l2 : List ℕ} → Made r l2 (relive now (head_of (table_of l') d) (table_of l')) →
            Made r l2 (live_over (k - 1) now d place (table_of l))
        over_made n = made_is (ap (λ (u : Table). relive now (head_of u d) u) at ∙ over_is) n

-- ---- one replica

pub record Mends (l : List ℕ) (now : ℕ) : Type 0 where
  pub works : Works l
  pub base : Base (table_of l)
  pub shown : Shown (table_of l)
  pub clock : (table_of l).highest + 16 < 2 ^ 48
  pub late : now + 16 < 2 ^ 48

module _ (g now : ℕ) {l : List ℕ} (a : Mends l now) where
  abbrev pub mended_at : Table
  mended_at = mend now (head_of (table_of l) g) (table_of l)

  pub mend_none : head_of (table_of l) g ≡ none → Made true l mended_at
  mend_none e = made_is (ap (λ (o : Option Head). mend now o (table_of l)) (sym e)) (made_none a.works)

  module _ (h : Head) (e : head_of (table_of l) g ≡ some h) where
    same_as : (b : Bool) → (is_live h && is_dead (head_of (table_of l) h.directory)) ≡ b →
        cond b (make_live 16 now h.directory (table_of l)) (table_of l) ≡ mended_at
    same_as b q =
        ap (λ (x : Bool). cond x (make_live 16 now h.directory (table_of l)) (table_of l)) (sym q)
        ∙ ap (λ (o : Option Head). mend now o (table_of l)) (sym e)

    -- it is dead, or its place is live
    pub mend_dead : is_live h ≡ false → Made true l mended_at
    mend_dead q =
        made_is (same_as false (ap (λ (b : Bool). b && is_dead (head_of (table_of l) h.directory)) q))
        (made_none a.works)

    pub mend_live : is_live h ≡ true → is_dead (head_of (table_of l) h.directory) ≡ false → Made true l mended_at
    mend_live p q =
        made_is (same_as false (ap (λ (b : Bool). b && is_dead (head_of (table_of l) h.directory)) p ∙ q))
        (made_none a.works)

    -- its place is made live
    module _ (p : is_live h ≡ true) (q : is_dead (head_of (table_of l) h.directory) ≡ true) where
      not_root : h.id ≡ 0 → ⊥
      not_root z =
          let i : h.directory ≡ 0 = ap (λ (y : Head). y.directory)
          (root_only (table_of l) a.base.root_first_law g h e z) in
          no_both _ q (ap (λ (m : ℕ). is_dead (head_of (table_of l) m)) i
          ∙ ap is_dead (root_held (table_of l) a.base.root_first_law))

      place : Place (table_of l) h
      place = a.base.placed g h e not_root

      above : place.parent.id ≡ 0 → ⊥
      above = nonroot_dead (table_of l) a.base h.directory place.parent place.held q

      pub mend_low : 1 ≤ h.depth
      mend_low = omega (arith, place.depth)

      pub mend_lights : Lights l h.directory (h.depth - 1) now
      mend_lights =
          record {
            works = a.works;
            base = a.base;
            shown = a.shown;
            head = place.parent;
            held = place.held;
            nonroot = above;
            deep = omega (arith, place.depth);
            clock = omega (arith, a.clock, a.base.depths_fit g h e);
            late = omega (arith, a.late, a.base.depths_fit g h e);
          }

      pub mend_made : {r : Bool} {l' : List ℕ} → Made r l' (make_live (h.depth - 1) now h.directory (table_of l)) →
          Made r l' mended_at
      mend_made m =
          let same = live_16 (h.depth - 1) now h.directory (table_of l) place.parent a.base place.held
          above (omega (arith, place.depth)) in
          let both = ap (λ (b : Bool). b && is_dead (head_of (table_of l) h.directory)) p ∙ q in
          made_is (sym same ∙ same_as true both) m

-- ---- in slot order

module _ (now : ℕ) (l₀ : List ℕ) where
  abbrev pub mended_all : Table
  mended_all = step_f now (table_of l₀).replicas (table_of l₀)

  -- those from slot i on are left, and each before drew at most 16 clocks
  pub record Mending (i : ℕ) (l : List ℕ) : Type 0 where
    pub late : now ≤ 2 ^ 40
    pub few : i ≤ replicas_used l₀
    pub works : Works l
    pub base : Base (table_of l)
    pub shown : Shown (table_of l)
    pub clock : (table_of l).highest ≤ 2 ^ 40 + 16 * i
    pub grown : Grown (table_of l₀) (table_of l)
    pub leads : step_f now (slots_from (replica_in l₀) i (replicas_used l₀ - i)) (table_of l) ≡ mended_all

  pub mending_start : now ≤ 2 ^ 40 → Works l₀ → Base (table_of l₀) → Shown (table_of l₀) →
      (table_of l₀).highest ≤ 2 ^ 40 → Mending 0 l₀
  unfolding table_of
  mending_start late w b s c =
      let less : replicas_used l₀ - 0 ≡ replicas_used l₀ = omega arith in
      record {
        late = late;
        few = omega arith;
        works = w;
        base = b;
        shown = s;
        clock = omega arith;
        grown = grown_refl (table_of l₀);
        leads = ap (λ (n : ℕ). step_f now (slots_from (replica_in l₀) 0 n) (table_of l₀)) less;
      }

  module _ (i : ℕ) {l : List ℕ} (a : Mending i l) where
    pub mending_mends : i < replicas_used l₀ → Mends l now
    mending_mends h =
        record {
          works = a.works;
          base = a.base;
          shown = a.shown;
          clock = omega (arith, a.clock, few_replicas l₀);
          late = omega (arith, a.late);
        }

    -- a slot keeps its id
    pub mending_id : i < replicas_used l₀ → (i < replicas_used l) × ((replica_in l i).head.id ≡ (replica_in l₀ i).head.id)
    unfolding table_of
    mending_id h =
        let s = grows_slots _ _ (replica_in l₀) (replica_in l) 0 (replicas_used l₀) (replicas_used l)
        a.grown.replicas in
        (omega (arith, s.more), s.same i (omega arith) (omega arith))

    module _ (h : i < replicas_used l₀) (id : ℕ) (e : id ≡ (replica_in l₀ i).head.id) where
      abbrev r₀ : Replica
      r₀ = replica_in l₀ i

      abbrev next : Table
      next = mend now (head_of (table_of l) r₀.head.id) (table_of l)

      leads_on : step_f now (slots_from (replica_in l₀) (i + 1) (replicas_used l₀ - (i + 1))) next ≡ mended_all
      unfolding step_f
      leads_on =
          ap (λ (rs : List Replica). step_f now rs (table_of l))
          (sym (slots_next (replica_in l₀) (replicas_used l₀) i h)) ∙ a.leads

      turn : {r : Bool} {l' : List ℕ} → Made r l' (mend now (head_of (table_of l) id) (table_of l)) → Made r l' next
      turn m = made_is (ap (λ (f : ℕ). mend now (head_of (table_of l) f) (table_of l)) e) m

      pub mending_full : {l' l2 : List ℕ} → Made false l' (mend now (head_of (table_of l) id) (table_of l)) →
          Made false l2 mended_all
      mending_full m = made_full (ap too_many (sym leads_on) ∙ past_mends now _ next (made_past (turn m) refl))

      pub mending_turn : {l' : List ℕ} → Made true l' (mend now (head_of (table_of l) id) (table_of l)) →
          Mending (i + 1) l'
      unfolding step_f
      mending_turn {l'} m =
          let lifted = (mends now (r₀ ∷ []) (table_of l) a.base a.shown).0.mended in
          let at : table_of l' ≡ next = ((turn m).bytes refl).table in
          let high = high_mend now (head_of (table_of l) r₀.head.id) (table_of l) (2 ^ 40 + 16 * i) a.clock
          (omega (arith, a.late)) in
          record {
            late = a.late;
            few = omega arith;
            works = made_works (turn m) (base_housed next lifted.base);
            base = subst Base (sym at) lifted.base;
            shown = subst Shown (sym at) lifted.shown;
            clock = subst (λ (u : Table). u.highest ≤ 2 ^ 40 + 16 * (i + 1)) (sym at) (omega (arith, high));
            grown = subst (Grown (table_of l₀)) (sym at)
                (grown_mend (table_of l₀) now (head_of (table_of l) r₀.head.id) (table_of l) a.grown);
            leads = ap (step_f now (slots_from (replica_in l₀) (i + 1) (replicas_used l₀ - (i + 1)))) at ∙ leads_on;
          }

    pub mending_end : replicas_used l₀ ≤ i → Made true l mended_all
    unfolding step_f
    mending_end done =
        made_all a.works
        (ap (λ (rs : List Replica). step_f now rs (table_of l))
        (sym (slots_end (replica_in l₀) (replicas_used l₀) i done)) ∙ a.leads)
