-- Each stamp that a call draws stands in its table when the call ends, with the state that it was given to: so the
-- states ever issued are those that stood in a table at an earlier point of the run. Assumes nothing.
use Rattle.std.specs.Prelude.{◌≡◌, refl, ◌⊎◌, Bool, true, false, ◌&&◌, not, cond, List, [], ◌∷◌, ◌++◌, ℕ, zero, suc, ◌+◌, ◌≤◌}
use Rattle.std.proofs.Common.{ap, sym, ◌∙◌, inl, inr, arith, eq-eqb}
use Rattle.std.proofs.Math.Path.{subst}
use Rattle.std.proofs.Math.Option.{Option, some, none}
use Rattle.codec.specs.Lists.{and_true}
use Rattle.names.specs.Names.{name_from}
use Rattle.numbers.specs.Laws.{size_most}
use Rattle.records.specs.declared.head.Head.{Head}
use Rattle.slots.specs.declared.replica.Replica.{Replica}
use Rattle.document.specs.Tables.{Table, with_next, head_of}
use Rattle.document.specs.Sound.{is_live}
use Rattle.document.specs.Steps.{stamp_at, join_all, issue, settle, with_state, with_place, is_dead, directory_of, relive, make_live}
use Rattle.document.specs.Messages.{Push, read_push}
use Rattle.document.specs.Receive.{joins, mend, step_f, taken, received}
use Rattle.document.specs.Outcomes.{done}
use Rattle.document.specs.Calls.{new_head, created, killed, renamed}
use Rattle.views.specs.Lists.{In, no_both, some_only}
use Rattle.views.specs.Puts.{head_id}
use Rattle.views.specs.Issues.{issue_head_same, issue_head_other}
use Rattle.views.specs.Settles.{head_settle}
use Rattle.views.specs.Sounds.{Sound, Place, Shown}
use Rattle.kept.specs.Firm.{Base, base_of}
use Rattle.kept.specs.MessageFacts.{message_says, table_agrees}
use Rattle.kept.specs.ReceiveJoins.{after_E, shown_E}
use Rattle.kept.specs.ReceiveLive.{nonroot_dead, mends}
use Rattle.cluster.specs.Cluster.{State, state_of, stated, placed, made_live, mended, mended_all, received_states, Call, creates, unlinks, renames, removes, spreads, lists, pushes, receives, hears, counts, draws}
use Rattle.cluster.specs.Accepted.{answer_in, Creates, creates_is, Kills, unlinks_is, removes_is, Renames, renames_is, Takes, takes_is, receives_is}
use mathlib.Core.List.Memᴰ

-- the state stands in the table
pub record Stands (u : Table) (x : State) : Type 0 where
  pub head : Head
  pub held : head_of u x.id ≡ some head
  pub is : state_of head ≡ x

-- ---- (f) leaves what is not dead as it is

abbrev Spares : Table → Table → Type 0
Spares t u = (g : ℕ) → is_dead (head_of t g) ≡ false → head_of u g ≡ head_of t g

spares_trans : (t u v : Table) → Spares t u → Spares u v → Spares t v
spares_trans t u v a b g e = let p = a g e in b g (ap is_dead p ∙ e) ∙ p

relive_other : (now d : ℕ) (o : Option Head) (u : Table) → head_of u d ≡ o → (g : ℕ) → (g ≡ d → ⊥) →
    head_of (relive now o u) g ≡ head_of u g
unfolding relive
relive_other now d none u e g ne = refl
relive_other now d (some h) u e g ne =
    issue_head_other now (with_state h 1) u g (λ q. ne (q ∙ head_id d u.replicas h e))

-- a dead directory is not one that is spared
not_dead : (t : Table) (d g : ℕ) → is_dead (head_of t d) ≡ true → is_dead (head_of t g) ≡ false → g ≡ d → ⊥
not_dead t d g a b q = no_both (is_dead (head_of t d)) a (ap (λ (m : ℕ). is_dead (head_of t m)) (sym q) ∙ b)

spares_live : (k now d : ℕ) (t : Table) → is_dead (head_of t d) ≡ true → Spares t (make_live k now d t)
unfolding make_live
spares_live zero now d t a g e = refl
spares_live (suc k) now d t a g e =
    go (is_dead (head_of t (directory_of (head_of t d)))) refl (λ q. spares_live k now (directory_of (head_of t d)) t q)
  where
    go : (b : Bool) → is_dead (head_of t (directory_of (head_of t d))) ≡ b →
        (is_dead (head_of t (directory_of (head_of t d))) ≡ true → Spares t (make_live k now (directory_of (head_of t d)) t)) →
        head_of (let u = cond b (make_live k now (directory_of (head_of t d)) t) t in relive now (head_of u d) u) g
        ≡ head_of t g
    go true q ih = relive_other now d _ _ refl g (not_dead t d g a e) ∙ ih q g e
    go false q ih = relive_other now d _ t refl g (not_dead t d g a e)

spares_mend : (now : ℕ) (o : Option Head) (t : Table) → Spares t (mend now o t)
spares_mend now none t = λ g e. refl
spares_mend now (some h) t = go (is_live h && is_dead (head_of t h.directory)) refl
  where
    go : (b : Bool) → (is_live h && is_dead (head_of t h.directory)) ≡ b →
        Spares t (cond b (make_live 16 now h.directory t) t)
    go true q = spares_live 16 now h.directory t (and_true (is_live h) _ q).1
    go false q = λ g e. refl

spares_step_f : (now : ℕ) (l : List Replica) (t : Table) → Spares t (step_f now l t)
unfolding step_f
spares_step_f now [] t = λ g e. refl
spares_step_f now (r ∷ rs) t =
    let u = mend now (head_of t r.head.id) t in
    spares_trans t u (step_f now rs u) (spares_mend now (head_of t r.head.id) t) (spares_step_f now rs u)

-- ---- making a directory live: each state drawn stands, and its directory is no deeper than the first

record Drawn (t u : Table) (h : Head) (x : State) : Type 0 where
  was : Head
  held : head_of t x.id ≡ some was
  deep : was.depth ≤ h.depth
  live : x.live ≡ 1
  stands : Stands u x

live_drawn : (k now d : ℕ) (t : Table) (h : Head) → Base t → head_of t d ≡ some h → is_dead (head_of t d) ≡ true →
    (x : State) →
    In x (made_live k now d t) → Drawn t (make_live k now d t) h x
unfolding make_live made_live relive
live_drawn zero now d t h b e a x m = elim m [ ]
live_drawn (suc k) now d t h b e a x m =
    go (is_dead (head_of t (directory_of (head_of t d)))) refl m
    (λ p q. live_drawn k now (directory_of (head_of t d)) t p b q)
  where
    z : h.id ≡ 0 → ⊥
    z = nonroot_dead t b d h e a

    up : Place t h
    up = b.placed d h e z

    at : head_of t (directory_of (head_of t d)) ≡ some up.parent
    at = ap (λ (o : Option Head). head_of t (directory_of o)) e ∙ up.held

    -- the last drawn is that of d, and those before it stay
    last : (u : Table) (M : List State) → ((y : State) → In y M → Drawn t u up.parent y) → (o : Option Head) →
        head_of u d ≡ o →
        In x (stated o (λ g. with_state g 1 (stamp_at now u)) ++ M) → Drawn t (relive now o u) h x
    last u M f none q m =
        let w = f x m in
        record {
          was = w.was;
          held = w.held;
          deep = omega
              (arith, w.deep, up.depth);
          live = w.live;
          stands = w.stands;
        }
    last u M f (some y) q m = on (Memᴰ.cases_cons m)
      where
        id : y.id ≡ d
        id = head_id d u.replicas y q

        before : Drawn t u up.parent x → Drawn t (issue now (with_state y 1) u) h x
        before w =
            let ne : x.id ≡ y.id → ⊥ = λ i.
            omega (
              arith,
              w.deep,
              up.depth,
              ap (λ (g : Head). g.depth) (some_only (sym w.held ∙ ap (λ (m : ℕ). head_of t m) (i ∙ id) ∙ e)),
            ) in
            record {
              was = w.was;
              held = w.held;
              deep = omega (arith, w.deep, up.depth);
              live = w.live;
              stands =
                  record {
                    head = w.stands.head;
                    held = issue_head_other now (with_state y 1) u x.id ne ∙ w.stands.held;
                    is = w.stands.is;
                  };
            }

        here : x ≡ state_of (with_state y 1 (stamp_at now u)) → Drawn t (issue now (with_state y 1) u) h x
        here p =
            let i : x.id ≡ y.id = ap (λ (s : State). s.id) p in
            record {
              was = h;
              held = ap (λ (m : ℕ). head_of t m) (i ∙ id) ∙ e;
              deep = omega arith;
              live = ap (λ (s : State). s.live) p;
              stands =
                  record {
                    head = with_state y 1 (stamp_at now u);
                    held =
                        ap (λ (m : ℕ). head_of (issue now (with_state y 1) u) m) i ∙ issue_head_same now
                        (with_state y 1) u;
                    is = sym p;
                  };
            }

        on : (x ≡ state_of (with_state y 1 (stamp_at now u))) ⊎ In x M → Drawn t (issue now (with_state y 1) u) h x
        on (inl p) = here p
        on (inr i) = before (f x i)

    go : (c : Bool) → is_dead (head_of t (directory_of (head_of t d))) ≡ c →
        In x (let u = cond c (make_live k now (directory_of (head_of t d)) t) t in
        stated (head_of u d) (λ h. with_state h 1 (stamp_at now u)) ++ cond c
        (made_live k now (directory_of (head_of t d)) t) []) →
        ((p : Head) → head_of t (directory_of (head_of t d)) ≡ some p → is_dead (head_of t (directory_of (head_of t d)))
        ≡ true →
        (y : State) → In y (made_live k now (directory_of (head_of t d)) t) →
        Drawn t (make_live k now (directory_of (head_of t d)) t) p y) →
        Drawn t (let u = cond c (make_live k now (directory_of (head_of t d)) t) t in relive now (head_of u d) u) h x
    go true q m ih = last (make_live k now (directory_of (head_of t d)) t) _ (λ y i. ih up.parent at q y i) _ refl m
    go false q m ih = last t [] (λ y i. none' i) _ refl m
      where
        none' : {y : State} → In y [] → Drawn t t up.parent y
        none' i = elim i [ ]

-- ---- (f): what one replica drew stays, for it is live

mend_drawn : (now g : ℕ) (o : Option Head) (t : Table) → Base t → head_of t g ≡ o → (x : State) → In x (mended now o t) →
    (x.live ≡ 1) × Stands (mend now o t) x
mend_drawn now g none t b e x m = elim m [ ]
mend_drawn now g (some h) t b e x m = go (is_live h && is_dead (head_of t h.directory)) refl m
  where
    go : (c : Bool) → (is_live h && is_dead (head_of t h.directory)) ≡ c →
        In x (cond c (made_live 16 now h.directory t) []) →
        (x.live ≡ 1) × Stands (cond c (make_live 16 now h.directory t) t) x
    go false q m = elim m [ ]
    go true q m =
        let dead = (and_true (is_live h) _ q).1 in
        on (head_of t h.directory) refl dead
      where
        on : (o : Option Head) → head_of t h.directory ≡ o → is_dead (head_of t h.directory) ≡ true →
            (x.live ≡ 1) × Stands (make_live 16 now h.directory t) x
        on none r dead = absurd (no_both _ dead (ap is_dead r))
        on (some p) r dead = let w = live_drawn 16 now h.directory t p b r dead x m in (w.live, w.stands)

-- a live state that stands is spared
spared : (t u : Table) (x : State) → Spares t u → x.live ≡ 1 → Stands t x → Stands u x
spared t u x a l s =
    record {
      head = s.head;
      held =
          a x.id
          (ap is_dead s.held ∙ ap not (eq-eqb s.head.live 1 (ap (λ (y : State). y.live) s.is ∙ l))) ∙ s.held;
      is = s.is;
    }

pub step_f_drawn : (now : ℕ) (l : List Replica) (t : Table) → Base t → Shown t → (x : State) → In x (mended_all now l t) →
    Stands (step_f now l t) x
unfolding step_f mended_all
step_f_drawn now [] t b s x m = elim m [ ]
step_f_drawn now (r ∷ rs) t b s x m =
    let u = mend now (head_of t r.head.id) t in
    let w = (mends now (r ∷ []) t b s).0.mended in
    go (Memᴰ.append_cases (mended_all now rs u) m) (step_f_drawn now rs u w.base w.shown x)
  where
    go : In x (mended_all now rs (mend now (head_of t r.head.id) t)) ⊎ In x (mended now (head_of t r.head.id) t) →
        (In x (mended_all now rs (mend now (head_of t r.head.id) t)) →
        Stands (step_f now rs (mend now (head_of t r.head.id) t)) x) →
        Stands (step_f now rs (mend now (head_of t r.head.id) t)) x
    go (inl i) ih = ih i
    go (inr i) ih =
        let y = mend_drawn now r.head.id (head_of t r.head.id) t b refl x i in
        spared _ _ x (spares_step_f now rs (mend now (head_of t r.head.id) t)) y.0 y.1

-- ---- the calls

-- settling leaves states as they are
stands_settle : (t u : Table) (x : State) → Stands u x → Stands (settle t u) x
stands_settle t u x s = record { head = s.head; held = head_settle t u x.id ∙ s.held; is = s.is }

-- a state that was issued last stands
issued_last : (t r u : Table) (now : ℕ) (f : ℕ → Head) → u ≡ settle t (issue now f r) → (x : State) →
    In x (state_of (f (stamp_at now r)) ∷ []) → Stands u x
issued_last t r u now f e x m = only (Memᴰ.cases_cons m)
  where
    here : Stands u (state_of (f (stamp_at now r)))
    here =
        subst (λ (z : Table). Stands z (state_of (f (stamp_at now r)))) (sym e)
        (stands_settle t (issue now f r) (state_of (f (stamp_at now r)))
        (record { head = f (stamp_at now r); held = issue_head_same now f r; is = refl }))

    only : (x ≡ state_of (f (stamp_at now r))) ⊎ In x [] → Stands u x
    only (inl q) = subst (λ (y : State). Stands u y) (sym q) here
    only (inr i) = elim i [ ]

module _ (t : Table) (s : Sound t) (v : ℕ) (u : Table) (w : List ℕ) where
  kill_drawn : (now id : ℕ) → Kills t u now id → (x : State) →
      In x (stated (head_of t id) (λ h. with_state h 0 (stamp_at now t))) → Stands u x
  unfolding killed
  kill_drawn now id k x m =
      issued_last t t u now (with_state k.head 0) k.is x
      (subst (λ (o : Option Head). In x (stated o (λ h. with_state h 0 (stamp_at now t)))) k.found m)

  create_drawn : (now d kind : ℕ) (name : List ℕ) (set : ℕ) → Creates t u now d kind name set → (x : State) →
      In x (draws (creates now d kind name set) t) → Stands u x
  unfolding created
  create_drawn now d kind name set k x m =
      issued_last t (with_next t (t.next + 1)) u now (new_head kind (name_from name) set t k.place) k.is x
      (subst (λ (o : Option Head). In x (stated o (λ p. new_head kind (name_from name) set t p (stamp_at now t))))
      k.found m)

  rename_drawn : (now id d : ℕ) (name : List ℕ) → Renames t u now id d name → (x : State) →
      In x (draws (renames now id d name) t) → Stands u x
  unfolding renamed
  rename_drawn now id d name k x m =
      issued_last t t u now (with_place k.head k.place (name_from name)) k.is x
      (subst (λ (o : Option Head). In x (stated o (λ h. with_place h k.place (name_from name) (stamp_at now t))))
      k.found
      (subst (λ (o : Option Head). In x
      (placed o (λ p. stated (head_of t id) (λ h. with_place h p (name_from name) (stamp_at now t)))))
      k.there m))

  take_drawn : (now : ℕ) (m : List ℕ) (p : Push) → read_push t.nodes m ≡ some p → Takes t u w now p → (x : State) →
      In x (received_states now (some p) t) → Stands u x
  unfolding received_states received
  take_drawn now l p e k x m =
      let says = message_says t.nodes l p (size_most t.nodes s.size) e in
      let agrees = table_agrees p t k.even in
      let E : Table = join_all (joins p t) (taken p t) in
      subst (λ (z : Table). Stands z x) (sym k.is)
      (stands_settle t (step_f now E.replicas E) x
      (step_f_drawn now E.replicas E (after_E p t (base_of t s) says agrees)
      (shown_E p t (base_of t s) says agrees s.shown) x m))

  pub drawn_stands : (k : Call) → answer_in k t ≡ done v u w → (x : State) → In x (draws k t) → Stands u x
  drawn_stands (creates now d kind name set) e x m =
      create_drawn now d kind name set (creates_is t v u w now d kind name set e) x m
  drawn_stands (unlinks now id) e x m = kill_drawn now id (unlinks_is t v u w now id s.root_first_law e) x m
  drawn_stands (renames now id d name) e x m = rename_drawn now id d name (renames_is t v u w now id d name e) x m
  drawn_stands (removes now id) e x m = kill_drawn now id (removes_is t v u w now id e) x m
  drawn_stands (spreads id set) e x m = elim m [ ]
  drawn_stands (lists id room) e x m = elim m [ ]
  drawn_stands (pushes id node room) e x m = elim m [ ]
  drawn_stands (receives now message room) e x m =
      let g = receives_is t v u w now message room e in
      take_drawn now message g.0 g.1 (takes_is t v u w now g.0 g.2) x
      (subst (λ (o : Option Push). In x (received_states now o t)) g.1 m)
  drawn_stands (hears message) e x m = elim m [ ]
  drawn_stands counts e x m = elim m [ ]
