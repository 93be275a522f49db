-- Unlink and remove: the refusals, test by test, and the state that is killed. Assumes nothing.
use Rattle.std.specs.Prelude.{◌≡◌, refl, Bool, true, false, ◌||◌, not, ℕ, ◌^◌, ◌≤◌, ◌<◌, eqb, Some}
use Rattle.std.proofs.Math.Path.{ap}
use Rattle.std.proofs.Common.{sym, subst, ◌∙◌, arith, eq-eqb, ne_eqb, lt-ltb, le-ltb}
use Rattle.std.proofs.Math.Option.{Option, some, none}
use mathlib.Core.List.{List, [], ◌∷◌}
use Rattle.records.specs.declared.head.Head.{Head}
use Rattle.records.specs.Heads.{head_at}
use Rattle.document.specs.Tables.{Table, head_of, table_of, with_highest, replica_slot}
use Rattle.document.specs.Sound.{sound_bytes, is_directory}
use Rattle.document.specs.Steps.{settle, stamp_at, clock_at, with_state, too_many, past_end, is_dead}
use Rattle.document.specs.Outcomes.{Outcome, refused, done, judged}
use Rattle.document.specs.Calls.{when, is_now, changed_by, not_held, not_file, not_directory, place_not_held, killed, unlink_in, remove_in, any_shown, live_child}
use Rattle.views.specs.Puts.{head_id}
use Rattle.views.specs.Sounds.{root_only, sound_table}
use Rattle.steps.specs.Standing.{Is}
use Rattle.steps.specs.States.{Held, issue_stated}
use Rattle.answers.specs.declared.refusal.Refusal.{Refusal}
use Rattle.answers.specs.declared.refusal.Refusal.TheVariants.{OutOfRange, NotHeld, Dead}
use Rattle.answers.specs.Refusals.{code}
use Rattle.changes.specs.Finishing.{Changes, changed, skip, stop}
use Rattle.changes.specs.Looking.{slot_of, slot_held}
use Rattle.changes.specs.Working.{drawn_on, place_there, place_held_law, changes_on}

-- ---- the state that is killed

-- "16" and "17" of the state killed, and then it is done
abbrev pub kills : ℕ → Table → Head → Outcome
kills now t h =
    judged (when 16 (too_many (killed now t h)) ∷ when 17 (past_end (killed now t h)) ∷ []) (done 0 (killed now t h) [])

pub record Kills (l : List ℕ) (now : ℕ) (h : Head) : Type 0 where
  pub sound : sound_bytes l ≡ true
  pub early : now ≤ 1099511627775
  pub held : head_of (table_of l) h.id ≡ some h
  pub below : h.id ≡ 0 → ⊥

module _ {l : List ℕ} {now : ℕ} {h : Head} (k : Kills l now h) where
  pub kill_changes : (c d : List ℕ) → d ≡ l → (stamp : ℕ) (g : Head) → g ≡ with_state h 0 stamp →
      Is c (with_highest (table_of d) (clock_at now (table_of d))) → Changes l c g
  kill_changes c d copied stamp g e i =
      subst (λ (z : Head). Changes l c z) (sym e)
      (changes_on (table_of l).next (clock_at now (table_of l)) (with_state h 0 stamp) k.sound (drawn_on now copied i) place
      (λ old q. subst (λ (z : Option Head). Of z) (sym k.held ∙ q) place))
    where
      place : Held (table_of l) h.directory
      place = place_held_law (table_of l) (sound_table l k.sound) h k.held k.below

      Of : Option Head → Type 0
      Of none = Held (table_of l) h.directory
      Of (some z) = Held (table_of l) z.directory

  pub kill_is : (c d : List ℕ) → d ≡ l → (stamp : ℕ) (g : Head) → g ≡ with_state h 0 stamp → stamp ≡ stamp_at now (table_of d) →
      Is c (with_highest (table_of d) (clock_at now (table_of d))) →
      changed 0 g (table_of l) (table_of c) ≡ kills now (table_of l) h
  unfolding killed
  kill_is c d copied stamp g e f i =
      let t : Table = table_of l in
      ap (λ (z : Head). changed 0 z t (table_of c)) (e ∙ ap (with_state h 0) (f ∙ ap (λ (z : List ℕ). stamp_at now (table_of z)) copied))
      ∙ ap (changed 0 (with_state h 0 (stamp_at now t)) t) (drawn_on now copied i).table
      ∙ ap (λ (u : Table). judged (when 16 (too_many (settle t u)) ∷ when 17 (past_end (settle t u)) ∷ []) (done 0 (settle t u) []))
      (sym (issue_stated now (with_state h 0) t))

-- ---- the refusals

-- "2: .. now above 2^40-1"
pub not_now : (now : ℕ) → 1099511627775 < now → not (is_now now) ≡ true
not_now now h = ap not (le-ltb now (2 ^ 40) (omega arith))

pub is_now_law : (now : ℕ) → now ≤ 1099511627775 → not (is_now now) ≡ false
is_now_law now h = ap not (lt-ltb now (2 ^ 40) (omega arith))

-- the call is early enough, and its head is held
pub record Takes (l : List ℕ) (now : ℕ) (h : Head) : Type 0 where
  pub sound : sound_bytes l ≡ true
  pub early : now ≤ 1099511627775
  pub held : head_of (table_of l) h.id ≡ some h

-- what a number that is held names
pub takes_held : (l : List ℕ) (id now : ℕ) {h : Head} → sound_bytes l ≡ true → now ≤ 1099511627775 →
    head_of (table_of l) id ≡ some h → Takes l now h × (h.id ≡ id)
takes_held l id now {h} s early q =
    let own = head_id id (table_of l).replicas h q in
    (record { sound = s; early = early; held = ap (head_of (table_of l)) own ∙ q }, own)

-- what was read where the number was found
pub takes : (l : List ℕ) (id now : ℕ) {i : ℕ} {h : Head} → sound_bytes l ≡ true → now ≤ 1099511627775 → slot_of l id ≡ Some i →
    h ≡ head_at l (replica_slot i) → Takes l now h × (h.id ≡ id)
takes l id now {i} {h} s early e r = takes_held l id now s early ((slot_held l id i e).1 ∙ ap some (sym r))

-- its flag and its kind
pub dead_is : (h : Head) → (h.live ≡ 1 → ⊥) → is_dead (some h) ≡ true
dead_is h n = ap not (ne_eqb h.live 1 n)

pub live_is : (h : Head) → h.live ≡ 1 → is_dead (some h) ≡ false
live_is h e = ap not (eq-eqb h.live 1 e)

-- ---- unlink

-- by what is held, and once it is held
abbrev unlink_of : ℕ → Table → Option Head → Outcome
unlink_of now t o =
    judged
    (when 2 (not (is_now now)) ∷ when 6 (not_held o) ∷ when 7 (is_dead o) ∷ when 8 (not_file o) ∷ when 12 (place_not_held t o)
    ∷ when 16 (too_many (changed_by (killed now t) t o)) ∷ when 17 (past_end (changed_by (killed now t) t o)) ∷ [])
    (done 0 (changed_by (killed now t) t o) [])

abbrev unlink_rest : ℕ → Table → Head → Outcome
unlink_rest now t h =
    judged
    (when 7 (is_dead (some h)) ∷ when 8 (is_directory h) ∷ when 12 (place_not_held t (some h))
    ∷ when 16 (too_many (killed now t h)) ∷ when 17 (past_end (killed now t h)) ∷ [])
    (done 0 (killed now t h) [])

unlink_of_law : (now id : ℕ) (t : Table) → unlink_in now id t ≡ unlink_of now t (head_of t id)
unfolding unlink_in
unlink_of_law now id t = refl

pub unlink_2 : (now id : ℕ) (t : Table) → 1099511627775 < now → unlink_in now id t ≡ refused 2
unlink_2 now id t h = unlink_of_law now id t ∙ stop 2 (not (is_now now)) _ _ (not_now now h)

pub unlink_6 : (now id : ℕ) (t : Table) → now ≤ 1099511627775 → head_of t id ≡ none → unlink_in now id t ≡ refused 6
unlink_6 now id t early e =
    unlink_of_law now id t ∙ ap (unlink_of now t) e ∙ skip 2 (not (is_now now)) _ _ (is_now_law now early) ∙ stop 6 true _ _ refl

module _ {l : List ℕ} {now : ℕ} {h : Head} (k : Takes l now h) where
  abbrev held_table : Table
  held_table = table_of l

  unlink_held : unlink_in now h.id held_table ≡ unlink_rest now held_table h
  unlink_held =
      unlink_of_law now h.id held_table ∙ ap (unlink_of now held_table) k.held
      ∙ skip 2 (not (is_now now)) _ _ (is_now_law now k.early) ∙ skip 6 false _ _ refl

  pub unlink_7 : (h.live ≡ 1 → ⊥) → unlink_in now h.id held_table ≡ refused 7
  unlink_7 n = unlink_held ∙ stop 7 (is_dead (some h)) _ _ (dead_is h n)

  pub unlink_8 : h.live ≡ 1 → h.kind ≡ 2 → unlink_in now h.id held_table ≡ refused 8
  unlink_8 e f =
      unlink_held ∙ skip 7 (is_dead (some h)) _ _ (live_is h e) ∙ stop 8 (is_directory h) _ _ (eq-eqb h.kind 2 f)

  -- a file is not the root
  pub unlink_kills : h.live ≡ 1 → (h.kind ≡ 2 → ⊥) → Kills l now h × (unlink_in now h.id held_table ≡ kills now held_table h)
  unlink_kills e n =
      let s = sound_table l k.sound in
      let below : h.id ≡ 0 → ⊥ =
      λ z. n (ap (λ (g : Head). g.kind) (root_only held_table s.root_first_law h.id h k.held z)) in (
        record { sound = k.sound; early = k.early; held = k.held; below = below },
        unlink_held ∙ skip 7 (is_dead (some h)) _ _ (live_is h e) ∙ skip 8 (is_directory h) _ _ (ne_eqb h.kind 2 n)
            ∙ skip 12 (place_not_held held_table (some h)) _ _ (place_there (table_of l) s h k.held below),
      )

-- ---- remove

abbrev remove_of : ℕ → ℕ → Table → Option Head → Outcome
remove_of now id t o =
    judged
    (when 2 (not (is_now now)) ∷ when 6 (not_held o) ∷ when 7 (is_dead o) ∷ when 8 (not_directory o || eqb id 0)
    ∷ when 10 (any_shown id t.entries || live_child id t.replicas)
    ∷ when 16 (too_many (changed_by (killed now t) t o)) ∷ when 17 (past_end (changed_by (killed now t) t o)) ∷ [])
    (done 0 (changed_by (killed now t) t o) [])

-- once it is held, and once it is a live directory
abbrev remove_rest : ℕ → Table → Head → Outcome
remove_rest now t h =
    judged
    (when 7 (is_dead (some h)) ∷ when 8 (not (is_directory h) || eqb h.id 0)
    ∷ when 10 (any_shown h.id t.entries || live_child h.id t.replicas)
    ∷ when 16 (too_many (killed now t h)) ∷ when 17 (past_end (killed now t h)) ∷ [])
    (done 0 (killed now t h) [])

abbrev remove_end : ℕ → Table → Head → Outcome
remove_end now t h =
    judged
    (when 10 (any_shown h.id t.entries || live_child h.id t.replicas)
    ∷ when 16 (too_many (killed now t h)) ∷ when 17 (past_end (killed now t h)) ∷ [])
    (done 0 (killed now t h) [])

remove_of_law : (now id : ℕ) (t : Table) → remove_in now id t ≡ remove_of now id t (head_of t id)
unfolding remove_in
remove_of_law now id t = refl

pub remove_2 : (now id : ℕ) (t : Table) → 1099511627775 < now → remove_in now id t ≡ refused 2
remove_2 now id t h = remove_of_law now id t ∙ stop 2 (not (is_now now)) _ _ (not_now now h)

pub remove_6 : (now id : ℕ) (t : Table) → now ≤ 1099511627775 → head_of t id ≡ none → remove_in now id t ≡ refused 6
remove_6 now id t early e =
    remove_of_law now id t ∙ ap (remove_of now id t) e ∙ skip 2 (not (is_now now)) _ _ (is_now_law now early) ∙ stop 6 true _ _ refl

module _ {l : List ℕ} {now : ℕ} {h : Head} (k : Takes l now h) where
  remove_held : remove_in now h.id (table_of l) ≡ remove_rest now (table_of l) h
  remove_held =
      remove_of_law now h.id (table_of l) ∙ ap (remove_of now h.id (table_of l)) k.held
      ∙ skip 2 (not (is_now now)) _ _ (is_now_law now k.early) ∙ skip 6 false _ _ refl

  pub remove_7 : (h.live ≡ 1 → ⊥) → remove_in now h.id (table_of l) ≡ refused 7
  remove_7 n = remove_held ∙ stop 7 (is_dead (some h)) _ _ (dead_is h n)

  pub remove_8 : h.live ≡ 1 → (h.kind ≡ 2 → ⊥) → remove_in now h.id (table_of l) ≡ refused 8
  remove_8 e n =
      remove_held ∙ skip 7 (is_dead (some h)) _ _ (live_is h e)
      ∙ stop 8 (not (is_directory h) || eqb h.id 0) _ _
      (ap (λ (b : Bool). not b || eqb h.id 0) (ne_eqb h.kind 2 n))

  module _ (e : h.live ≡ 1) (f : h.kind ≡ 2) where
    kind_test : (b : Bool) → eqb h.id 0 ≡ b → (not (is_directory h) || eqb h.id 0) ≡ b
    kind_test b q = ap (λ (z : Bool). not z || eqb h.id 0) (eq-eqb h.kind 2 f) ∙ q

    pub remove_root : h.id ≡ 0 → remove_in now h.id (table_of l) ≡ refused 8
    remove_root z =
        remove_held ∙ skip 7 (is_dead (some h)) _ _ (live_is h e)
        ∙ stop 8 (not (is_directory h) || eqb h.id 0) _ _ (kind_test true (eq-eqb h.id 0 z))

    module _ (z : h.id ≡ 0 → ⊥) where
      remove_rest_law : remove_in now h.id (table_of l) ≡ remove_end now (table_of l) h
      remove_rest_law =
          remove_held ∙ skip 7 (is_dead (some h)) _ _ (live_is h e)
          ∙ skip 8 (not (is_directory h) || eqb h.id 0) _ _ (kind_test false (ne_eqb h.id 0 z))

      pub remove_shown : any_shown h.id (table_of l).entries ≡ true → remove_in now h.id (table_of l) ≡ refused 10
      remove_shown q =
          remove_rest_law ∙ stop 10 (any_shown h.id (table_of l).entries || live_child h.id (table_of l).replicas) _ _
          (ap (λ (b : Bool). b || live_child h.id (table_of l).replicas) q)

      module _ (none-shown : any_shown h.id (table_of l).entries ≡ false) where
        child_rest : (any_shown h.id (table_of l).entries || live_child h.id (table_of l).replicas) ≡ live_child h.id (table_of l).replicas
        child_rest = ap (λ (b : Bool). b || live_child h.id (table_of l).replicas) none-shown

        pub remove_child : live_child h.id (table_of l).replicas ≡ true → remove_in now h.id (table_of l) ≡ refused 10
        remove_child q =
            remove_rest_law ∙ stop 10 (any_shown h.id (table_of l).entries || live_child h.id (table_of l).replicas) _ _ (child_rest ∙ q)

        pub remove_kills : live_child h.id (table_of l).replicas ≡ false →
            Kills l now h × (remove_in now h.id (table_of l) ≡ kills now (table_of l) h)
        remove_kills q = (
          record { sound = k.sound; early = k.early; held = k.held; below = z },
          remove_rest_law ∙ skip 10 (any_shown h.id (table_of l).entries || live_child h.id (table_of l).replicas) _ _ (child_rest ∙ q),
        )

-- ---- what both refuse, and what both take

-- the head that the number names, early enough, held and live
abbrev pub Alive : List ℕ → ℕ → ℕ → Head → Type 0
Alive l now id h = Takes l now h × (h.id ≡ id) × (h.live ≡ 1)

-- both refuse the number
abbrev pub Spared : List ℕ → ℕ → ℕ → Refusal → Type 0
Spared l now id e =
    (unlink_in now id (table_of l) ≡ refused (code e)) × (remove_in now id (table_of l) ≡ refused (code e))

module _ (l : List ℕ) (now id : ℕ) where
  pub spared_late : 1099511627775 < now → Spared l now id OutOfRange
  spared_late h = (unlink_2 now id (table_of l) h, remove_2 now id (table_of l) h)

  pub spared_not_held : now ≤ 1099511627775 → head_of (table_of l) id ≡ none → Spared l now id NotHeld
  spared_not_held early e = (unlink_6 now id (table_of l) early e, remove_6 now id (table_of l) early e)

  pub spared_dead : {h : Head} → Takes l now h × (h.id ≡ id) → (h.live ≡ 1 → ⊥) → Spared l now id Dead
  spared_dead {h} k n =
      subst (λ (i : ℕ). Spared l now i Dead) k.1 (unlink_7 k.0 n, remove_7 k.0 n)
