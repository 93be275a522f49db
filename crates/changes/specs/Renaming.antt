-- Rename: the refusals, and the head at its new place. Assumes nothing.
use Rattle.std.specs.Prelude.{◌≡◌, Bool, true, false, ◌&&◌, ◌||◌, not, ℕ, ◌≤◌, ◌<◌}
use Rattle.std.proofs.Math.Path.{refl, ap}
use Rattle.std.proofs.Common.{sym, subst, ◌∙◌, true≢false, eq-eqb, ne_eqb, le-leb}
use Rattle.std.proofs.Math.Option.{Option, some, none}
use mathlib.Core.List.{List, [], ◌∷◌}
use Rattle.std.proofs.lemmas.Bool.{lt-leb}
use Rattle.codec.specs.Lists.{or_stop, or_go}
use Rattle.names.specs.declared.Name.{Name}
use Rattle.names.specs.Names.{is_name, is_text, name_from, name_from_law}
use Rattle.records.specs.declared.head.Head.{Head}
use Rattle.document.specs.Tables.{Table, head_of, table_of, with_highest}
use Rattle.document.specs.Steps.{settle, stamp_at, clock_at, with_place, too_many, past_end, is_dead}
use Rattle.document.specs.Outcomes.{Outcome, refused, done, judged}
use Rattle.document.specs.Calls.{when, is_now, changed_by, not_held, not_file, not_directory, name_taken, deepest, place_not_held, renamed, rename_in}
use Rattle.views.specs.Sounds.{Sound, root_only, sound_table}
use Rattle.steps.specs.Standing.{Is}
use Rattle.steps.specs.States.{Held, issue_stated, held_head}
use Rattle.changes.specs.Finishing.{Changes, changed, skip, stop}
use Rattle.changes.specs.Working.{drawn_on, place_held_law, place_there, changes_on}
use Rattle.answers.specs.declared.refusal.Refusal.{Refusal}
use Rattle.answers.specs.Refusals.{code}
use Rattle.changes.specs.Looking.{NoRoomFor}
use Rattle.changes.specs.Killing.{Takes, not_now, is_now_law, dead_is, live_is}

-- ---- the head at its new place

-- "16" and "17" of what is moved, and then it is done
abbrev pub moves : ℕ → Name → Table → Head → Head → Outcome
moves now name t h p =
    judged (when 16 (too_many (renamed now name t p h)) ∷ when 17 (past_end (renamed now name t p h)) ∷ [])
    (done 0 (renamed now name t p h) [])

-- both heads are held
pub record Renames (l : List ℕ) (now : ℕ) (h p : Head) : Type 0 where
  pub file : Takes l now h
  pub target : Takes l now p

pub record Moves (l : List ℕ) (now : ℕ) (h p : Head) : Type 0 where
  pub both : Renames l now h p
  pub below : h.id ≡ 0 → ⊥
  pub shallow : p.depth < 16

module _ {l : List ℕ} {now : ℕ} {h p : Head} (k : Moves l now h p) where
  abbrev t : Table
  t = table_of l

  pub move_changes : (name : Name) (c d : List ℕ) → d ≡ l → (stamp : ℕ) (g : Head) → g ≡ with_place h p name stamp →
      Is c (with_highest (table_of d) (clock_at now (table_of d))) → Changes l c g
  move_changes name c d copied stamp g e i =
      subst (λ (z : Head). Changes l c z) (sym e)
      (changes_on t.next (clock_at now t) (with_place h p name stamp) k.both.file.sound (drawn_on now copied i)
      (held_head t p.id p k.both.target.held)
      (λ old q. subst (λ (z : Option Head). Of z) (sym k.both.file.held ∙ q)
      (place_held_law t s h k.both.file.held k.below)))
    where
      s : Sound (table_of l)
      s = sound_table l k.both.file.sound

      Of : Option Head → Type 0
      Of none = Held (table_of l) h.directory
      Of (some z) = Held (table_of l) z.directory

  pub move_is : (name : Name) (c d : List ℕ) → d ≡ l → (stamp : ℕ) (g : Head) → g ≡ with_place h p name stamp →
      stamp ≡ stamp_at now (table_of d) → Is c (with_highest (table_of d) (clock_at now (table_of d))) →
      changed 0 g t (table_of c) ≡ moves now name t h p
  unfolding renamed
  move_is name c d copied stamp g e f i =
      ap (λ (z : Head). changed 0 z t (table_of c)) (e ∙ ap (with_place h p name) (f ∙ ap (λ (z : List ℕ). stamp_at now (table_of z)) copied))
      ∙ ap (changed 0 (with_place h p name (stamp_at now t)) t) (drawn_on now copied i).table
      ∙ ap (λ (u : Table). judged (when 16 (too_many (settle t u)) ∷ when 17 (past_end (settle t u)) ∷ []) (done 0 (settle t u) []))
      (sym (issue_stated now (with_place h p name) t))

-- ---- the refusals

-- of two heads that are held
abbrev pub renamed_in : ℕ → Name → Table → Head → Head → Outcome
renamed_in now name t h p =
    judged
    (when 7 (is_dead (some h) || is_dead (some p)) ∷ when 8 (not_file (some h) || not_directory (some p))
    ∷ when 9 (name_taken p.id name t.entries) ∷ when 11 (deepest (some p)) ∷ when 12 (place_not_held t (some h))
    ∷ when 16 (too_many (renamed now name t p h)) ∷ when 17 (past_end (renamed now name t p h)) ∷ [])
    (done 0 (renamed now name t p h) [])

-- once both are live, a file and a directory
abbrev renamed_rest : ℕ → Name → Table → Head → Head → Outcome
renamed_rest now name t h p =
    judged
    (when 9 (name_taken p.id name t.entries) ∷ when 11 (deepest (some p)) ∷ when 12 (place_not_held t (some h))
    ∷ when 16 (too_many (renamed now name t p h)) ∷ when 17 (past_end (renamed now name t p h)) ∷ [])
    (done 0 (renamed now name t p h) [])

-- both tests of a pair
or_both : (a b : Bool) → a ≡ false → b ≡ false → (a || b) ≡ false
or_both a b p q = sym (or_go a b p (sym q))

or_first : (a b : Bool) → a ≡ true → (a || b) ≡ true
or_first a b p = sym (or_stop a b p)

or_next : (a b : Bool) → a ≡ false → b ≡ true → (a || b) ≡ true
or_next a b p q = sym (or_go a b p (sym q))

module _ (now : ℕ) (name : Name) (t : Table) (h p : Head) where
  pub renamed_7 : (h.live ≡ 1 → ⊥) → renamed_in now name t h p ≡ refused 7
  renamed_7 n = stop 7 (is_dead (some h) || is_dead (some p)) _ _ (or_first _ _ (dead_is h n))

  module _ (e : h.live ≡ 1) where
    pub renamed_7_target : (p.live ≡ 1 → ⊥) → renamed_in now name t h p ≡ refused 7
    renamed_7_target n = stop 7 (is_dead (some h) || is_dead (some p)) _ _ (or_next _ _ (live_is h e) (dead_is p n))

    module _ (f : p.live ≡ 1) where
      pub renamed_8 : h.kind ≡ 2 → renamed_in now name t h p ≡ refused 8
      renamed_8 q =
          skip 7 (is_dead (some h) || is_dead (some p)) _ _ (or_both _ _ (live_is h e) (live_is p f))
          ∙ stop 8 (not_file (some h) || not_directory (some p)) _ _ (or_first _ _ (eq-eqb h.kind 2 q))

      module _ (n : h.kind ≡ 2 → ⊥) where
        pub renamed_8_target : (p.kind ≡ 2 → ⊥) → renamed_in now name t h p ≡ refused 8
        renamed_8_target m =
            skip 7 (is_dead (some h) || is_dead (some p)) _ _ (or_both _ _ (live_is h e) (live_is p f))
            ∙ stop 8 (not_file (some h) || not_directory (some p)) _ _
            (or_next _ _ (ne_eqb h.kind 2 n) (ap not (ne_eqb p.kind 2 m)))

        module _ (g : p.kind ≡ 2) where
          renamed_rest_law : renamed_in now name t h p ≡ renamed_rest now name t h p
          renamed_rest_law =
              skip 7 (is_dead (some h) || is_dead (some p)) _ _ (or_both _ _ (live_is h e) (live_is p f))
              ∙ skip 8 (not_file (some h) || not_directory (some p)) _ _
              (or_both _ _ (ne_eqb h.kind 2 n) (ap not (eq-eqb p.kind 2 g)))

          pub renamed_9 : name_taken p.id name t.entries ≡ true → renamed_in now name t h p ≡ refused 9
          renamed_9 q = renamed_rest_law ∙ stop 9 (name_taken p.id name t.entries) _ _ q

          pub renamed_11 : name_taken p.id name t.entries ≡ false → 16 ≤ p.depth → renamed_in now name t h p ≡ refused 11
          renamed_11 q d =
              renamed_rest_law ∙ skip 9 (name_taken p.id name t.entries) _ _ q
              ∙ stop 11 (deepest (some p)) _ _ (le-leb 16 p.depth d)

          pub renamed_full : (r : Refusal) → NoRoomFor t p name r → renamed_in now name t h p ≡ refused (code r)
          unfolding judged
          renamed_full r w = renamed_rest_law ∙ w _

          pub renamed_moves : name_taken p.id name t.entries ≡ false → p.depth < 16 → place_not_held t (some h) ≡ false →
              renamed_in now name t h p ≡ moves now name t h p
          renamed_moves q d w =
              renamed_rest_law ∙ skip 9 (name_taken p.id name t.entries) _ _ q
              ∙ skip 11 (deepest (some p)) _ _ (lt-leb 16 p.depth d) ∙ skip 12 (place_not_held t (some h)) _ _ w

-- a file is not the root, and its place directory is held
pub renames_below : {l : List ℕ} {now : ℕ} {h p : Head} → Renames l now h p → (h.kind ≡ 2 → ⊥) →
    (h.id ≡ 0 → ⊥) × (place_not_held (table_of l) (some h) ≡ false)
renames_below {l} {now} {h} {p} k n =
    let s = sound_table l k.file.sound in
    let below : h.id ≡ 0 → ⊥ =
    λ z. n (ap (λ (g : Head). g.kind) (root_only (table_of l) s.root_first_law h.id h k.file.held z)) in
    (below, place_there (table_of l) s h k.file.held below)

-- by what is held
abbrev rename_of : ℕ → ℕ → List ℕ → Table → Option Head → Option Head → Outcome
rename_of now d name t h p =
    judged
    (when 2 (not (is_now now && is_text name)) ∷ when 6 (not_held h || not_held p) ∷ when 7 (is_dead h || is_dead p)
    ∷ when 8 (not_file h || not_directory p) ∷ when 9 (name_taken d (name_from name) t.entries) ∷ when 11 (deepest p)
    ∷ when 12 (place_not_held t h)
    ∷ when 16 (too_many (changed_by (λ (q : Head). changed_by (renamed now (name_from name) t q) t h) t p))
    ∷ when 17 (past_end (changed_by (λ (q : Head). changed_by (renamed now (name_from name) t q) t h) t p)) ∷ [])
    (done 0 (changed_by (λ (q : Head). changed_by (renamed now (name_from name) t q) t h) t p) [])

module _ (now id d : ℕ) (name : List ℕ) (t : Table) where
  rename_of_law : rename_in now id d name t ≡ rename_of now d name t (head_of t id) (head_of t d)
  unfolding rename_in
  rename_of_law = refl

  pub rename_late : 1099511627775 < now → rename_in now id d name t ≡ refused 2
  rename_late h =
      rename_of_law ∙ stop 2 (not (is_now now && is_text name)) _ _ (both (is_now now) (not_now now h))
    where
      both : (b : Bool) → not b ≡ true → not (b && is_text name) ≡ true
      both true e = absurd (true≢false (sym e))
      both false e = refl

  module _ (early : now ≤ 1099511627775) where
    text_is : (b : Bool) → is_name (name_from name) ≡ b → not (is_now now && is_text name) ≡ not b
    text_is b e =
        ap (λ (z : Bool). not (is_now now && z)) (sym (name_from_law name) ∙ e) ∙ both (is_now now) (is_now_law now early)
      where
        both : (z : Bool) → not z ≡ false → not (z && b) ≡ not b
        both true q = refl
        both false q = absurd (true≢false q)

    pub rename_2 : is_name (name_from name) ≡ false → rename_in now id d name t ≡ refused 2
    rename_2 e = rename_of_law ∙ stop 2 (not (is_now now && is_text name)) _ _ (text_is false e)

    module _ (e : is_name (name_from name) ≡ true) where
      pub rename_6 : head_of t id ≡ none → rename_in now id d name t ≡ refused 6
      rename_6 n =
          rename_of_law ∙ ap (λ (h : Option Head). rename_of now d name t h (head_of t d)) n
          ∙ skip 2 (not (is_now now && is_text name)) _ _ (text_is true e) ∙ stop 6 true _ _ refl

      pub rename_6_target : (h : Head) → head_of t id ≡ some h → head_of t d ≡ none → rename_in now id d name t ≡ refused 6
      rename_6_target h m n =
          rename_of_law ∙ ap (λ (o : Option Head). rename_of now d name t o (head_of t d)) m
          ∙ ap (rename_of now d name t (some h)) n
          ∙ skip 2 (not (is_now now && is_text name)) _ _ (text_is true e) ∙ stop 6 true _ _ refl

      pub rename_in_law : (h p : Head) → head_of t id ≡ some h → head_of t d ≡ some p → p.id ≡ d →
          rename_in now id d name t ≡ renamed_in now (name_from name) t h p
      rename_in_law h p m n i =
          rename_of_law ∙ ap (λ (o : Option Head). rename_of now d name t o (head_of t d)) m
          ∙ ap (rename_of now d name t (some h)) n
          ∙ skip 2 (not (is_now now && is_text name)) _ _ (text_is true e) ∙ skip 6 false _ _ refl
          ∙ ap (λ (f : ℕ). judged
          (when 7 (is_dead (some h) || is_dead (some p)) ∷ when 8 (not_file (some h) || not_directory (some p))
          ∷ when 9 (name_taken f (name_from name) t.entries) ∷ when 11 (deepest (some p)) ∷ when 12 (place_not_held t (some h))
          ∷ when 16 (too_many (renamed now (name_from name) t p h)) ∷ when 17 (past_end (renamed now (name_from name) t p h)) ∷ [])
          (done 0 (renamed now (name_from name) t p h) [])) (sym i)
