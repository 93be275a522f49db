-- Create, unlink, rename and remove leave a sound table sound. Assumes nothing.
use Rattle.std.specs.Prelude.{◌≡◌, refl, ◌⊎◌, Bool, true, false, ◌&&◌, not, List, [], ◌∷◌, ℕ, ◌+◌, ◌<◌, eqb}
use Rattle.std.proofs.Common.{ap, sym, subst, ◌∙◌, inl, inr, arith, eq-eqb, ne_eqb, leb-false}
use Rattle.std.proofs.Math.Option.{Option, some, none}
use mathlib.Core.List.Memᴰ
use Rattle.std.proofs.lemmas.Bool.{eqb-false, not-false}
use Rattle.codec.specs.Lists.{and_true}
use Rattle.names.specs.declared.Name.{Name}
use Rattle.names.specs.Names.{is_text, is_name, name_from, name_from_law}
use Rattle.numbers.specs.Nodes.{is_within, is_set}
use Rattle.records.specs.declared.head.Head.{Head}
use Rattle.slots.specs.declared.replica.Replica.{Replica}
use Rattle.document.specs.Tables.{Table, with_next, find, head_of}
use Rattle.document.specs.Sound.{is_live, is_directory, is_root_id, held_and, sound}
use Rattle.document.specs.Steps.{stamp_at, issue, settle, with_state, with_place, is_dead, too_many, past_end}
use Rattle.document.specs.Outcomes.{done, all_passed}
use Rattle.document.specs.Calls.{is_now, changed_by, live_child, new_head, created, create_in, killed, unlink_in, renamed, rename_in, remove_in, not_held, not_directory, any_shown, deepest, place_not_held}
use Rattle.views.specs.Lists.{In, no_both, or_false_both, some_only, same?}
use Rattle.views.specs.Puts.{head_found, head_id, head_own, find_in, dead_not}
use Rattle.views.specs.Issues.{made, issue_own, issue_nodes, issue_next}
use Rattle.views.specs.Settles.{settle_next}
use Rattle.views.specs.Sounds.{Sound, sound_is, is_sound, root_only, root_held, Heads}
use Rattle.kept.specs.Rules.{UnderLive, OverDead}
use Rattle.kept.specs.Firm.{base_of, firm_of, firm_next, firm_issue, NewState, carried_issue, carried_trans, carried_same}
use Rattle.kept.specs.Settled.{within, sound_settle}
use Rattle.kept.specs.Accepted.{accepted, done_table, held_some}
use Rattle.kept.specs.States.{same_place_state, new_place_state, made_state, dead_under, live_over_law, under_live}

-- ---- a new state, settled

pub sound_issue : (now : ℕ) (f : ℕ → Head) (t : Table) → Sound t → NewState now f t → UnderLive t (made now f t) →
    OverDead t (made now f t) → too_many (settle t (issue now f t)) ≡ false → past_end (settle t (issue now f t)) ≡ false →
    Sound (settle t (issue now f t))
sound_issue now f t s g up down =
    sound_settle t (issue now f t) s (issue_nodes now f t) (issue_own now f t)
    (firm_issue now f t (firm_of t s) g up down)
    (carried_issue now f t)

-- ---- unlink and remove

pub sound_killed : (now : ℕ) (t : Table) (f : ℕ) (h : Head) → Sound t → head_of t f ≡ some h → (h.id ≡ 0 → ⊥) →
    Heads t (λ x. (x.id ≡ 0 → ⊥) → is_live x ≡ true → x.directory ≡ h.id → ⊥) → too_many (killed now t h) ≡ false →
    past_end (killed now t h) ≡ false → Sound (killed now t h)
unfolding killed
sound_killed now t f h s e z none-live =
    sound_issue now (with_state h 0) t s (same_place_state now 0 t f h (base_of t s) e z refl)
    (dead_under t h (stamp_at now t)) (λ l. none-live)

-- a file is no place
pub no_child_of_file : (t : Table) (f : ℕ) (h : Head) → Sound t → head_of t f ≡ some h → is_directory h ≡ false →
    Heads t (λ x. (x.id ≡ 0 → ⊥) → is_live x ≡ true → x.directory ≡ h.id → ⊥)
no_child_of_file t f h s e file g x p z l d =
    let place = s.placed g x p z in
    let same : place.parent ≡ h =
    some_only (sym place.held ∙ ap (λ (m : ℕ). head_of t m) d ∙ head_own f t.replicas h e) in
    no_both (is_directory h) (ap is_directory (sym same) ∙ place.directory) file

-- a file is not the root
pub file_nonroot : (t : Table) (f : ℕ) (h : Head) → Sound t → head_of t f ≡ some h → is_directory h ≡ false → h.id ≡ 0 → ⊥
file_nonroot t f h s e file z = no_both (is_directory h) (ap is_directory (root_only t s.root_first_law f h e z)) file

pub unlink_kept : (now id : ℕ) (t : Table) (v : ℕ) (u : Table) (w : List ℕ) → sound t ≡ true →
    unlink_in now id t ≡ done v u w → sound u ≡ true
unfolding unlink_in
unlink_kept now id t v u w st e =
    let r2 = accepted _ _ _ v u w e in
    let r6 = accepted _ _ _ v u w r2.1 in
    let r7 = accepted _ _ _ v u w r6.1 in
    let r8 = accepted _ _ _ v u w r7.1 in
    let r12 = accepted _ _ _ v u w r8.1 in
    let r16 = accepted _ _ _ v u w r12.1 in
    let r17 = accepted _ _ _ v u w r16.1 in
    let h = held_some (head_of t id) r6.0 in
    let file : is_directory h.0 ≡ false = ap (held_and is_directory) (sym h.1) ∙ r8.0 in
    let after : changed_by (killed now t) t (head_of t id) ≡ killed now t h.0 = ap (changed_by (killed now t) t) h.1 in
    let s = sound_is t st in
    ap sound (done_table 0 v _ u [] w (sym (all_passed _) ∙ r17.1) ∙ after)
    ∙ is_sound (killed now t h.0)
    (sound_killed now t id h.0 s h.1 (file_nonroot t id h.0 s h.1 file)
    (no_child_of_file t id h.0 s h.1 file) (ap too_many (sym after) ∙ r16.0) (ap past_end (sym after) ∙ r17.0))

-- "a held live child": there is none
no_live_child : (d : ℕ) (l : List Replica) → live_child d l ≡ false → (r : Replica) → In r l → r.head.directory ≡ d →
    is_live r.head ≡ true → (r.head.id ≡ 0 → ⊥) → ⊥
unfolding live_child
no_live_child d [] n r m p l z = elim m [ ]
no_live_child d (x ∷ xs) n r m p l z =
    let q = or_false_both (is_child x) _ n in
    go (Memᴰ.cases_cons m) q.0 (λ i. no_live_child d xs q.1 r i p l z)
  where
    is_child : Replica → Bool
    is_child y = eqb y.head.directory d && (is_live y.head && not (is_root_id y.head))

    child : is_child r ≡ true
    child = simp (eq-eqb r.head.directory d p, l, ne_eqb r.head.id 0 z)

    go : (r ≡ x) ⊎ In r xs → is_child x ≡ false → (In r xs → ⊥) → ⊥
    go (inl e) q ih = no_both (is_child x) (ap is_child (sym e) ∙ child) q
    go (inr i) q ih = ih i

childless : (t : Table) (d : ℕ) → live_child d t.replicas ≡ false →
    Heads t (λ x. (x.id ≡ 0 → ⊥) → is_live x ≡ true → x.directory ≡ d → ⊥)
childless t d n f x e =
    let r = head_found (find f t.replicas) x e in
    subst (λ (y : Head). (y.id ≡ 0 → ⊥) → is_live y ≡ true → y.directory ≡ d → ⊥) r.2
    (λ z l p. no_live_child d t.replicas n r.0 (find_in f t.replicas r.0 r.1) p l z)

pub remove_kept : (now id : ℕ) (t : Table) (v : ℕ) (u : Table) (w : List ℕ) → sound t ≡ true →
    remove_in now id t ≡ done v u w → sound u ≡ true
unfolding remove_in
remove_kept now id t v u w st e =
    let r2 = accepted _ _ _ v u w e in
    let r6 = accepted _ _ _ v u w r2.1 in
    let r7 = accepted _ _ _ v u w r6.1 in
    let r8 = accepted _ _ _ v u w r7.1 in
    let r10 = accepted _ _ _ v u w r8.1 in
    let r16 = accepted _ _ _ v u w r10.1 in
    let r17 = accepted _ _ _ v u w r16.1 in
    let h = held_some (head_of t id) r6.0 in
    let own : h.0.id ≡ id = head_id id t.replicas h.0 h.1 in
    let nonroot = or_false_both (not_directory (head_of t id)) _ r8.0 in
    let none-live = or_false_both (any_shown id t.entries) _ r10.0 in
    let after : changed_by (killed now t) t (head_of t id) ≡ killed now t h.0 = ap (changed_by (killed now t) t) h.1 in
    let s = sound_is t st in
    ap sound (done_table 0 v _ u [] w (sym (all_passed _) ∙ r17.1) ∙ after)
    ∙ is_sound (killed now t h.0)
    (sound_killed now t id h.0 s h.1 (λ z. eqb-false id 0 nonroot.1 (sym own ∙ z))
    (λ m x p z l q. childless t id none-live.1 m x p z l (q ∙ own)) (ap too_many (sym after) ∙ r16.0)
    (ap past_end (sym after) ∙ r17.0))

-- ---- rename

pub sound_renamed : (now : ℕ) (t : Table) (f d : ℕ) (h p : Head) (name : Name) → Sound t → head_of t f ≡ some h →
    head_of t d ≡ some p → is_live h ≡ true → is_directory h ≡ false → is_live p ≡ true → is_directory p ≡ true →
    p.depth < 16 →
    is_name name ≡ true → too_many (renamed now name t p h) ≡ false → past_end (renamed now name t p h) ≡ false →
    Sound (renamed now name t p h)
unfolding renamed
sound_renamed now t f d h p name s e g hl hf pl pd room nm =
    sound_issue now (with_place h p name) t s (new_place_state now t f d h p name (base_of t s) e g hf pd room nm)
    (under_live t (with_place h p name (stamp_at now t)) p (head_own d t.replicas p g) pl)
    (live_over_law t (with_place h p name (stamp_at now t)) hl)

-- what is held and not dead is live
live_held : (o : Option Head) (h : Head) → o ≡ some h → is_dead o ≡ false → is_live h ≡ true
live_held o h e n = not-false (is_live h) (sym (dead_not o h e) ∙ n)

-- what is held and not of another kind is a directory, and has room where it is not the deepest
directory_held_law : (o : Option Head) (h : Head) → o ≡ some h → held_and (λ x. not (is_directory x)) o ≡ false →
    is_directory h ≡ true
directory_held_law o h e n = not-false (is_directory h) (ap (held_and (λ x. not (is_directory x))) (sym e) ∙ n)

room_held : (o : Option Head) (h : Head) → o ≡ some h → deepest o ≡ false → h.depth < 16
room_held o h e n = leb-false 16 h.depth (ap deepest (sym e) ∙ n)

pub rename_kept : (now id d : ℕ) (name : List ℕ) (t : Table) (v : ℕ) (u : Table) (w : List ℕ) → sound t ≡ true →
    rename_in now id d name t ≡ done v u w → sound u ≡ true
unfolding rename_in
rename_kept now id d name t v u w st e =
    let r2 = accepted _ _ _ v u w e in
    let r6 = accepted _ _ _ v u w r2.1 in
    let r7 = accepted _ _ _ v u w r6.1 in
    let r8 = accepted _ _ _ v u w r7.1 in
    let r9 = accepted _ _ _ v u w r8.1 in
    let r11 = accepted _ _ _ v u w r9.1 in
    let r12 = accepted _ _ _ v u w r11.1 in
    let r16 = accepted _ _ _ v u w r12.1 in
    let r17 = accepted _ _ _ v u w r16.1 in
    let held = or_false_both (not_held (head_of t id)) _ r6.0 in
    let dead = or_false_both (is_dead (head_of t id)) _ r7.0 in
    let kind = or_false_both (held_and is_directory (head_of t id)) _ r8.0 in
    let h = held_some (head_of t id) held.0 in
    let p = held_some (head_of t d) held.1 in
    let n : Name = name_from name in
    let text = and_true (is_now now) _ (not-false _ r2.0) in
    let after : changed_by (λ (q : Head). changed_by (renamed now n t q) t (head_of t id)) t (head_of t d)
    ≡ renamed now n t p.0 h.0 =
    ap (λ (o : Option Head). changed_by (λ (q : Head). changed_by (renamed now n t q) t (head_of t id)) t o) p.1
    ∙ ap (changed_by (renamed now n t p.0) t) h.1 in
    ap sound (done_table 0 v _ u [] w (sym (all_passed _) ∙ r17.1) ∙ after)
    ∙ is_sound (renamed now n t p.0 h.0)
    (sound_renamed now t id d h.0 p.0 n (sound_is t st) h.1 p.1 (live_held _ h.0 h.1 dead.0)
    (ap (held_and is_directory) (sym h.1) ∙ kind.0) (live_held _ p.0 p.1 dead.1)
    (directory_held_law _ p.0 p.1 kind.1) (room_held _ p.0 p.1 r11.0) (name_from_law name ∙ text.1)
    (ap too_many (sym after) ∙ r16.0) (ap past_end (sym after) ∙ r17.0))

-- ---- create

pub sound_created : (now kind set : ℕ) (t : Table) (d : ℕ) (p : Head) (name : Name) → Sound t → head_of t d ≡ some p →
    is_live p ≡ true → is_directory p ≡ true → p.depth < 16 → is_name name ≡ true → is_within 1 kind 2 ≡ true →
    is_set t.nodes set ≡ true → too_many (created now kind name set t p) ≡ false →
    past_end (created now kind name set t p) ≡ false → Sound (created now kind name set t p)
unfolding created
sound_created now kind set t d p name s g pl pd room nm k st few ends =
    let f : ℕ → Head = new_head kind name set t p in
    let m : Table = with_next t (t.next + 1) in
    let x : Table = issue now f m in
    let next : (settle t x).next ≡ t.next + 1 = settle_next t x ∙ issue_next now f m in
    let left : t.next < 16777216 = omega (arith, (within (settle t x) few ends).next, next) in
    sound_settle t x s (issue_nodes now f m) (issue_own now f m)
    (firm_issue now f m (firm_next t (t.next + 1) (omega arith) (firm_of t s))
    (made_state now kind set t d p name (base_of t s) g pd room nm k st left)
    (under_live m (made now f m) p (head_own d t.replicas p g) pl) (live_over_law m (made now f m) refl))
    (carried_trans t m x (carried_same t m refl) (carried_issue now f m)) few ends

pub create_kept : (now d kind : ℕ) (name : List ℕ) (set : ℕ) (t : Table) (v : ℕ) (u : Table) (w : List ℕ) →
    sound t ≡ true →
    create_in now d kind name set t ≡ done v u w → sound u ≡ true
unfolding create_in
create_kept now d kind name set t v u w st e =
    let r2 = accepted _ _ _ v u w e in
    let r6 = accepted _ _ _ v u w r2.1 in
    let r7 = accepted _ _ _ v u w r6.1 in
    let r8 = accepted _ _ _ v u w r7.1 in
    let r9 = accepted _ _ _ v u w r8.1 in
    let r11 = accepted _ _ _ v u w r9.1 in
    let r16 = accepted _ _ _ v u w r11.1 in
    let r17 = accepted _ _ _ v u w r16.1 in
    let p = held_some (head_of t d) r6.0 in
    let n : Name = name_from name in
    let good = and_true (is_now now) _ (not-false _ r2.0) in
    let kinds = and_true (is_within 1 kind 2) _ good.1 in
    let text = and_true (is_text name) _ kinds.1 in
    let after : changed_by (created now kind n set t) t (head_of t d) ≡ created now kind n set t p.0 =
    ap (changed_by (created now kind n set t) t) p.1 in
    ap sound (done_table _ v _ u [] w (sym (all_passed _) ∙ r17.1) ∙ after)
    ∙ is_sound (created now kind n set t p.0)
    (sound_created now kind set t d p.0 n (sound_is t st) p.1 (live_held _ p.0 p.1 r7.0)
    (directory_held_law _ p.0 p.1 r8.0) (room_held _ p.0 p.1 r11.0) (name_from_law name ∙ text.0) kinds.0
    text.1 (ap too_many (sym after) ∙ r16.0) (ap past_end (sym after) ∙ r17.0))

-- ---- "12" never holds: the place directory of what is held is held

pub place_is_held : (t : Table) (id : ℕ) → sound t ≡ true → place_not_held t (head_of t id) ≡ false
place_is_held t id st = go (head_of t id) refl
  where
    s : Sound t
    s = sound_is t st

    at : (h : Head) (p : Head) → head_of t h.directory ≡ some p → not_held (head_of t h.directory) ≡ false
    at h p e = ap not_held e

    pick : (h : Head) → head_of t id ≡ some h → (h.id ≡ 0) ⊎ (h.id ≡ 0 → ⊥) → not_held (head_of t h.directory) ≡ false
    pick h e (inl z) =
        at h _
        (ap (λ (y : Head). head_of t y.directory) (root_only t s.root_first_law id h e z) ∙ root_held t s.root_first_law)
    pick h e (inr z) = at h _ (s.placed id h e z).held

    go : (o : Option Head) → head_of t id ≡ o → place_not_held t o ≡ false
    go none e = refl
    go (some h) e = pick h e (same? h.id 0)
