-- "For every call, every sound table and every number, the table that an accepted call leaves is sound; and every table
-- that start makes is." Here for every call but receive, over tables and over bytes. Assumes nothing.
use Rattle.std.specs.Prelude.{◌≡◌, refl, Bool, true, false, cond, ℕ, ◌+◌}
use Rattle.std.proofs.Common.{ap, sym, subst, ◌∙◌}
use Rattle.std.proofs.Math.Option.{Option, some, none}
use mathlib.Core.List.{List, []}
use Rattle.codec.specs.Lists.{and_true, and_both}
use Rattle.names.specs.Names.{name_from}
use Rattle.numbers.specs.Nodes.{join}
use Rattle.messages.specs.declared.acknowledgement.Acknowledgement.{Acknowledgement}
use Rattle.records.specs.declared.head.Head.{Head}
use Rattle.document.specs.Tables.{Table, with_next, head_of, fresh, table_of, table_bytes, fits}
use Rattle.document.specs.Sound.{rules, sound, sound_bytes, read_sound}
use Rattle.document.specs.Steps.{issue, with_state, with_place, with_holders}
use Rattle.document.specs.Messages.{read_ack}
use Rattle.document.specs.Outcomes.{Outcome, refused, done, table_after}
use Rattle.document.specs.Calls.{if_sound, on_sound, changed_by, start_refusals, start, new_head, created, create_refusals, create_in, create, killed, unlink_refusals, unlink_in, unlink, renamed, rename_refusals, rename_in, rename, remove_refusals, remove_in, remove, spread_to, spread_refusals, spread_in, spread, list_refusals, list_in, list, push_refusals, push_in, push, if_ack, clear_refusals, clear_in, acknowledged, pending_sum, pending}
use Rattle.document.specs.Reading.{table_of_bytes, bytes_in_range, bytes_sound, sound_shaped}
use Rattle.kept.specs.Accepted.{done_table, judged_done, not_done}
use Rattle.kept.specs.Shapes.{Full, full_of, shaped_of, full_head_law, full_from, full_put, full_next, full_issue, full_settle, full_clear, full_fresh}
use Rattle.kept.specs.Starts.{start_sound}
use Rattle.kept.specs.Calls.{create_kept, unlink_kept, rename_kept, remove_kept}
use Rattle.kept.specs.Spreads.{spread_kept}
use Rattle.kept.specs.Clears.{clear_kept}

-- ---- between a table and its bytes

-- a sound table with full names has sound bytes
pub sound_bytes_law : (t : Table) → sound t ≡ true → Full t → sound_bytes (table_bytes t) ≡ true
unfolding sound sound_bytes
sound_bytes_law t s f =
    let p = and_true (fits t) _ s in
    let shape = shaped_of t f in
    and_both (bytes_in_range t shape p.0) (ap rules (table_of_bytes t shape p.0) ∙ p.1)

-- what a call leaves: a sound table, and sound bytes
pub record Left (u : Table) : Type 0 where
  pub table : sound u ≡ true
  pub full : Full u
  pub bytes : sound_bytes (table_bytes u) ≡ true

left : (u : Table) → sound u ≡ true → Full u → Left u
left u s f = record { table = s; full = f; bytes = sound_bytes_law u s f }

-- a call that keeps sound tables sound, and names full
abbrev pub Keeps : (Table → Outcome) → Type 0
Keeps f =
    (t : Table) → sound t ≡ true → Full t → (v : ℕ) (u : Table) (w : List ℕ) → f t ≡ done v u w →
    (sound u ≡ true) × Full u

pub on_sound_law : (l : List ℕ) (f : Table → Outcome) → Keeps f → (v : ℕ) (u : Table) (w : List ℕ) →
    on_sound l f ≡ done v u w → Left u
unfolding read_sound
on_sound_law l f k v u w e = go (sound_bytes l) refl e
  where
    go : (b : Bool) → sound_bytes l ≡ b → if_sound (cond b (some (table_of l)) none) f ≡ done v u w → Left u
    go true s q =
        let r = k (table_of l) (bytes_sound l s) (full_of (table_of l) (sound_shaped l s)) v u w q in
        left u r.0 r.1
    go false s q = absurd (not_done 1 v u w q)

-- so the bytes that it leaves are sound, refused or not
pub after_sound : (l : List ℕ) (f : Table → Outcome) → Keeps f → sound_bytes l ≡ true →
    sound_bytes (table_after (on_sound l f) l) ≡ true
after_sound l f k s = go (on_sound l f) refl
  where
    go : (o : Outcome) → on_sound l f ≡ o → sound_bytes (table_after o l) ≡ true
    go (refused n) e = s
    go (done v u w) e = (on_sound_law l f k v u w e).bytes

-- ---- names stay full

-- where the outcome is one of two tables
full_changed : (f : Head → Table) (t : Table) (o : Option Head) → Full t → ((h : Head) → o ≡ some h → Full (f h)) →
    Full (changed_by f t o)
full_changed f t none s k = s
full_changed f t (some h) s k = k h refl

-- the table of what was to be done
full_done : (a : ℕ) (b : Table) (c : List ℕ) (v : ℕ) (u : Table) (w : List ℕ) → done a b c ≡ done v u w → Full b → Full u
full_done a b c v u w e s = subst Full (sym (done_table a v b u c w e)) s

full_killed : (now : ℕ) (t : Table) (id : ℕ) → Full t → Full (changed_by (killed now t) t (head_of t id))
unfolding killed
full_killed now t id s =
    full_changed (killed now t) t (head_of t id) s
    (λ h e. full_settle t (issue now (with_state h 0) t) (full_issue now (with_state h 0) t (full_head_law t s id h e) s))

-- ---- the calls

pub create_keeps : (now d kind : ℕ) (name : List ℕ) (set : ℕ) → Keeps (create_in now d kind name set)
unfolding create_in created
create_keeps now d kind name set t st s v u w e =
    let m : Table = with_next t (t.next + 1) in (
      create_kept now d kind name set t v u w st e,
      full_done _ _ _ v u w (judged_done (create_refusals now d kind name set t) _ v u w e)
          (full_changed (created now kind (name_from name) set t) t (head_of t d) s
          (λ p q. full_settle t _
          (full_issue now (new_head kind (name_from name) set t p) m (full_from name) (full_next t (t.next + 1) s)))),
    )

pub unlink_keeps : (now id : ℕ) → Keeps (unlink_in now id)
unfolding unlink_in
unlink_keeps now id t st s v u w e = (
  unlink_kept now id t v u w st e,
  full_done _ _ _ v u w (judged_done (unlink_refusals now id t) _ v u w e) (full_killed now t id s),
)

pub remove_keeps : (now id : ℕ) → Keeps (remove_in now id)
unfolding remove_in
remove_keeps now id t st s v u w e = (
  remove_kept now id t v u w st e,
  full_done _ _ _ v u w (judged_done (remove_refusals now id t) _ v u w e) (full_killed now t id s),
)

pub rename_keeps : (now id d : ℕ) (name : List ℕ) → Keeps (rename_in now id d name)
unfolding rename_in renamed
rename_keeps now id d name t st s v u w e = (
  rename_kept now id d name t v u w st e,
  full_done _ _ _ v u w (judged_done (rename_refusals now id d name t) _ v u w e)
      (full_changed _ t (head_of t d) s
      (λ p a. full_changed _ t (head_of t id) s
      (λ h b. full_settle t _ (full_issue now (with_place h p (name_from name)) t (full_from name) s)))),
)

pub spread_keeps : (id set : ℕ) → Keeps (spread_in id set)
unfolding spread_in spread_to
spread_keeps id set t st s v u w e = (
  spread_kept id set t v u w st e,
  full_done _ _ _ v u w (judged_done (spread_refusals id set t) _ v u w e)
      (full_changed (spread_to set t) t (head_of t id) s
      (λ h a. full_settle t _ (full_put (with_holders h (join h.holders set)) t (full_head_law t s id h a) s))),
)

pub clear_keeps : (a : Acknowledgement) → Keeps (λ (t : Table). clear_in t a)
unfolding clear_in
clear_keeps a t st s v u w e = (
  clear_kept t a v u w st e,
  full_done _ _ _ v u w (judged_done (clear_refusals t a) _ v u w e) (full_clear a.id a.sender t s),
)

-- list, push and pending leave the table as it is
same_keeps : (f : Table → Outcome) → ((t : Table) (v : ℕ) (u : Table) (w : List ℕ) → f t ≡ done v u w → u ≡ t) → Keeps f
same_keeps f k t st s v u w e =
    let q = k t v u w e in
    (ap sound q ∙ st, subst Full (sym q) s)

pub list_same : (id room : ℕ) (t : Table) (v : ℕ) (u : Table) (w : List ℕ) → list_in id room t ≡ done v u w → u ≡ t
unfolding list_in
list_same id room t v u w e = done_table _ v t u _ w (judged_done (list_refusals id room t) _ v u w e)

pub push_same : (id node room : ℕ) (t : Table) (v : ℕ) (u : Table) (w : List ℕ) → push_in id node room t ≡ done v u w →
    u ≡ t
unfolding push_in
push_same id node room t v u w e = done_table _ v t u _ w (judged_done (push_refusals id node room t) _ v u w e)

pub list_keeps : (id room : ℕ) → Keeps (list_in id room)
list_keeps id room = same_keeps (list_in id room) (list_same id room)

pub push_keeps : (id node room : ℕ) → Keeps (push_in id node room)
push_keeps id node room = same_keeps (push_in id node room) (push_same id node room)

pub pending_keeps : Keeps (λ (t : Table). done (pending_sum t.replicas) t [])
pending_keeps = same_keeps _ (λ t v u w e. done_table _ v t u _ w e)

-- an acknowledgement that is none is refused
pub acknowledged_keeps : (message : List ℕ) → Keeps (λ (t : Table). if_ack (read_ack t.nodes message) (clear_in t))
acknowledged_keeps message t st s v u w e = go (read_ack t.nodes message) e
  where
    go : (o : Option Acknowledgement) → if_ack o (clear_in t) ≡ done v u w → (sound u ≡ true) × Full u
    go none q = absurd (not_done 4 v u w q)
    go (some a) q = clear_keeps a t st s v u w q

-- ---- over bytes: an accepted call leaves a sound table, whose bytes are sound

module _ (l : List ℕ) (v : ℕ) (u : Table) (w : List ℕ) where
  pub start_left : (node n : ℕ) → start l node n ≡ done v u w → Left u
  unfolding start
  start_left node n e =
      left u (start_sound l node n v u w e)
      (full_done 0 (fresh node n) [] v u w (judged_done (start_refusals l node n) _ v u w e) (full_fresh node n))

  pub create_left : (now d kind : ℕ) (name : List ℕ) (set : ℕ) → create l now d kind name set ≡ done v u w → Left u
  create_left now d kind name set = on_sound_law l (create_in now d kind name set) (create_keeps now d kind name set) v u w

  pub unlink_left : (now id : ℕ) → unlink l now id ≡ done v u w → Left u
  unlink_left now id = on_sound_law l (unlink_in now id) (unlink_keeps now id) v u w

  pub rename_left : (now id d : ℕ) (name : List ℕ) → rename l now id d name ≡ done v u w → Left u
  rename_left now id d name = on_sound_law l (rename_in now id d name) (rename_keeps now id d name) v u w

  pub remove_left : (now id : ℕ) → remove l now id ≡ done v u w → Left u
  remove_left now id = on_sound_law l (remove_in now id) (remove_keeps now id) v u w

  pub spread_left : (id set : ℕ) → spread l id set ≡ done v u w → Left u
  spread_left id set = on_sound_law l (spread_in id set) (spread_keeps id set) v u w

  pub list_left : (id room : ℕ) → list l id room ≡ done v u w → Left u
  list_left id room = on_sound_law l (list_in id room) (list_keeps id room) v u w

  pub push_left : (id node room : ℕ) → push l id node room ≡ done v u w → Left u
  push_left id node room = on_sound_law l (push_in id node room) (push_keeps id node room) v u w

  pub acknowledged_left : (message : List ℕ) → acknowledged l message ≡ done v u w → Left u
  acknowledged_left message =
      on_sound_law l (λ (t : Table). if_ack (read_ack t.nodes message) (clear_in t)) (acknowledged_keeps message) v u w

  pub pending_left : pending l ≡ done v u w → Left u
  pending_left = on_sound_law l (λ (t : Table). done (pending_sum t.replicas) t []) pending_keeps v u w
