-- What an accepted call is: each test that it passed as far as demand 3 needs it, and the table that it leaves.
-- Assumes nothing.
use Rattle.std.specs.Prelude.{◌≡◌, Bool, true, false, not, cond, List, [], ℕ, ◌+◌, ◌^◌, ◌<◌, eqb, leb, ltb}
use Rattle.std.proofs.Math.Path.{refl, ap, sym}
use Rattle.std.proofs.Common.{◌∙◌, true≢false, arith}
use Rattle.std.proofs.Math.Option.{Option, some, none}
use borrow.Author.Tests.{eqb-true, eqb-false, ltb-false, not-false}
use Rattle.codec.specs.Lists.{every, and_true}
use Rattle.names.specs.declared.Name.{Name}
use Rattle.names.specs.Names.{name_from}
use Rattle.numbers.specs.Nodes.{is_node, has}
use Rattle.records.specs.declared.head.Head.{Head}
use Rattle.messages.specs.declared.acknowledgement.Acknowledgement.{Acknowledgement}
use Rattle.messages.specs.Acknowledgements.{ack_bytes}
use Rattle.slots.specs.declared.replica.Replica.{Replica}
use Rattle.document.specs.Tables.{Table, table_of, with_replicas, with_next, find, head_of?, head_of}
use Rattle.document.specs.Sound.{is_directory, root_first, sound_bytes, read_sound}
use Rattle.document.specs.Steps.{issue, settle, past_end}
use Rattle.document.specs.Messages.{Push, message_bytes, push_from, read_push, read_ack}
use Rattle.document.specs.Receive.{received, odd, ack_for}
use Rattle.document.specs.Outcomes.{Outcome, done, all_passed}
use Rattle.document.specs.Calls.{if_sound, on_sound, not_held, not_file, not_directory, changed_by, new_head, created, create_in, killed, unlink_refusals, unlink_in, renamed, rename_refusals, rename_in, remove_refusals, remove_in, spread_to, spread_refusals, spread_in, list_in, is_pending, push_of?, push_refusals, push_in, if_push, take_refusals, take_in, receive_refusals, receive_in, is_current, clear, if_ack, clear_refusals, clear_in, pending_sum}
use Rattle.views.specs.Lists.{no_both, or_false_both}
use Rattle.views.specs.Issues.{issue_next}
use Rattle.views.specs.Settles.{settle_next}
use Rattle.views.specs.Sounds.{root_held}
use Rattle.kept.specs.Accepted.{not_done, done_table, accepted, judged_done, held_some}
use Rattle.kept.specs.Kept.{push_same}
use Rattle.cluster.specs.Cluster.{Call, creates, unlinks, renames, removes, spreads, lists, pushes, receives, hears, counts, answer}

output_of : {v v' : ℕ} {t u : Table} {w w' : List ℕ} → done v t w ≡ done v' u w' → w' ≡ w
output_of e = cc

-- what is not "not held" is found
found_one : (o : Option Replica) → not_held (head_of? o) ≡ false → (r : Replica) × (o ≡ some r)
found_one none e = absurd (true≢false e)
found_one (some r) e = (r, refl)

-- ---- a call on the table that the bytes are

abbrev pub answer_in : Call → Table → Outcome
answer_in (creates now d kind name set) t = create_in now d kind name set t
answer_in (unlinks now id) t = unlink_in now id t
answer_in (renames now id d name) t = rename_in now id d name t
answer_in (removes now id) t = remove_in now id t
answer_in (spreads id set) t = spread_in id set t
answer_in (lists id room) t = list_in id room t
answer_in (pushes id node room) t = push_in id node room t
answer_in (receives now message room) t = receive_in now message room t
answer_in (hears message) t = if_ack (read_ack t.nodes message) (clear_in t)
answer_in counts t = done (pending_sum t.replicas) t []

pub answer_in_law : (k : Call) (l : List ℕ) → answer k l ≡ on_sound l (answer_in k)
answer_in_law (creates now d kind name set) l = refl
answer_in_law (unlinks now id) l = refl
answer_in_law (renames now id d name) l = refl
answer_in_law (removes now id) l = refl
answer_in_law (spreads id set) l = refl
answer_in_law (lists id room) l = refl
answer_in_law (pushes id node room) l = refl
answer_in_law (receives now message room) l = refl
answer_in_law (hears message) l = refl
answer_in_law counts l = refl

-- an accepted call was made on the sound table that the bytes are
pub on_table : (k : Call) (l : List ℕ) (v : ℕ) (u : Table) (w : List ℕ) → answer k l ≡ done v u w →
    answer_in k (table_of l) ≡ done v u w
unfolding read_sound
on_table k l v u w e = go (sound_bytes l) (sym (answer_in_law k l) ∙ e)
  where
    go : (b : Bool) → if_sound (cond b (some (table_of l)) none) (answer_in k) ≡ done v u w →
        answer_in k (table_of l) ≡ done v u w
    go true q = q
    go false q = absurd (not_done 1 v u w q)

-- ---- create, unlink, rename, remove, spread

pub record Creates (t u : Table) (now d kind : ℕ) (name : List ℕ) (set : ℕ) : Type 0 where
  pub place : Head
  pub found : head_of t d ≡ some place
  pub is : u ≡ created now kind (name_from name) set t place
  pub more : t.next < 16777216

-- a count was left
count_left : (t : Table) (now kind : ℕ) (name : Name) (set : ℕ) (p : Head) →
    past_end (created now kind name set t p) ≡ false →
    t.next < 16777216
unfolding past_end created
count_left t now kind name set p e =
    let m : Table = issue now (new_head kind name set t p) (with_next t (t.next + 1)) in
    let x = or_false_both (leb (2 ^ 40) (settle t m).highest) _ e in
    let y = or_false_both (not (every (λ (r : Replica). ltb r.version (2 ^ 32)) (settle t m).replicas)) _ x.1 in
    omega (
      arith,
      ltb-false 16777216 (settle t m).next y.1,
      settle_next t m ∙ issue_next now (new_head kind name set t p) (with_next t (t.next + 1)),
    )

-- a file held, with another state
pub record Kills (t u : Table) (now id : ℕ) : Type 0 where
  pub head : Head
  pub found : head_of t id ≡ some head
  pub other : id ≡ 0 → ⊥
  pub is : u ≡ killed now t head

pub record Renames (t u : Table) (now id d : ℕ) (name : List ℕ) : Type 0 where
  pub place : Head
  pub there : head_of t d ≡ some place
  pub head : Head
  pub found : head_of t id ≡ some head
  pub file : is_directory head ≡ false
  pub is : u ≡ renamed now (name_from name) t place head

pub record Spreads (t u : Table) (id set : ℕ) : Type 0 where
  pub head : Head
  pub found : head_of t id ≡ some head
  pub is : u ≡ spread_to set t head

-- ---- push, receive, acknowledged

pub record Writes (t u : Table) (w : List ℕ) (id j : ℕ) : Type 0 where
  pub replica : Replica
  pub found : find id t.replicas ≡ some replica
  pub node : is_node t.nodes j ≡ true
  pub other : eqb j t.own ≡ false
  pub pending : has replica.pending j ≡ true
  pub is : u ≡ t
  pub output : w ≡ message_bytes (push_from t replica.head replica.version j)

pub record Takes (t u : Table) (w : List ℕ) (now : ℕ) (p : Push) : Type 0 where
  pub mine : p.addressee ≡ t.own
  pub even : odd p t ≡ false
  pub is : u ≡ received now p t
  pub output : w ≡ ack_bytes (ack_for p)

pub record Hears (t u : Table) (a : Acknowledgement) : Type 0 where
  pub mine : a.addressee ≡ t.own
  pub replica : Replica
  pub found : find a.id t.replicas ≡ some replica
  pub current : replica.version ≡ a.version
  pub is : u ≡ with_replicas t (clear a.id a.sender t.replicas)

module _ (t : Table) (v : ℕ) (u : Table) (w : List ℕ) where
  pub creates_is : (now d kind : ℕ) (name : List ℕ) (set : ℕ) → create_in now d kind name set t ≡ done v u w →
      Creates t u now d kind name set
  unfolding create_in
  creates_is now d kind name set e =
      let after : Table = changed_by (created now kind (name_from name) set t) t (head_of t d) in
      let a = accepted _ _ _ v u w e in
      let b = accepted _ _ _ v u w a.1 in
      let c = accepted _ _ _ v u w b.1 in
      let f = accepted _ _ _ v u w c.1 in
      let g = accepted _ _ _ v u w f.1 in
      let h = accepted _ _ _ v u w g.1 in
      let i = accepted _ _ _ v u w h.1 in
      let j = accepted _ _ _ v u w i.1 in
      let p = held_some (head_of t d) b.0 in
      let s : after ≡ created now kind (name_from name) set t p.0 =
      ap (changed_by (created now kind (name_from name) set t) t) p.1 in
      record {
        place = p.0;
        found = p.1;
        is = done_table _ v _ u _ w (sym (all_passed _) ∙ j.1) ∙ s;
        more = count_left t now kind (name_from name) set p.0 (sym (ap past_end s) ∙ j.0);
      }

  pub unlinks_is : (now id : ℕ) → root_first t ≡ true → unlink_in now id t ≡ done v u w → Kills t u now id
  unfolding unlink_in
  unlinks_is now id root e =
      let a = accepted _ _ _ v u w e in
      let b = accepted _ _ _ v u w a.1 in
      let c = accepted _ _ _ v u w b.1 in
      let f = accepted _ _ _ v u w c.1 in
      let p = held_some (head_of t id) b.0 in
      record {
        head = p.0;
        found = p.1;
        other = λ z. no_both _ (ap not_file (ap (λ (m : ℕ). head_of t m) z ∙ root_held t root)) f.0;
        is =
            done_table _ v _ u _ w (judged_done (unlink_refusals now id t) _ v u w e) ∙ ap (changed_by (killed now t) t)
            p.1;
      }

  pub removes_is : (now id : ℕ) → remove_in now id t ≡ done v u w → Kills t u now id
  unfolding remove_in
  removes_is now id e =
      let a = accepted _ _ _ v u w e in
      let b = accepted _ _ _ v u w a.1 in
      let c = accepted _ _ _ v u w b.1 in
      let f = accepted _ _ _ v u w c.1 in
      let p = held_some (head_of t id) b.0 in
      record {
        head = p.0;
        found = p.1;
        other = eqb-false id 0 (or_false_both (not_directory (head_of t id)) _ f.0).1;
        is =
            done_table _ v _ u _ w (judged_done (remove_refusals now id t) _ v u w e) ∙ ap (changed_by (killed now t) t)
            p.1;
      }

  pub renames_is : (now id d : ℕ) (name : List ℕ) → rename_in now id d name t ≡ done v u w → Renames t u now id d name
  unfolding rename_in
  renames_is now id d name e =
      let on : Option Head → Head → Table = λ o q. changed_by (renamed now (name_from name) t q) t o in
      let a = accepted _ _ _ v u w e in
      let b = accepted _ _ _ v u w a.1 in
      let c = accepted _ _ _ v u w b.1 in
      let f = accepted _ _ _ v u w c.1 in
      let x = or_false_both (not_held (head_of t id)) _ b.0 in
      let y = or_false_both (not_file (head_of t id)) _ f.0 in
      let p = held_some (head_of t id) x.0 in
      let q = held_some (head_of t d) x.1 in
      record {
        place = q.0;
        there = q.1;
        head = p.0;
        found = p.1;
        file = sym (ap not_file p.1) ∙ y.0;
        is =
            done_table _ v _ u _ w (judged_done (rename_refusals now id d name t) _ v u w e)
            ∙ ap (changed_by (on (head_of t id)) t) q.1 ∙ ap (λ (o : Option Head). on o q.0) p.1;
      }

  pub spreads_is : (id set : ℕ) → spread_in id set t ≡ done v u w → Spreads t u id set
  unfolding spread_in
  spreads_is id set e =
      let a = accepted _ _ _ v u w e in
      let b = accepted _ _ _ v u w a.1 in
      let p = held_some (head_of t id) b.0 in
      record {
        head = p.0;
        found = p.1;
        is =
            done_table _ v _ u _ w (judged_done (spread_refusals id set t) _ v u w e)
            ∙ ap (changed_by (spread_to set t) t) p.1;
      }

  pub writes_is : (id node room : ℕ) → push_in id node room t ≡ done v u w → Writes t u w id node
  unfolding push_in
  writes_is id node room e =
      let r : Option Replica = find id t.replicas in
      let a = accepted _ _ _ v u w e in
      let b = accepted _ _ _ v u w a.1 in
      let c = accepted _ _ _ v u w b.1 in
      let f = accepted _ _ _ v u w c.1 in
      let p = found_one r c.0 in
      let g = or_false_both (not (is_node t.nodes node)) _ a.0 in
      record {
        replica = p.0;
        found = p.1;
        node = not-false _ g.0;
        other = g.1;
        pending = sym (ap (is_pending node) p.1) ∙ not-false _ f.0;
        is = push_same id node room t v u w e;
        output = output_of (judged_done (push_refusals id node room t) _ v u w e) ∙ ap (push_of? t node) p.1;
      }

  pub takes_is : (now : ℕ) (p : Push) → take_in now t p ≡ done v u w → Takes t u w now p
  unfolding take_in
  takes_is now p e =
      let a = accepted _ _ _ v u w e in
      let b = accepted _ _ _ v u w a.1 in
      let o = judged_done (take_refusals now t p) _ v u w e in
      record {
        mine = eqb-true _ _ (not-false _ a.0);
        even = b.0;
        is = done_table _ v _ u _ w o;
        output = output_of o;
      }

  -- the push that was read, and what was done with it
  pub receives_is : (now : ℕ) (m : List ℕ) (room : ℕ) → receive_in now m room t ≡ done v u w →
      (p : Push) × (read_push t.nodes m ≡ some p) × (take_in now t p ≡ done v u w)
  unfolding receive_in
  receives_is now m room e = go (read_push t.nodes m) refl (judged_done (receive_refusals now room) _ v u w e)
    where
      go : (o : Option Push) → read_push t.nodes m ≡ o → if_push o (take_in now t) ≡ done v u w →
          (p : Push) × (read_push t.nodes m ≡ some p) × (take_in now t p ≡ done v u w)
      go none q f = absurd (not_done 4 v u w f)
      go (some p) q f = (p, q, f)

  pub hears_is : (a : Acknowledgement) → clear_in t a ≡ done v u w → Hears t u a
  unfolding clear_in
  hears_is a e =
      let r : Option Replica = find a.id t.replicas in
      let b = accepted _ _ _ v u w e in
      let c = accepted _ _ _ v u w b.1 in
      let f = accepted _ _ _ v u w c.1 in
      let p = found_one r c.0 in
      let g = and_true (is_current a.version r) _ (not-false _ f.0) in
      record {
        mine = eqb-true _ _ (not-false _ b.0);
        replica = p.0;
        found = p.1;
        current = eqb-true _ _ (sym (ap (is_current a.version) p.1) ∙ g.0);
        is = done_table _ v _ u _ w (judged_done (clear_refusals t a) _ v u w e);
      }

  pub acknowledges_is : (m : List ℕ) → if_ack (read_ack t.nodes m) (clear_in t) ≡ done v u w →
      (a : Acknowledgement) × (read_ack t.nodes m ≡ some a) × (clear_in t a ≡ done v u w)
  acknowledges_is m e = go (read_ack t.nodes m) refl e
    where
      go : (o : Option Acknowledgement) → read_ack t.nodes m ≡ o → if_ack o (clear_in t) ≡ done v u w →
          (a : Acknowledgement) × (read_ack t.nodes m ≡ some a) × (clear_in t a ≡ done v u w)
      go none q f = absurd (not_done 4 v u w f)
      go (some a) q f = (a, q, f)
