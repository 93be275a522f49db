-- "16" is out of reach of unlink, remove and spread: they take no new slot. Assumes nothing.
use Rattle.std.specs.Prelude.{◌≡◌, refl, ◌⊎◌, Bool, true, false, ◌||◌, not, List, ℕ, ◌+◌, ◌≤◌, ltb, length}
use Rattle.std.proofs.Common.{ap, sym, subst, ◌∙◌, inl, inr, arith, add-zero, le-leb, le-ltb}
use Rattle.std.proofs.Math.Option.{Option, some}
use Rattle.codec.specs.Lists.{every}
use Rattle.numbers.specs.Nodes.{join}
use Rattle.records.specs.declared.head.Head.{Head}
use Rattle.slots.specs.declared.replica.Replica.{Replica}
use Rattle.slots.specs.declared.listed.Listed.{Listed}
use Rattle.document.specs.Tables.{Table, find, head_of, find_entry, entries_of}
use Rattle.document.specs.Sound.{is_live, not_crowded}
use Rattle.document.specs.Steps.{stamp_at, join_into, put_head, put, place_entry, issue, settle_all, settle, with_state, with_holders, too_many}
use Rattle.document.specs.Calls.{killed, spread_to}
use Rattle.views.specs.Lists.{In, in_every}
use Rattle.views.specs.Puts.{head_found, head_id, head_own, head_member, put_in, put_length_held}
use Rattle.views.specs.Joins.{entry_found, extra, join_size, one_more, crowd_join}
use Rattle.views.specs.Settles.{settled, settled_head, settle_in, settle_length}
use Rattle.views.specs.Issues.{place_same, issue_replicas, issue_entries_stay}
use Rattle.views.specs.Sounds.{Entered, Sound}

-- within the limits
few : (t : Table) → length t.replicas ≤ 64 → length t.entries ≤ 256 →
    ((r : Replica) → In r t.replicas → length (entries_of r.head.id t.entries) ≤ 32) → too_many t ≡ false
unfolding too_many
few t a b c =
    ap (λ (x : Bool). x || (ltb 256 (length t.entries) || not (every (not_crowded t) t.replicas)))
    (le-ltb 64 (length t.replicas) a)
    ∙ ap (λ (x : Bool). x || not (every (not_crowded t) t.replicas)) (le-ltb 256 (length t.entries) b)
    ∙ ap not (in_every (not_crowded t) t.replicas (λ r i. le-leb _ _ (c r i)))

-- a head put for one that is held, with as many entries in each directory as before
no_new_slot : (t u : Table) (h old : Head) → Sound t → head_of t h.id ≡ some old →
    u.replicas ≡ put_head h t.replicas →
    length u.entries ≡ length t.entries →
    ((d : ℕ) → length (entries_of d u.entries) ≡ length (entries_of d t.entries)) → too_many (settle t u) ≡ false
unfolding settle
no_new_slot t u h old s e reps ents counts =
    few (settle t u) (omega (arith, size, s.few_replicas)) (omega (arith, ents, s.few_entries))
    (λ r i. crowd r (settle_in t u u.replicas r i))
  where
    size : length (settle_all t u u.replicas) ≡ length t.replicas
    size =
        let r = head_found (find h.id t.replicas) old e in
        settle_length t u u.replicas ∙ ap length reps ∙ put_length_held h t.replicas r.0 r.1

    held : (r : Replica) → (r.head ≡ h) ⊎ In r t.replicas → (x : Head) × (head_of t r.head.id ≡ some x)
    held r (inl q) = (old, ap (λ (y : Head). head_of t y.id) q ∙ e)
    held r (inr i) = (r.head, head_member t.replicas s.ids_unique_law r i)

    within : (f : ℕ) → (x : Head) × (head_of t f ≡ some x) → length (entries_of f u.entries) ≤ 32
    within f (x, q) =
        let own : x.id ≡ f = head_id f t.replicas x q in
        let le : length (entries_of f t.entries) ≤ 32 =
        subst (λ (m : ℕ). length (entries_of m t.entries) ≤ 32) own (s.not_crowded_law f x q) in
        omega (arith, counts f, le)

    crowd : (r : Replica) → (o : Replica) × In o u.replicas × (r ≡ settled t u o) →
        length (entries_of r.head.id u.entries) ≤ 32
    crowd r (o, i, q) =
        let same : r.head ≡ o.head = ap (λ (y : Replica). y.head) q ∙ settled_head t u o in
        let member = put_in h t.replicas o (subst (λ (l : List Replica). In o l) reps i) in
        subst (λ (y : Head). length (entries_of y.id u.entries) ≤ 32) (sym same)
        (within o.head.id (held o member))

-- a live replica has an entry at its place, which its new state takes over
pub killed_room : (now : ℕ) (t : Table) (f : ℕ) (h : Head) → Sound t → head_of t f ≡ some h → (h.id ≡ 0 → ⊥) →
    is_live h ≡ true → too_many (killed now t h) ≡ false
unfolding killed
killed_room now t f h s e z l =
    no_new_slot t (issue now (with_state h 0) t) dead h s here (issue_replicas now (with_state h 0) t)
    (ap length entries ∙ join_size (place_entry dead) t.entries
    ∙ ap (λ (o : Option Listed). length t.entries + extra o) x.1 ∙ add-zero _)
    (λ d. ap (λ (k : List Listed). length (entries_of d k)) entries ∙ crowd_join (place_entry dead) t.entries d
    ∙ ap (λ (o : Option Listed). length (entries_of d t.entries) + one_more (place_entry dead) o d) x.1 ∙ add-zero _)
  where
    dead : Head
    dead = with_state h 0 (stamp_at now t)

    here : head_of t h.id ≡ some h
    here = head_own f t.replicas h e

    entries : (issue now (with_state h 0) t).entries ≡ join_into (place_entry (with_state h 0 (stamp_at now t))) t.entries
    entries = issue_entries_stay now (with_state h 0) t h here (place_same (with_state h 0 (stamp_at now t)) h refl refl)

    shown : Entered t h
    shown = s.shown f h e z l

    x : (y : Listed) × (find_entry h.directory h.id h.name t.entries ≡ some y) × (y.entry ≡ shown.entry)
    x = entry_found (find_entry h.directory h.id h.name t.entries) shown.entry shown.there

pub spread_room : (set : ℕ) (t : Table) (f : ℕ) (h : Head) → Sound t → head_of t f ≡ some h →
    too_many (spread_to set t h) ≡ false
unfolding spread_to
spread_room set t f h s e =
    no_new_slot t (put (with_holders h (join h.holders set)) t) (with_holders h (join h.holders set)) h s
    (head_own f t.replicas h e) refl refl (λ d. refl)
