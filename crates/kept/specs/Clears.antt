-- An acknowledgement leaves a sound table sound: a pending set loses a node, and nothing else changes. Assumes nothing.
use Rattle.std.specs.Prelude.{◌≡◌, Bool, true, false, cond, ℕ, ◌≤◌, eqb, length}
use Rattle.std.proofs.Math.Path.{refl, ap}
use Rattle.std.proofs.Common.{sym, subst, ◌∙◌}
use Rattle.std.proofs.Math.Option.{Option, some, none}
use mathlib.Core.List.{List, [], ◌∷◌, map}
use Rattle.numbers.specs.Nodes.{is_set, without}
use Rattle.numbers.specs.Ids.{is_version}
use Rattle.messages.specs.declared.acknowledgement.Acknowledgement.{Acknowledgement}
use Rattle.records.specs.declared.head.Head.{Head}
use Rattle.slots.specs.declared.replica.Replica.{Replica}
use Rattle.document.specs.Tables.{Table, with_replicas, find, head_of?, head_of}
use Rattle.document.specs.Sound.{distinct, same_id, root_in, is_part_of, sound}
use Rattle.document.specs.Outcomes.{done, all_passed}
use Rattle.document.specs.Calls.{clear, clear_in}
use Rattle.views.specs.Lists.{some_only, not_none}
use Rattle.views.specs.Maps.{on_found, find_map, head_map, map_distinct, map_length, map_root}
use Rattle.views.specs.Sets.{is_set_without, part_without}
use Rattle.views.specs.Sounds.{Sound, sound_is, is_sound}
use Rattle.kept.specs.Firm.{firm_of}
use Rattle.kept.specs.Settled.{sound_replicas, holders_fit}
use Rattle.kept.specs.Accepted.{accepted, done_table}

-- what becomes of a replica
abbrev pub cleared : ℕ → ℕ → Replica → Replica
cleared id node r =
    cond (eqb r.head.id id) (record { head = r.head; version = r.version; pending = without r.pending node }) r

module _ (id node : ℕ) where
  pub clear_map : (l : List Replica) → clear id node l ≡ map (cleared id node) l
  unfolding clear
  clear_map [] = refl
  clear_map (r ∷ rs) = ap (λ (l : List Replica). cleared id node r ∷ l) (clear_map rs)

  pub cleared_head : (r : Replica) → (cleared id node r).head ≡ r.head
  cleared_head r = go (eqb r.head.id id)
    where
      go : (b : Bool) →
          (cond b (record { head = r.head; version = r.version; pending = without r.pending node }) r).head ≡ r.head
      go true = refl
      go false = refl

  pub cleared_version : (r : Replica) → (cleared id node r).version ≡ r.version
  cleared_version r = go (eqb r.head.id id)
    where
      go : (b : Bool) →
          (cond b (record { head = r.head; version = r.version; pending = without r.pending node }) r).version
          ≡ r.version
      go true = refl
      go false = refl

  -- what is found after it was found before it
  pub found_cleared : (f : ℕ) (l : List Replica) (r : Replica) → find f (clear id node l) ≡ some r →
      (o : Replica) × (find f l ≡ some o) × (r ≡ cleared id node o)
  found_cleared f l r e =
      go (find f l) (sym (ap (find f) (clear_map l) ∙ find_map (cleared id node) cleared_head f l) ∙ e)
    where
      go : (o : Option Replica) → on_found (cleared id node) o ≡ some r →
          (x : Replica) × (o ≡ some x) × (r ≡ cleared id node x)
      go none q = absurd (not_none q)
      go (some x) q = (x, refl, sym (some_only q))

  -- a test on pending sets that holds of a set, and of the set without the node
  cleared_pending : (r : Replica) (P : ℕ → Type 0) → P r.pending → P (without r.pending node) →
      P (cleared id node r).pending
  cleared_pending r P p q = go (eqb r.head.id id)
    where
      go : (b : Bool) →
          P (cond b (record { head = r.head; version = r.version; pending = without r.pending node }) r).pending
      go true = q
      go false = p

  pub sound_clear : (t : Table) → Sound t → Sound (with_replicas t (clear id node t.replicas))
  sound_clear t s =
      sound_replicas t (clear id node t.replicas) (firm_of t s) heads
      (ap (distinct same_id) (clear_map t.replicas)
      ∙ map_distinct (cleared id node) cleared_head t.replicas s.ids_unique_law)
      (ap (root_in t.nodes) (clear_map t.replicas) ∙ map_root (cleared id node) cleared_head t.nodes t.replicas
      ∙ s.root_first_law)
      (record {
        versions_fit = λ f r e. version f r (found_cleared f t.replicas r e);
        pendings_fit = λ f r e. pending f r (found_cleared f t.replicas r e);
        pendings_within = λ f r e. part f r (found_cleared f t.replicas r e);
        not_crowded_law = λ f h e. s.not_crowded_law f h (sym (heads f) ∙ e);
        few_replicas = subst (λ (n : ℕ). n ≤ 64) (sym size) s.few_replicas;
        few_entries = s.few_entries;
        highest = s.highest;
        next_high = s.next_high;
      })
    where
      heads : (f : ℕ) → head_of? (find f (clear id node t.replicas)) ≡ head_of t f
      heads f =
          ap (λ (l : List Replica). head_of? (find f l)) (clear_map t.replicas)
          ∙ head_map (cleared id node) cleared_head f t.replicas

      size : length (clear id node t.replicas) ≡ length t.replicas
      size = ap length (clear_map t.replicas) ∙ map_length (cleared id node) cleared_head t.replicas

      version : (f : ℕ) (r : Replica) → (o : Replica) × (find f t.replicas ≡ some o) × (r ≡ cleared id node o) →
          is_version r.version ≡ true
      version f r (o, p, q) =
          ap (λ (y : Replica). is_version y.version) q ∙ ap is_version (cleared_version o) ∙ s.versions_fit f o p

      pending : (f : ℕ) (r : Replica) → (o : Replica) × (find f t.replicas ≡ some o) × (r ≡ cleared id node o) →
          is_set t.nodes r.pending ≡ true
      pending f r (o, p, q) =
          ap (λ (y : Replica). is_set t.nodes y.pending) q
          ∙ cleared_pending o (λ a. is_set t.nodes a ≡ true) (s.pendings_fit f o p)
          (is_set_without t.nodes o.pending node (s.pendings_fit f o p))

      part : (f : ℕ) (r : Replica) → (o : Replica) × (find f t.replicas ≡ some o) × (r ≡ cleared id node o) →
          is_part_of r.pending (without r.head.holders t.own) ≡ true
      part f r (o, p, q) =
          let rest : ℕ = without o.head.holders t.own in
          let fit : is_set t.nodes rest ≡ true =
          is_set_without t.nodes o.head.holders t.own
          (holders_fit t s.root_first_law s.heads_fit f o.head (ap head_of? p)) in
          ap (λ (y : Replica). is_part_of y.pending (without y.head.holders t.own)) q
          ∙ ap (λ (y : Head). is_part_of (cleared id node o).pending (without y.holders t.own)) (cleared_head o)
          ∙ cleared_pending o (λ a. is_part_of a rest ≡ true) (s.pendings_within f o p)
          (part_without t.nodes o.pending rest node (s.pendings_fit f o p) fit (s.pendings_within f o p))

pub clear_kept : (t : Table) (a : Acknowledgement) (v : ℕ) (u : Table) (w : List ℕ) → sound t ≡ true →
    clear_in t a ≡ done v u w → sound u ≡ true
unfolding clear_in
clear_kept t a v u w st e =
    let r5 = accepted _ _ _ v u w e in
    let r6 = accepted _ _ _ v u w r5.1 in
    let r15 = accepted _ _ _ v u w r6.1 in
    ap sound (done_table 0 v _ u [] w (sym (all_passed _) ∙ r15.1))
    ∙ is_sound (with_replicas t (clear a.id a.sender t.replicas))
    (sound_clear a.id a.sender t (sound_is t st))
