-- Spread: the refusals, and the head that is put. Assumes nothing.
use Rattle.std.specs.Prelude.{◌≡◌, true, ◌||◌, ℕ, ltb, length, Some}
use Rattle.std.proofs.Math.Path.{refl, ap, sym, subst}
use Rattle.std.proofs.Common.{◌∙◌, arith}
use Rattle.std.proofs.Math.Bool.{false, not}
use Rattle.std.proofs.Math.Option.{Option, some, none}
use mathlib.Core.List.{List, [], ◌∷◌}
use Rattle.numbers.specs.Nodes.{is_set, join}
use Rattle.records.specs.declared.head.Head.{Head}
use Rattle.records.specs.Heads.{head_at}
use Rattle.document.specs.Tables.{Table, head_of, table_of, replica_slot}
use Rattle.document.specs.Sound.{sound_bytes, is_held}
use Rattle.document.specs.Steps.{put, with_holders, too_many, past_end}
use Rattle.document.specs.Outcomes.{Outcome, refused, done, judged}
use Rattle.document.specs.Calls.{when, changed_by, not_held, spread_to, spread_in}
use Rattle.views.specs.Sounds.{sound_table}
use Rattle.kept.specs.Limits.{spread_room}
use Rattle.steps.specs.Standing.{Is, stands}
use Rattle.steps.specs.Putting.{has_slot}
use Rattle.steps.specs.Grown.{Grown, grown_refl, grown_put}
use Rattle.changes.specs.Finishing.{Ends, ended, skip, stop}
use Rattle.changes.specs.Looking.{slot_of}
use Rattle.changes.specs.Killing.{takes, takes_held}

-- by what is held
abbrev spread_of : ℕ → Table → Option Head → Outcome
spread_of set t o =
    judged
    (when 2 (not (is_set t.nodes set)) ∷ when 6 (not_held o) ∷ when 16 (too_many (changed_by (spread_to set t) t o))
    ∷ when 17 (past_end (changed_by (spread_to set t) t o)) ∷ [])
    (done 0 (changed_by (spread_to set t) t o) [])

spread_of_law : (id set : ℕ) (t : Table) → spread_in id set t ≡ spread_of set t (head_of t id)
unfolding spread_in
spread_of_law id set t = refl

pub spread_2 : (id set : ℕ) (t : Table) → is_set t.nodes set ≡ false → spread_in id set t ≡ refused 2
spread_2 id set t e = spread_of_law id set t ∙ stop 2 (not (is_set t.nodes set)) _ _ (ap not e)

pub spread_6 : (id set : ℕ) (t : Table) → is_set t.nodes set ≡ true → head_of t id ≡ none → spread_in id set t ≡ refused 6
spread_6 id set t e n =
    spread_of_law id set t ∙ ap (spread_of set t) n ∙ skip 2 (not (is_set t.nodes set)) _ _ (ap not e) ∙ stop 6 true _ _ refl

pub record Spreads (l : List ℕ) (set : ℕ) (h : Head) : Type 0 where
  pub sound : sound_bytes l ≡ true
  pub good : is_set (table_of l).nodes set ≡ true
  pub held : head_of (table_of l) h.id ≡ some h

module _ {l : List ℕ} {set : ℕ} {h : Head} (k : Spreads l set h) where
  abbrev wider : Head
  wider = with_holders h (join h.holders set)

  -- there is a slot: its own
  pub spread_slot : {d : List ℕ} → d ≡ l → (g : Head) → g ≡ wider → has_slot g.id (table_of d) ≡ true
  spread_slot {d} copied g e =
      ap (λ (z : Head). has_slot z.id (table_of d)) e ∙ ap (λ (z : List ℕ). has_slot h.id (table_of z)) copied
      ∙ ap (λ (o : Option Head). is_held o || ltb (length (table_of l).replicas) 64) k.held

  pub spread_ends : {c d : List ℕ} → d ≡ l → (g : Head) → Is c (put g (table_of d)) → Ends l c
  spread_ends {c} {d} copied g j =
      let i : Is c (put g (table_of l)) = subst (λ (z : List ℕ). Is c (put g (table_of z))) copied j in
      record {
        sound = k.sound;
        copy = stands i;
        grown = subst (λ (u : Table). Grown (table_of l) u) (sym i.table) (grown_put (table_of l) (table_of l) g (grown_refl (table_of l)));
      }

  pub spread_is : {c d : List ℕ} → d ≡ l → (g : Head) → g ≡ wider → Is c (put g (table_of d)) →
      ended 0 (table_of l) (table_of c) ≡ spread_in h.id set (table_of l)
  unfolding spread_to
  spread_is {c} {d} copied g e j =
      let t : Table = table_of l in
      let i : Is c (put g t) = subst (λ (z : List ℕ). Is c (put g (table_of z))) copied j in
      ap (ended 0 t) (i.table ∙ ap (λ (z : Head). put z t) e)
      ∙ sym
      (spread_of_law h.id set t ∙ ap (spread_of set t) k.held
      ∙ skip 2 (not (is_set t.nodes set)) _ _ (ap not k.good) ∙ skip 6 false _ _ refl
      ∙ skip 16 (too_many (spread_to set t h)) _ _ (spread_room set t h.id h (sound_table l k.sound) k.held))

-- what a number that is held names
pub spreads_held : (l : List ℕ) (id set : ℕ) {h : Head} → sound_bytes l ≡ true → is_set (table_of l).nodes set ≡ true →
    head_of (table_of l) id ≡ some h → Spreads l set h × (h.id ≡ id)
spreads_held l id set {h} s good q =
    let k = takes_held l id 0 s (omega arith) q in
    (record { sound = s; good = good; held = k.0.held }, k.1)

-- what was read where the number was found
pub spreads : (l : List ℕ) (id set : ℕ) {i : ℕ} {h : Head} → sound_bytes l ≡ true → is_set (table_of l).nodes set ≡ true →
    slot_of l id ≡ Some i → h ≡ head_at l (replica_slot i) → Spreads l set h × (h.id ≡ id)
spreads l id set {i} {h} s good e r =
    let k = takes l id 0 s (omega arith) e r in
    (record { sound = s; good = good; held = k.0.held }, k.1)
