-- What a sound table gives the calls that work on a copy of it: room, directories that are held, an id that is free.
-- Assumes nothing.
use Rattle.std.specs.Prelude.{◌≡◌, true, false, List, ℕ, ◌^◌, ◌≤◌, ◌<◌}
use Rattle.std.proofs.Common.{ap, sym, subst, arith, ltb-true, pow_mono}
use Rattle.std.proofs.Math.Option.{some}
use Rattle.codec.specs.Bytes.{Bytes}
use Rattle.numbers.specs.Nodes.{is_set}
use Rattle.numbers.specs.Laws.{size_most, node_small}
use Rattle.records.specs.declared.head.Head.{Head}
use Rattle.document.specs.Tables.{Table, head_of, table_of, with_highest}
use Rattle.document.specs.Steps.{clock_at}
use Rattle.document.specs.Sound.{sound_bytes}
use Rattle.document.specs.Calls.{not_held, place_not_held}
use Rattle.views.specs.Sounds.{Sound, sound_table}
use Rattle.steps.specs.Standing.{Is, Stands, stands, moved, sound_stands}
use Rattle.steps.specs.Grown.{Grown, grown_refl}
use Rattle.steps.specs.Room.{Room, crowd, sound_room}
use Rattle.steps.specs.States.{Held, held_head, crowd_most}
use Rattle.changes.specs.Finishing.{Changes}

module _ (t : Table) (s : Sound t) where
  -- its place directory
  pub place_held_law : (h : Head) → head_of t h.id ≡ some h → (h.id ≡ 0 → ⊥) → Held t h.directory
  place_held_law h e z = let p = s.placed h.id h e z in held_head t h.directory p.parent p.held

  -- "12: .. the place directory isn't held" does not happen
  pub place_there : (h : Head) → head_of t h.id ≡ some h → (h.id ≡ 0 → ⊥) → place_not_held t (some h) ≡ false
  place_there h e z = let p = s.placed h.id h e z in ap not_held p.held

  -- no directory has too many entries
  crowd_sound : (d : ℕ) → crowd t d ≤ 32
  crowd_sound d =
      crowd_most t (sound_room t s) (λ x i. let p = s.parents x i in held_head t x.directory p.head p.held) d

-- ---- a state on a copy that differs from the table in its next count and its clock

abbrev pub with_header : Table → ℕ → ℕ → Table
with_header t next highest =
    record { own = t.own; nodes = t.nodes; next = next; highest = highest; replicas = t.replicas; entries = t.entries }

pub changes_on : {l c : List ℕ} (next highest : ℕ) (h : Head) → sound_bytes l ≡ true → Is c (with_header (table_of l) next highest) →
    Held (table_of l) h.directory →
    ((old : Head) → head_of (table_of l) h.id ≡ some old → Held (table_of l) old.directory) →
    Changes l c h
changes_on {l} {c} next highest h s k p q =
    let t : Table = table_of l in
    let u : Table = with_header t next highest in
    let r = sound_room t (sound_table l s) in
    let room : Room u = record { few_replicas = r.few_replicas; few_entries = r.few_entries; crowds = r.crowds } in
    let same : u ≡ table_of c = sym k.table in
    let g = grown_refl t in
    let grown : Grown t u = record { replicas = g.replicas; entries = g.entries } in
    record {
      sound = s;
      ready =
          record {
            stands = stands k;
            room = subst Room same room;
            place = subst (λ (z : Table). Held z h.directory) same p;
            last =
                subst (λ (z : Table). (old : Head) → head_of z h.id ≡ some old → Held z old.directory) same q;
            crowd = subst (λ (z : Table). crowd z h.id ≤ 32) same (crowd_sound t (sound_table l s) h.id);
          };
      grown = subst (λ (z : Table). Grown t z) same grown;
    }

-- ---- a copy of the table's bytes

pub copy_stands : {l d : List ℕ} → sound_bytes l ≡ true → Bytes l → d ≡ l → Stands d
copy_stands {l} {d} s b e = stands (moved (sound_stands l s b) e)

-- once the clock is drawn
pub drawn_on : {l c d : List ℕ} (now : ℕ) → d ≡ l → Is c (with_highest (table_of d) (clock_at now (table_of d))) →
    Is c (with_highest (table_of l) (clock_at now (table_of l)))
drawn_on {l} {c} {d} now e i = subst (λ (z : List ℕ). Is c (with_highest (table_of z) (clock_at now (table_of z)))) e i

-- what the clock and the next id ask of a copy
pub copy_clock : {l d : List ℕ} → sound_bytes l ≡ true → d ≡ l → (table_of d).highest < 2 ^ 40
copy_clock {l} {d} s e = subst (λ (z : List ℕ). (table_of z).highest < 2 ^ 40) (sym e) (sound_table l s).highest

pub own_few : (l : List ℕ) → sound_bytes l ≡ true → (table_of l).own ≤ 8
own_few l s =
    let k = sound_table l s in
    (node_small (table_of l).nodes (table_of l).own k.size k.node).1

pub copy_own : {l d : List ℕ} → sound_bytes l ≡ true → d ≡ l → ((table_of d).own ≤ 8) × ((table_of d).next ≤ 16777216)
copy_own {l} {d} s e =
    subst (λ (z : List ℕ). ((table_of z).own ≤ 8) × ((table_of z).next ≤ 16777216)) (sym e) (own_few l s, (sound_table l s).next_high)

-- N, where it stands
pub nodes_few : (l : List ℕ) → sound_bytes l ≡ true → (table_of l).nodes ≤ 8
nodes_few l s = size_most (table_of l).nodes (sound_table l s).size

-- a set of at most eight nodes is a byte
pub set_below : (l : List ℕ) → sound_bytes l ≡ true → (set : ℕ) → is_set (table_of l).nodes set ≡ true → set < 256
set_below l s set e =
    let few = pow_mono {i = (table_of l).nodes} {j = 8} (nodes_few l s) in
    omega (arith, ltb-true set (2 ^ (table_of l).nodes) e, few)
