-- "A sound table", a rule for each sentence, in the document's order. Assumes nothing.
use Rattle.std.specs.Prelude.{Bool, true, false, ◌&&◌, ◌||◌, not, cond, List, [], ◌∷◌, ℕ, ◌+◌, eqb, leb, ltb, length}
use Rattle.std.proofs.Math.Option.{Option, some, none}
use Rattle.codec.specs.Lists.{every}
use Rattle.numbers.specs.Nodes.{has, join, without}
use Rattle.numbers.specs.Ids.{maker, count, clock_of}
use Rattle.records.specs.declared.head.Head.{Head}
use Rattle.records.specs.declared.entry.Entry.{Entry}
use Rattle.records.specs.Heads.{is_root}
use Rattle.slots.specs.declared.replica.Replica.{Replica}
use Rattle.slots.specs.declared.listed.Listed.{Listed}
use Rattle.document.specs.Tables.{Table, head_of, entry_of, entries_of, is_key, fits, table_in_range, table_of}

-- the root; a live replica; a directory
abbrev pub is_root_id : Head → Bool
is_root_id h = eqb h.id 0

abbrev pub is_live : Head → Bool
is_live h = eqb h.live 1

abbrev pub is_directory : Head → Bool
is_directory h = eqb h.kind 2

-- it is held, and what the test says of its head holds
abbrev pub held_and : (Head → Bool) → Option Head → Bool
held_and f none = false
held_and f (some h) = f h

abbrev pub is_held : Option Head → Bool
is_held o = held_and (λ h. true) o

-- no two of the list are the same
unfoldable pub distinct : {A : Type 0} → (A → A → Bool) → List A → Bool
distinct same [] = true
distinct same (x ∷ xs) = every (λ y. not (same x y)) xs && distinct same xs

-- ---- "the root in slot 0 as described"

abbrev pub root_in : ℕ → List Replica → Bool
root_in n [] = false
root_in n (r ∷ rs) = is_root n r.head

abbrev pub root_first : Table → Bool
root_first t = root_in t.nodes t.replicas

-- ---- "replica ids unique"

abbrev pub same_id : Replica → Replica → Bool
same_id a b = eqb a.head.id b.head.id

abbrev pub ids_unique : Table → Bool
ids_unique t = distinct same_id t.replicas

-- ---- what each replica r of a table t keeps

-- "holders include the maker and the own node": the root has no maker
abbrev pub maker_holds : Head → Bool
maker_holds h = is_root_id h || has h.holders (maker h.id)

abbrev pub holders_include : Table → Replica → Bool
holders_include t r = maker_holds r.head && has r.head.holders t.own

-- "pending is within holders without the own node"
abbrev pub is_part_of : ℕ → ℕ → Bool
is_part_of a b = eqb (join a b) b

abbrev pub pending_within : Table → Replica → Bool
pending_within t r = is_part_of r.pending (without r.head.holders t.own)

-- "replica ids of own making below the next count"
abbrev pub own_below_next : Table → Replica → Bool
own_below_next t r = not (eqb (maker r.head.id) t.own) || ltb (count r.head.id) t.next

-- "For each replica but the root, its place directory is held, is a directory, is one less deep; a live replica's is
-- live."
abbrev pub is_place_of : Head → Head → Bool
is_place_of h p = is_directory p && (eqb (p.depth + 1) h.depth && (not (is_live h) || is_live p))

abbrev pub place_held : Table → Replica → Bool
place_held t r = is_root_id r.head || held_and (is_place_of r.head) (head_of t r.head.directory)

-- "at most 32 entries in a directory"
abbrev pub not_crowded : Table → Replica → Bool
not_crowded t r = leb (length (entries_of r.head.id t.entries)) 32

-- "Each live replica but the root has an entry at its place with a stamp not below its own, and live if equal."
abbrev pub shows : Head → Option Entry → Bool
shows h none = false
shows h (some e) = leb h.stamp e.stamp && (not (eqb h.stamp e.stamp) || eqb e.live 1)

abbrev pub place_shown : Table → Replica → Bool
place_shown t r =
    not (is_live r.head)
    || (is_root_id r.head || shows r.head (entry_of t r.head.directory r.head.id r.head.name))

-- "All clocks are at most the highest seen."
abbrev pub clock_seen : Table → ℕ → Bool
clock_seen t stamp = leb (clock_of stamp) t.highest

unfoldable pub replica_keeps : Table → Replica → Bool
replica_keeps t r =
    holders_include t r && (pending_within t r && (own_below_next t r && (place_held t r && (not_crowded t r && (place_shown t r
    && clock_seen t r.head.stamp)))))

-- ---- what each entry x of a table t keeps

-- "Each entry's directory is held, is a directory and less than 16 deep"
abbrev pub is_parent : Head → Bool
is_parent p = is_directory p && ltb p.depth 16

abbrev pub directory_held : Table → Listed → Bool
directory_held t x = held_and is_parent (head_of t x.directory)

-- "its child isn't the root"
abbrev pub child_not_root : Listed → Bool
child_not_root x = not (eqb x.entry.child 0)

unfoldable pub entry_keeps : Table → Listed → Bool
entry_keeps t x = directory_held t x && (child_not_root x && clock_seen t x.entry.stamp)

-- "directory, child and name together are unique"
abbrev pub same_key : Listed → Listed → Bool
same_key a b = is_key a.directory a.entry.child a.entry.name b

abbrev pub keys_unique : Table → Bool
keys_unique t = distinct same_key t.entries

-- ---- all of it: the rules beyond the ranges, and a sound table

unfoldable pub rules : Table → Bool
rules t =
    root_first t && (ids_unique t && (every (replica_keeps t) t.replicas
    && (every (entry_keeps t) t.entries && keys_unique t)))

unfoldable pub sound : Table → Bool
sound t = fits t && rules t

-- the bytes are a sound table
unfoldable pub sound_bytes : List ℕ → Bool
sound_bytes l = table_in_range l && rules (table_of l)

-- the sound table that bytes are, if they are one
unfoldable pub read_sound : List ℕ → Option Table
read_sound l = cond (sound_bytes l) (some (table_of l)) none
