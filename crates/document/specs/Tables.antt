-- "Numbers and records", the table: what a table is, where its parts stand, and the table that bytes are. No limits are
-- in it: how many slots there are is judged with the bytes, and on the outcome of a call. Assumes nothing.
use Rattle.std.specs.Prelude.{Bool, true, ◌&&◌, cond, List, [], ◌∷◌, ◌++◌, ℕ, zero, suc, ◌+◌, ◌*◌, ◌-◌, eqb, leb, length}
use Rattle.std.proofs.Math.Option.{Option, some, none}
use Rattle.codec.specs.Bytes.{chunk, zeros, marked_at, zero_at}
use Rattle.codec.specs.Lists.{every}
use Rattle.names.specs.declared.Name.{Name}
use Rattle.names.specs.Names.{same_name}
use Rattle.numbers.specs.Nodes.{is_set}
use Rattle.numbers.specs.Ids.{is_id, is_version}
use Rattle.records.specs.declared.head.Head.{Head}
use Rattle.records.specs.declared.entry.Entry.{Entry}
use Rattle.records.specs.Heads.{head_mark, head_fits, root_head}
use Rattle.records.specs.Entries.{entry_mark, entry_fits}
use Rattle.slots.specs.declared.table_header.TableHeader.{TableHeader}
use Rattle.slots.specs.declared.replica.Replica.{Replica}
use Rattle.slots.specs.declared.listed.Listed.{Listed}
use Rattle.slots.specs.TableHeaders.{table_header_bytes, table_header_of, table_header_fits, table_header_in_range}
use Rattle.slots.specs.Replicas.{replica_bytes, replica_at, replica_in_range}
use Rattle.slots.specs.Listings.{listed_bytes, listed_at, listed_in_range}

-- own node, N, next count, highest clock seen, and the used slots, first to last
pub record Table : Type 0 where
  pub own : ℕ
  pub nodes : ℕ
  pub next : ℕ
  pub highest : ℕ
  pub replicas : List Replica
  pub entries : List Listed

-- a table with one part changed
abbrev pub with_replicas : Table → List Replica → Table
with_replicas t l =
    record { own = t.own; nodes = t.nodes; next = t.next; highest = t.highest; replicas = l; entries = t.entries }

abbrev pub with_entries : Table → List Listed → Table
with_entries t l =
    record { own = t.own; nodes = t.nodes; next = t.next; highest = t.highest; replicas = t.replicas; entries = l }

abbrev pub with_highest : Table → ℕ → Table
with_highest t c =
    record { own = t.own; nodes = t.nodes; next = t.next; highest = c; replicas = t.replicas; entries = t.entries }

abbrev pub with_next : Table → ℕ → Table
with_next t c =
    record { own = t.own; nodes = t.nodes; next = c; highest = t.highest; replicas = t.replicas; entries = t.entries }

-- "A fresh table has the root in slot 0 with version 1 and nothing pending, next count 1, highest clock 0."
unfoldable pub fresh : ℕ → ℕ → Table
fresh node n =
    record {
      own = node;
      nodes = n;
      next = 1;
      highest = 0;
      replicas = record { head = root_head n; version = 1; pending = 0 } ∷ [];
      entries = [];
    }

-- ---- what stands in a table: by id, and by directory, child and name

-- the first element that passes
unfoldable pub first : {A : Type 0} → (A → Bool) → List A → Option A
first f [] = none
first f (x ∷ xs) = cond (f x) (some x) (first f xs)

abbrev pub has_id : ℕ → Replica → Bool
has_id id r = eqb r.head.id id

abbrev pub find : ℕ → List Replica → Option Replica
find id rs = first (has_id id) rs

abbrev pub head_of? : Option Replica → Option Head
head_of? none = none
head_of? (some r) = some r.head

-- the head of the replica with that id, if it is held
abbrev pub head_of : Table → ℕ → Option Head
head_of t id = head_of? (find id t.replicas)

abbrev pub is_key : ℕ → ℕ → Name → Listed → Bool
is_key directory child name x =
    eqb x.directory directory && (eqb x.entry.child child && same_name x.entry.name name)

abbrev pub find_entry : ℕ → ℕ → Name → List Listed → Option Listed
find_entry directory child name xs = first (is_key directory child name) xs

abbrev pub entry_of? : Option Listed → Option Entry
entry_of? none = none
entry_of? (some x) = some x.entry

-- the entry of that directory for that child and name, if there is one
abbrev pub entry_of : Table → ℕ → ℕ → Name → Option Entry
entry_of t directory child name = entry_of? (find_entry directory child name t.entries)

-- the entries of a directory, in slot order
unfoldable pub entries_of : ℕ → List Listed → List Entry
entries_of directory [] = []
entries_of directory (x ∷ xs) = cond (eqb x.directory directory) (x.entry ∷ entries_of directory xs) (entries_of directory xs)

-- ---- the layout

-- "Table, 13,344 bytes: 32 bytes ..; 64 replica slots of 48 ..; 256 entry slots of 40 .."
abbrev pub table_size : ℕ
table_size = 13344

abbrev pub replica_slots : ℕ
replica_slots = 64

abbrev pub entry_slots : ℕ
entry_slots = 256

abbrev pub replica_slot : ℕ → ℕ
replica_slot s = 32 + 48 * s

abbrev pub entry_slot : ℕ → ℕ
entry_slot s = 3104 + 40 * s

abbrev pub header_of : Table → TableHeader
header_of t = record { own = t.own; nodes = t.nodes; next = t.next; highest = t.highest }

-- the slots' bytes, one behind the other
unfoldable pub rows : {A : Type 0} → (A → List ℕ) → List A → List ℕ
rows f [] = []
rows f (x ∷ xs) = f x ++ rows f xs

-- "used slots first", "Free slots are zero.": n bytes of slots
abbrev pub padded : ℕ → List ℕ → List ℕ
padded n l = l ++ zeros (n - length l)

unfoldable pub table_bytes : Table → List ℕ
table_bytes t =
    table_header_bytes (header_of t) ++ (padded 3072 (rows replica_bytes t.replicas) ++ padded 10240 (rows listed_bytes t.entries))

-- ---- the table that bytes are

-- how many of the n slots of that size from o on are used: the leading ones that start with the mark
unfoldable pub used : List ℕ → List ℕ → ℕ → ℕ → ℕ → ℕ
used mark l o size zero = 0
used mark l o size (suc n) = cond (marked_at l o mark) (suc (used mark l (o + size) size n)) 0

abbrev pub replicas_used : List ℕ → ℕ
replicas_used l = used head_mark l (replica_slot 0) 48 replica_slots

abbrev pub entries_used : List ℕ → ℕ
entries_used l = used entry_mark l (entry_slot 0) 40 entry_slots

-- what stands in n slots, from slot s on
unfoldable pub slots_from : {A : Type 0} → (ℕ → A) → ℕ → ℕ → List A
slots_from f s zero = []
slots_from f s (suc n) = f s ∷ slots_from f (suc s) n

-- every one of n slots passes, from slot s on
unfoldable pub every_slot : (ℕ → Bool) → ℕ → ℕ → Bool
every_slot f s zero = true
every_slot f s (suc n) = f s && every_slot f (suc s) n

abbrev pub replica_in : List ℕ → ℕ → Replica
replica_in l s = replica_at l (replica_slot s)

abbrev pub entry_in : List ℕ → ℕ → Listed
entry_in l s = listed_at l (entry_slot s)

unfoldable pub table_of : List ℕ → Table
table_of l =
    record {
      own = (table_header_of (chunk l 0 32)).own;
      nodes = (table_header_of (chunk l 0 32)).nodes;
      next = (table_header_of (chunk l 0 32)).next;
      highest = (table_header_of (chunk l 0 32)).highest;
      replicas = slots_from (replica_in l) 0 (replicas_used l);
      entries = slots_from (entry_in l) 0 (entries_used l);
    }

-- "Ranges as above; used slots first": the bytes are those of a table, and everything is in its range
unfoldable pub table_in_range : List ℕ → Bool
table_in_range l =
    eqb (length l) table_size
    && (table_header_in_range (chunk l 0 32)
    && (every_slot (λ (s : ℕ). replica_in_range (table_of l).nodes (chunk l (replica_slot s) 48)) 0 (replicas_used l)
    && (zero_at l (replica_slot (replicas_used l)) (48 * (replica_slots - replicas_used l))
    && (every_slot (λ (s : ℕ). listed_in_range (table_of l).nodes (chunk l (entry_slot s) 40)) 0 (entries_used l)
    && zero_at l (entry_slot (entries_used l)) (40 * (entry_slots - entries_used l))))))

-- the same of a table as such
abbrev pub replica_fits : ℕ → Replica → Bool
replica_fits n r = head_fits n r.head && (is_version r.version && is_set n r.pending)

abbrev pub listed_fits : ℕ → Listed → Bool
listed_fits n x = entry_fits n x.entry && is_id n x.directory

unfoldable pub fits : Table → Bool
fits t =
    table_header_fits (header_of t)
    && (leb (length t.replicas) replica_slots && (every (replica_fits t.nodes) t.replicas
    && (leb (length t.entries) entry_slots && every (listed_fits t.nodes) t.entries)))

unfoldable pub read_table : List ℕ → Option Table
read_table l = cond (table_in_range l) (some (table_of l)) none
