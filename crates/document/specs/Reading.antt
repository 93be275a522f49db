-- The table that bytes are: `read_table l` is a table t exactly if l is t's bytes and t is in range, so there is one
-- table for one byte string, and one byte string for one table. Assumes nothing.
use Rattle.std.specs.Prelude.{◌≡◌, refl, ◌↔◌, Bool, true, false, ◌&&◌, cond, eqb, leb, length, drop}
use Rattle.std.proofs.Math.Path.{ap, sym}
use Rattle.std.proofs.Common.{subst, ◌∙◌, arith, length-append, eqb-true, leb-true, ltb-true, eq-eqb, le-leb}
use Rattle.std.proofs.Math.Option.{Option, some, none}
use mathlib.Core.List.{List, [], ◌++◌, append_assoc, append-nil}
use Prim.Native.Nat.{ℕ, ◌+◌, ◌*◌, ◌-◌, ◌^◌, ◌≤◌, ◌<◌}
use Rattle.codec.specs.Bytes.{chunk, zeros, marked_at, zero_at, Bytes, u8_at}
use Rattle.codec.specs.Laws.{length_chunk, bytes_chunk, chunk_add, chunk_whole, get_or_chunk}
use Rattle.codec.specs.Lists.{every, and_true, and_both}
use Rattle.numbers.specs.Nodes.{is_within, is_size, is_node}
use Rattle.records.specs.declared.entry.Entry.{Entry}
use Rattle.records.specs.Entries.{entry_fields}
use Rattle.slots.specs.declared.table_header.TableHeader.{TableHeader}
use Rattle.slots.specs.declared.replica.Replica.{Replica}
use Rattle.slots.specs.declared.listed.Listed.{Listed}
use Rattle.slots.specs.TableHeaders.{table_mark, table_header_bytes, table_header_of, table_header_fits, table_header_in_range, TableHeaderFit, table_round, table_back, table_judged, length_table_header_bytes}
use Rattle.slots.specs.Replicas.{replica_bytes, replica_in_range}
use Rattle.slots.specs.Listings.{listed_bytes, listed_in_range, listed_fields}
use Rattle.document.specs.Tables.{Table, header_of, rows, padded, table_bytes, replicas_used, entries_used, slots_from, every_slot, replica_slot, entry_slot, replica_in, entry_in, table_of, table_in_range, replica_fits, listed_fits, fits, read_table}
use Rattle.document.specs.Rows.{length_padded, padding, used_rows, slots_rows, range_rows, zero_rows, used_le, good_slots, padded_slots, length_slots, chunk_front, drop_front, every_both, every_each}
use Rattle.document.specs.Layouts.{full_replica, full_listed, replica_layout, listed_layout}
use Rattle.document.specs.Sound.{sound, sound_bytes}

-- what a table has beside being in range: every name in it has fifteen bytes
pub record Shaped (t : Table) : Type 0 where
  pub replicas : every full_replica t.replicas ≡ true
  pub entries : every full_listed t.entries ≡ true

-- ---- written, then read

-- what being in range says of a table's parts
pub record Parts (t : Table) : Type 0 where
  pub header : table_header_fits (header_of t) ≡ true
  pub nodes : t.nodes ≤ 8
  pub next : t.next ≤ 16777216
  pub highest : t.highest < 2 ^ 40
  pub few_replicas : length t.replicas ≤ 64
  pub replicas : every (replica_fits t.nodes) t.replicas ≡ true
  pub few_entries : length t.entries ≤ 256
  pub entries : every (listed_fits t.nodes) t.entries ≡ true

-- at most eight nodes
header_nodes : (h : TableHeader) → table_header_fits h ≡ true → h.nodes ≤ 8
unfolding table_header_fits
header_nodes h e =
    let size = and_true (is_size h.nodes) _ e in
    leb-true h.nodes 8 (and_true (leb 1 h.nodes) _ size.0).1

-- test by test
pub parts_of : (t : Table) → fits t ≡ true → Parts t
unfolding fits table_header_fits
parts_of t e =
    let header = and_true (table_header_fits (header_of t)) _ e in
    let size = and_true (is_size t.nodes) _ header.0 in
    let own = and_true (is_node t.nodes t.own) _ size.1 in
    let next = and_true (is_within 1 t.next 16777216) _ own.1 in
    let few = and_true (leb (length t.replicas) 64) _ header.1 in
    let replicas = and_true (every (replica_fits t.nodes) t.replicas) _ few.1 in
    let more = and_true (leb (length t.entries) 256) _ replicas.1 in
    record {
      header = header.0;
      nodes = header_nodes (header_of t) header.0;
      next = leb-true t.next 16777216 (and_true (leb 1 t.next) _ next.0).1;
      highest = ltb-true t.highest (2 ^ 40) next.1;
      few_replicas = leb-true (length t.replicas) 64 few.0;
      replicas = replicas.0;
      few_entries = leb-true (length t.entries) 256 more.0;
      entries = more.1;
    }

-- the header fits the machine
header_fit : (t : Table) → Parts t → TableHeaderFit (header_of t)
header_fit t p = record { next = omega arith; highest = omega arith }

-- the bytes of the slots: the used ones, and zeros behind them
abbrev replica_part : Table → List ℕ
replica_part t = padded 3072 (rows replica_bytes t.replicas)

abbrev entry_part : Table → List ℕ
entry_part t = padded 10240 (rows listed_bytes t.entries)

-- how long they are
replica_part_law : (t : Table) → length t.replicas ≤ 64 → length (replica_part t) ≡ 3072
replica_part_law t h = length_padded (replica_layout 0 (omega arith)) 64 t.replicas h

entry_part_law : (t : Table) → length t.entries ≤ 256 → length (entry_part t) ≡ 10240
entry_part_law t h = length_padded (listed_layout 0 (omega arith)) 256 t.entries h

-- "Table, 13,344 bytes"
pub length_table_bytes : (t : Table) → length t.replicas ≤ 64 → length t.entries ≤ 256 →
    length (table_bytes t) ≡ 13344
unfolding table_bytes
length_table_bytes t a b =
    rw (
      length-append (table_header_bytes (header_of t)),
      length-append (replica_part t) (entry_part t),
      length_table_header_bytes,
      replica_part_law t a,
      entry_part_law t b,
    )

-- where the three parts stand
pub header_at : (t : Table) → chunk (table_bytes t) 0 32 ≡ table_header_bytes (header_of t)
unfolding table_bytes
header_at t =
    chunk_front (table_bytes t) (table_header_bytes (header_of t)) (replica_part t ++ entry_part t) 0 32 refl
    (length_table_header_bytes (header_of t))

pub replicas_at : (t : Table) →
    drop 32 (table_bytes t)
    ≡ rows replica_bytes t.replicas ++ (zeros (48 * (64 - length t.replicas)) ++ entry_part t)
unfolding table_bytes
replicas_at t =
    drop_front (table_bytes t) (table_header_bytes (header_of t)) (replica_part t ++ entry_part t) 0 32 refl
    (length_table_header_bytes (header_of t))
    ∙ append_assoc (rows replica_bytes t.replicas) _ (entry_part t)
    ∙ ap (λ (k : ℕ). rows replica_bytes t.replicas ++ (zeros k ++ entry_part t))
    (padding (replica_layout 0 (omega arith)) 64 t.replicas)

pub entries_at : (t : Table) → length t.replicas ≤ 64 →
    drop 3104 (table_bytes t) ≡ rows listed_bytes t.entries ++ (zeros (40 * (256 - length t.entries)) ++ [])
unfolding table_bytes
entries_at t h =
    drop_front (table_bytes t) (replica_part t) (entry_part t) 32 3072
    (drop_front (table_bytes t) (table_header_bytes (header_of t)) (replica_part t ++ entry_part t) 0 32 refl
    (length_table_header_bytes (header_of t)))
    (replica_part_law t h)
    ∙ ap (λ (k : ℕ). rows listed_bytes t.entries ++ zeros k) (padding (listed_layout 0 (omega arith)) 256 t.entries)
    ∙ ap (λ (r : List ℕ). rows listed_bytes t.entries ++ r)
    (sym (append-nil (zeros (40 * (256 - length t.entries)))))

-- how many slots are used
pub replicas_used_law : (t : Table) → length t.replicas ≤ 64 → replicas_used (table_bytes t) ≡ length t.replicas
replicas_used_law t h =
    used_rows (replica_layout 0 (omega arith)) (table_bytes t) (entry_part t) 32 64 t.replicas h (replicas_at t)

pub entries_used_law : (t : Table) → length t.replicas ≤ 64 → length t.entries ≤ 256 →
    entries_used (table_bytes t) ≡ length t.entries
entries_used_law t a b =
    used_rows (listed_layout 0 (omega arith)) (table_bytes t) [] 3104 256 t.entries b (entries_at t a)

-- the tests on bytes, in a table of n nodes: the used slots are in range, and the others zero
abbrev replicas_range : ℕ → List ℕ → Bool
replicas_range n l = every_slot (λ (s : ℕ). replica_in_range n (chunk l (replica_slot s) 48)) 0 (replicas_used l)

abbrev replicas_zero : List ℕ → Bool
replicas_zero l = zero_at l (replica_slot (replicas_used l)) (48 * (64 - replicas_used l))

abbrev entries_range : ℕ → List ℕ → Bool
entries_range n l = every_slot (λ (s : ℕ). listed_in_range n (chunk l (entry_slot s) 40)) 0 (entries_used l)

abbrev entries_zero : List ℕ → Bool
entries_zero l = zero_at l (entry_slot (entries_used l)) (40 * (256 - entries_used l))

-- two tables with the same parts are one
pub parts_ext : {a b : Table} → header_of a ≡ header_of b → a.replicas ≡ b.replicas → a.entries ≡ b.entries → a ≡ b
parts_ext h r e =
    λ i. record {
      own = (h i).own;
      nodes = (h i).nodes;
      next = (h i).next;
      highest = (h i).highest;
      replicas = r i;
      entries = e i;
    }

module _ (t : Table) (shape : Shaped t) (inside : fits t ≡ true) where
  -- its parts
  parts : Parts t
  parts = parts_of t inside

  -- each replica and each entry is in range, and its name has fifteen bytes
  good_replicas : every (λ (r : Replica). replica_fits t.nodes r && full_replica r) t.replicas ≡ true
  good_replicas = every_both (replica_fits t.nodes) full_replica t.replicas parts.replicas shape.replicas

  good_entries : every (λ (x : Listed). listed_fits t.nodes x && full_listed x) t.entries ≡ true
  good_entries = every_both (listed_fits t.nodes) full_listed t.entries parts.entries shape.entries

  -- the table that its bytes are
  pub table_of_bytes : table_of (table_bytes t) ≡ t
  unfolding table_of
  table_of_bytes =
      parts_ext (ap table_header_of (header_at t) ∙ table_round (header_of t) (header_fit t parts))
      (ap (slots_from (replica_in (table_bytes t)) 0) (replicas_used_law t parts.few_replicas)
      ∙ slots_rows (replica_layout t.nodes parts.nodes) (table_bytes t) _ 32 0 t.replicas good_replicas
      (replicas_at t))
      (ap (slots_from (entry_in (table_bytes t)) 0) (entries_used_law t parts.few_replicas parts.few_entries)
      ∙ slots_rows (listed_layout t.nodes parts.nodes) (table_bytes t) _ 3104 0 t.entries good_entries
      (entries_at t parts.few_replicas))

  -- its bytes are in range: the used slots, the others, and all of them
  replicas_range_law : (n : ℕ) → n ≡ t.nodes → replicas_range n (table_bytes t) ≡ true
  replicas_range_law n e =
      rw (e, replicas_used_law t parts.few_replicas)
      (range_rows (replica_layout t.nodes parts.nodes) (table_bytes t) _ 32 0 t.replicas good_replicas
      (replicas_at t))

  replicas_zero_law : replicas_zero (table_bytes t) ≡ true
  replicas_zero_law =
      rw (replicas_used_law t parts.few_replicas)
      (zero_rows (replica_layout t.nodes parts.nodes) (table_bytes t) _ 32 _ t.replicas (replicas_at t))

  entries_range_law : (n : ℕ) → n ≡ t.nodes → entries_range n (table_bytes t) ≡ true
  entries_range_law n e =
      rw (e, entries_used_law t parts.few_replicas parts.few_entries)
      (range_rows (listed_layout t.nodes parts.nodes) (table_bytes t) _ 3104 0 t.entries good_entries
      (entries_at t parts.few_replicas))

  entries_zero_law : entries_zero (table_bytes t) ≡ true
  entries_zero_law =
      rw (entries_used_law t parts.few_replicas parts.few_entries)
      (zero_rows (listed_layout t.nodes parts.nodes) (table_bytes t) _ 3104 _ t.entries
      (entries_at t parts.few_replicas))

  pub bytes_in_range : table_in_range (table_bytes t) ≡ true
  unfolding table_in_range
  bytes_in_range =
      let l : List ℕ = table_bytes t in
      let nodes : (table_of l).nodes ≡ t.nodes = ap (λ (u : Table). u.nodes) table_of_bytes in
      and_both (eq-eqb (length l) 13344 (length_table_bytes t parts.few_replicas parts.few_entries))
      (and_both (ap table_header_in_range (header_at t) ∙ table_judged (header_of t) (header_fit t parts) ∙ parts.header)
      (and_both (replicas_range_law (table_of l).nodes nodes)
      (and_both replicas_zero_law
      (and_both (entries_range_law (table_of l).nodes nodes) entries_zero_law))))

  -- a table in range is read from its bytes
  pub read_write : read_table (table_bytes t) ≡ some t
  unfolding read_table
  read_write = rw bytes_in_range (ap some table_of_bytes)

-- two tables with the same bytes are one
pub table_bytes_injective : (t u : Table) → Shaped t → fits t ≡ true → Shaped u → fits u ≡ true →
    table_bytes t ≡ table_bytes u → t ≡ u
table_bytes_injective t u st ft su fu e = sym (table_of_bytes t st ft) ∙ ap table_of e ∙ table_of_bytes u su fu

-- ---- read, then written

-- what being in range says of the bytes
record Ranges (l : List ℕ) : Type 0 where
  size : length l ≡ 13344
  header : table_header_in_range (chunk l 0 32) ≡ true
  replicas : replicas_range (table_of l).nodes l ≡ true
  replicas_zero_law : replicas_zero l ≡ true
  entries : entries_range (table_of l).nodes l ≡ true
  entries_zero_law : entries_zero l ≡ true

-- the used slots are within the table
pub few_replicas : (l : List ℕ) → replicas_used l ≤ 64
few_replicas l = used_le (replica_layout 0 (omega arith)) l 32 64

pub few_entries : (l : List ℕ) → entries_used l ≤ 256
few_entries l = used_le (listed_layout 0 (omega arith)) l 3104 256

-- test by test
ranges_of : (l : List ℕ) → table_in_range l ≡ true → Ranges l
unfolding table_in_range
ranges_of l e =
    let size = and_true (eqb (length l) 13344) _ e in
    let header = and_true (table_header_in_range (chunk l 0 32)) _ size.1 in
    let replicas = and_true (replicas_range (table_of l).nodes l) _ header.1 in
    let free = and_true (replicas_zero l) _ replicas.1 in
    let entries = and_true (entries_range (table_of l).nodes l) _ free.1 in
    record {
      size = eqb-true (length l) 13344 size.0;
      header = header.0;
      replicas = replicas.0;
      replicas_zero_law = free.0;
      entries = entries.0;
      entries_zero_law = entries.1;
    }

module _ (l : List ℕ) (inside : table_in_range l ≡ true) where
  -- their parts
  ranges : Ranges l
  ranges = ranges_of l inside

  -- the header is in range, so there are at most eight nodes
  header_fits : table_header_fits (header_of (table_of l)) ≡ true
  unfolding table_header_in_range table_of
  header_fits =
      let c : List ℕ = chunk l 0 32 in
      (and_true (zero_at c 16 16) _ (and_true (marked_at c 0 table_mark) _ ranges.header).1).1

  few_nodes : (table_of l).nodes ≤ 8
  few_nodes = header_nodes (header_of (table_of l)) header_fits

  -- each replica and each entry is in range, and its name has fifteen bytes
  replicas_good :
      (every (replica_fits (table_of l).nodes) (table_of l).replicas ≡ true)
      × (every full_replica (table_of l).replicas ≡ true)
  unfolding table_of
  replicas_good =
      every_each (replica_fits (table_of l).nodes) full_replica (table_of l).replicas
      (good_slots (replica_layout (table_of l).nodes few_nodes) l 32 0 (replicas_used l)
      (omega (arith, few_replicas l, ranges.size)) ranges.replicas)

  entries_good :
      (every (listed_fits (table_of l).nodes) (table_of l).entries ≡ true)
      × (every full_listed (table_of l).entries ≡ true)
  unfolding table_of
  entries_good =
      every_each (listed_fits (table_of l).nodes) full_listed (table_of l).entries
      (good_slots (listed_layout (table_of l).nodes few_nodes) l 3104 0 (entries_used l)
      (omega (arith, few_entries l, ranges.size)) ranges.entries)

  -- the table that bytes in range are is in range, and every name in it has fifteen bytes
  pub table_shaped : Shaped (table_of l)
  table_shaped = record { replicas = replicas_good.1; entries = entries_good.1 }

  pub table_in_range_law : fits (table_of l) ≡ true
  unfolding fits table_of
  table_in_range_law =
      and_both header_fits
      (and_both (le-leb (length (table_of l).replicas) 64 (rw length_slots (few_replicas l)))
      (and_both replicas_good.0
      (and_both (le-leb (length (table_of l).entries) 256 (rw length_slots (few_entries l))) entries_good.0)))

  -- its bytes are those
  pub bytes_of_table : Bytes l → table_bytes (table_of l) ≡ l
  unfolding table_bytes table_of
  bytes_of_table y =
      let header : table_header_bytes (table_header_of (chunk l 0 32)) ≡ chunk l 0 32 =
      table_back (chunk l 0 32) (length_chunk l 0 32 (omega (arith, ranges.size))) (bytes_chunk l 0 32 y)
      ranges.header in
      let replicas : replica_part (table_of l) ≡ chunk l 32 3072 =
      padded_slots (replica_layout (table_of l).nodes few_nodes) l 32 64 (replicas_used l) y
      (omega (arith, ranges.size)) (few_replicas l) ranges.replicas ranges.replicas_zero_law in
      let entries : entry_part (table_of l) ≡ chunk l 3104 10240 =
      padded_slots (listed_layout (table_of l).nodes few_nodes) l 3104 256 (entries_used l) y
      (omega (arith, ranges.size)) (few_entries l) ranges.entries ranges.entries_zero_law in
      ap (λ (c : List ℕ). c ++ (replica_part (table_of l) ++ entry_part (table_of l))) header
      ∙ ap (λ (c : List ℕ). chunk l 0 32 ++ (c ++ entry_part (table_of l))) replicas
      ∙ ap (λ (c : List ℕ). chunk l 0 32 ++ (chunk l 32 3072 ++ c)) entries
      ∙ ap (λ (c : List ℕ). chunk l 0 32 ++ c) (sym (chunk_add l 32 3072 10240))
      ∙ sym (chunk_add l 0 32 13312)
      ∙ chunk_whole l 13344 ranges.size

-- ---- sound bytes

-- they are as long as a table, the table that they are is sound, and every name in it has fifteen bytes
module _ (l : List ℕ) (s : sound_bytes l ≡ true) where
  pub sound_length : 13344 ≤ length l
  unfolding sound_bytes
  sound_length = omega (arith, (ranges_of l (and_true (table_in_range l) _ s).0).size)

  pub bytes_sound : sound (table_of l) ≡ true
  unfolding sound sound_bytes
  bytes_sound = let p = and_true (table_in_range l) _ s in and_both (table_in_range_law l p.0) p.1

  pub sound_shaped : Shaped (table_of l)
  unfolding sound_bytes
  sound_shaped = table_shaped l (and_true (table_in_range l) _ s).0

-- ---- fields, read in place

-- whose table it is
pub own_at : (l : List ℕ) → u8_at l 2 ≡ (table_of l).own
unfolding table_of table_header_of
own_at l = sym (get_or_chunk l 0 32 2 (omega arith))

-- whether an entry is live
pub live_at : (l : List ℕ) (s : ℕ) → (entry_in l s).entry.live ≡ u8_at l (entry_slot s + 2)
live_at l s =
    ap (λ (x : Listed). x.entry.live) (listed_fields l (entry_slot s))
    ∙ ap (λ (e : Entry). e.live) (entry_fields l (entry_slot s))

-- ---- exactly

-- what is read from bytes is a table in range, and the bytes are its own
pub write_read : (l : List ℕ) → Bytes l → (t : Table) → read_table l ≡ some t →
    (l ≡ table_bytes t) × (fits t ≡ true) × Shaped t
unfolding read_table
write_read l y t e = go (table_in_range l) refl e
  where
    go : (b : Bool) → table_in_range l ≡ b → ◌≡◌ {A = Option Table} (cond b (some (table_of l)) none) (some t) →
        (l ≡ table_bytes t) × (fits t ≡ true) × Shaped t
    go true r q =
        let same : table_of l ≡ t = cc in (
          sym (bytes_of_table l r y) ∙ ap table_bytes same,
          ap fits (sym same) ∙ table_in_range_law l r,
          subst Shaped same (table_shaped l r),
        )
    go false r q = let z : ◌≡◌ {A = ℕ} 0 1 = cc in absurd (omega arith)

-- both: bytes are read as a table exactly if they are its bytes and it is in range
pub read_exactly : (l : List ℕ) → Bytes l → (t : Table) →
    (read_table l ≡ some t) ↔ ((l ≡ table_bytes t) × (fits t ≡ true) × Shaped t)
read_exactly l y t = (write_read l y t, λ h. ap read_table h.0 ∙ read_write t h.2 h.1)
