-- A slot in its range, and what a table in its range says of N. What the contracts of `table::range` cite.
-- Assumes nothing.
use Rattle.std.specs.Prelude.{◌≡◌, refl, Bool, true, false, ◌&&◌, List, ℕ, ◌*◌, ◌-◌, ◌≤◌, eqb, leb, length}
use Rattle.std.proofs.Common.{ap, sym, ◌∙◌, arith, leb-true, eq-eqb, ne_eqb, eqb-true}
use Rattle.std.proofs.Math.Bool.{and_assoc}
use Rattle.codec.specs.Bytes.{chunk, u8_at, marked_at, zero_at}
use Rattle.codec.specs.Laws.{get_or_chunk}
use Rattle.codec.specs.Lists.{and_go, and_stop, and_true}
use Rattle.numbers.specs.Nodes.{is_size}
use Rattle.slots.specs.TableHeaders.{table_mark, table_header_of, table_header_fits, table_header_in_range}
use Rattle.slots.specs.Replicas.{replica_in_range}
use Rattle.slots.specs.Listings.{listed_in_range}
use Rattle.document.specs.Tables.{replica_slot, entry_slot, replicas_used, entries_used, every_slot, table_of, table_in_range}

abbrev pub replica_slot_fits : ℕ → List ℕ → ℕ → Bool
replica_slot_fits n l s = replica_in_range n (chunk l (replica_slot s) 48)

abbrev pub entry_slot_fits : ℕ → List ℕ → ℕ → Bool
entry_slot_fits n l s = listed_in_range n (chunk l (entry_slot s) 40)

-- N, read in place
pub nodes_at : (l : List ℕ) → u8_at l 3 ≡ (table_of l).nodes
unfolding table_of table_header_of
nodes_at l = sym (get_or_chunk l 0 32 3 (omega arith))

-- "N at most 8"
pub nodes_most : (c : List ℕ) → table_header_in_range c ≡ true → (table_header_of c).nodes ≤ 8
unfolding table_header_in_range table_header_fits
nodes_most c r =
    let a = and_true (marked_at c 0 table_mark) _ r in
    let b = and_true (zero_at c 16 16) _ a.1 in
    let d = and_true (is_size (table_header_of c).nodes) _ b.1 in
    leb-true _ _ (and_true (leb 1 (table_header_of c).nodes) _ d.0).1

-- the judgement, over the numbers that the code has read
pub range_tests : (l : List ℕ) (n m k : ℕ) → n ≡ (table_of l).nodes → m ≡ replicas_used l → k ≡ entries_used l →
    table_in_range l
    ≡ (eqb (length l) 13344
    && (table_header_in_range (chunk l 0 32)
    && (every_slot (replica_slot_fits n l) 0 m
    && (zero_at l (replica_slot m) (48 * (64 - m))
    && (every_slot (entry_slot_fits n l) 0 k && zero_at l (entry_slot k) (40 * (256 - k)))))))
unfolding table_in_range
range_tests l n m k p q r = rw (p, q, r)

-- the same of a string that is as long as a table, kind by kind of slots
pub range_halves : (l : List ℕ) (m k : ℕ) → length l ≡ 13344 → m ≡ replicas_used l → k ≡ entries_used l →
    table_in_range l
    ≡ (table_header_in_range (chunk l 0 32)
    && ((every_slot (replica_slot_fits (u8_at l 3) l) 0 m && zero_at l (replica_slot m) (48 * (64 - m)))
    && (every_slot (entry_slot_fits (u8_at l 3) l) 0 k && zero_at l (entry_slot k) (40 * (256 - k)))))
range_halves l m k size q r =
    let n = u8_at l 3 in
    range_tests l n m k (nodes_at l) q r
    ∙ sym (and_go (eqb (length l) 13344) _ (eq-eqb (length l) 13344 size) refl)
    ∙ ap (λ (b : Bool). table_header_in_range (chunk l 0 32) && b)
    (sym (and_assoc (every_slot (replica_slot_fits n l) 0 m) (zero_at l (replica_slot m) (48 * (64 - m)))
    (every_slot (entry_slot_fits n l) 0 k && zero_at l (entry_slot k) (40 * (256 - k)))))

-- a header in its range has at most 8 nodes
pub header_nodes : (l : List ℕ) → table_header_in_range (chunk l 0 32) ≡ true → u8_at l 3 ≤ 8
unfolding table_of
header_nodes l r = omega (arith, nodes_at l, nodes_most (chunk l 0 32) r)

-- a table in its range is as long as a table, and has at most 8 nodes
pub range_length : (l : List ℕ) → table_in_range l ≡ true → length l ≡ 13344
unfolding table_in_range
range_length l r = eqb-true (length l) 13344 (and_true (eqb (length l) 13344) _ r).0

pub range_nodes : (l : List ℕ) → table_in_range l ≡ true → u8_at l 3 ≤ 8
unfolding table_in_range table_of
range_nodes l r =
    let a = and_true (eqb (length l) 13344) _ r in
    let b = and_true (table_header_in_range (chunk l 0 32)) _ a.1 in
    omega (arith, nodes_at l, nodes_most (chunk l 0 32) b.0)

-- a string that is not as long as a table is none in its range
pub range_other : (l : List ℕ) → (length l ≡ 13344 → ⊥) → table_in_range l ≡ false
unfolding table_in_range
range_other l n = sym (and_stop (eqb (length l) 13344) _ (ne_eqb _ _ n))
