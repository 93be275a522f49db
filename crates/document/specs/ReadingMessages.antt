-- The push and the acknowledgement that bytes are: `read_push n l` is a push p exactly if l is p's bytes and p is in
-- range and hangs together, and `read_ack n l` is an acknowledgement likewise. So there is one message for one byte
-- string, and one byte string for one message. Assumes nothing.
use Rattle.std.specs.Prelude.{◌≡◌, ◌↔◌, Bool, false, ◌&&◌, cond, eqb, leb, take, drop}
use Rattle.std.proofs.Math.Path.{refl, ap}
use Rattle.std.proofs.Common.{sym, subst, ◌∙◌, add-zero, length-append, eqb-true, leb-true, eq-eqb, le-leb}
use Rattle.std.proofs.Math.Bool.{true, not}
use Rattle.std.proofs.Math.Option.{Option, some, none}
use mathlib.Core.List.{List, [], ◌∷◌, ◌++◌, append-nil}
use Prim.Native.Nat.{ℕ, suc, ◌+◌, ◌*◌, ◌-◌, ◌≤◌}
use native.Mathlib.Omega.{arith}
use Rattle.std.proofs.Math.ListN.{length}
use Rattle.codec.specs.Bytes.{chunk, zeros, same_bytes, marked_at, zero_at, Bytes}
use Rattle.codec.specs.Laws.{length_chunk, bytes_chunk, chunk_add, chunk_whole}
use Rattle.codec.specs.Lists.{every, and_true, and_both}
use Rattle.numbers.specs.Nodes.{is_within, is_node}
use Rattle.numbers.specs.Ids.{is_version}
use Rattle.records.specs.declared.head.Head.{Head}
use Rattle.records.specs.declared.entry.Entry.{Entry}
use Rattle.records.specs.Heads.{head_mark, head_bytes, head_of, head_at, head_fits, head_in_range, head_round, head_back, head_judged, length_head_bytes}
use Rattle.records.specs.Entries.{entry_mark, entry_bytes, entry_of, entry_at, entry_fits, entry_in_range, entry_round, entry_back, entry_judged, length_entry_bytes}
use Rattle.messages.specs.declared.acknowledgement.Acknowledgement.{Acknowledgement}
use Rattle.messages.specs.declared.push_header.PushHeader.{PushHeader}
use Rattle.messages.specs.Acknowledgements.{ack_mark, ack_bytes, ack_of, ack_fits, ack_in_range, AcknowledgementFit, ack_round, ack_back, ack_judged, length_ack_bytes}
use Rattle.messages.specs.PushHeaders.{push_mark, push_bytes, push_of, push_fits, push_in_range, PushHeaderFit, push_round, push_back, push_judged, push_ext, length_push_bytes}
use Rattle.document.specs.Tables.{rows, slots_from, every_slot}
use Rattle.document.specs.Messages.{Push, header_of_push, message_bytes, head_spot, entry_spot, message_of, message_in_range, hangs_together, read_push, read_ack}
use Rattle.document.specs.Rows.{Layout, length_rows, slots_rows, range_rows, rows_slots, good_slots, length_slots, chunk_front, drop_front, every_both, every_each}
use Rattle.document.specs.Layouts.{is_full, version_below, id_below, head_fit, entry_fit, head_range_fits, entry_range_fits, head_full, entry_full}

-- ---- heads and entries, each as a layout of `Rows`

-- the name in a head, and in an entry, has its fifteen bytes
abbrev pub full_head : Head → Bool
full_head h = is_full h.name

abbrev pub full_entry : Entry → Bool
full_entry e = is_full e.name

-- each starts with its mark, and zeros do not
head_marked : (h : Head) (r : List ℕ) → same_bytes (take 2 (head_bytes h ++ r)) head_mark ≡ true
unfolding head_bytes same_bytes
head_marked h r = refl

entry_marked : (e : Entry) (r : List ℕ) → same_bytes (take 2 (entry_bytes e ++ r)) entry_mark ≡ true
unfolding entry_bytes same_bytes
entry_marked e r = refl

head_unmarked : (r : List ℕ) → same_bytes (take 2 (zeros 40 ++ r)) head_mark ≡ false
unfolding same_bytes
head_unmarked r = refl

entry_unmarked : (r : List ℕ) → same_bytes (take 2 (zeros 32 ++ r)) entry_mark ≡ false
unfolding same_bytes
entry_unmarked r = refl

-- for N = n
abbrev head_layout : (n : ℕ) → n ≤ 8 → Layout Head
head_layout n m =
    record {
      bytes = head_bytes;
      of = head_of;
      width = 40;
      mark = head_mark;
      in_range = head_in_range n;
      is_good = λ h. head_fits n h && full_head h;
      sized = length_head_bytes;
      marked = head_marked;
      unmarked = head_unmarked;
      round = λ h e. let p = and_true (head_fits n h) _ e in head_round h (head_fit n h m p.0 p.1);
      judged = λ h e.
          let p = and_true (head_fits n h) _ e in head_judged n h (head_fit n h m p.0 p.1) ∙ p.0;
      back = head_back n;
      good = λ c f e. and_both (head_range_fits n c e) (head_full c f);
    }

abbrev entry_layout : (n : ℕ) → n ≤ 8 → Layout Entry
entry_layout n m =
    record {
      bytes = entry_bytes;
      of = entry_of;
      width = 32;
      mark = entry_mark;
      in_range = entry_in_range n;
      is_good = λ e. entry_fits n e && full_entry e;
      sized = length_entry_bytes;
      marked = entry_marked;
      unmarked = entry_unmarked;
      round = λ x e. let p = and_true (entry_fits n x) _ e in entry_round x (entry_fit n x m p.0 p.1);
      judged = λ x e.
          let p = and_true (entry_fits n x) _ e in entry_judged n x (entry_fit n x m p.0 p.1) ∙ p.0;
      back = entry_back n;
      good = λ c f e. and_both (entry_range_fits n c e) (entry_full c f);
    }

-- ---- a push in range

-- its heads, the pushed replica's first
abbrev pub heads_of : Push → List Head
heads_of p = p.first ∷ p.above

-- the head that stands i-th in a message
abbrev pub head_in : List ℕ → ℕ → Head
head_in l i = head_at l (head_spot i)

-- what a push has beside being in range: every name in it has fifteen bytes
pub record ShapedPush (p : Push) : Type 0 where
  pub heads : every full_head (heads_of p) ≡ true
  pub entries : every full_entry p.entries ≡ true

-- the header with its counts, from and to, every head and every entry are in range, and the whole hangs together
unfoldable pub message_fits : ℕ → Push → Bool
message_fits n p =
    push_fits n (header_of_push p)
    && (not (eqb p.sender p.addressee)
    && (every (head_fits n) (heads_of p) && (every (entry_fits n) p.entries && hangs_together p)))

-- the same, test by test
pub record PushParts (n : ℕ) (p : Push) : Type 0 where
  pub header : push_fits n (header_of_push p) ≡ true
  pub apart : not (eqb p.sender p.addressee) ≡ true
  pub heads : every (head_fits n) (heads_of p) ≡ true
  pub entries : every (entry_fits n) p.entries ≡ true
  pub together : hangs_together p ≡ true

pub push_parts_law : (n : ℕ) (p : Push) → message_fits n p ≡ true → PushParts n p
unfolding message_fits
push_parts_law n p e =
    let header = and_true (push_fits n (header_of_push p)) _ e in
    let apart = and_true (not (eqb p.sender p.addressee)) _ header.1 in
    let heads = and_true (every (head_fits n) (heads_of p)) _ apart.1 in
    let entries = and_true (every (entry_fits n) p.entries) _ heads.1 in
    record { header = header.0; apart = apart.0; heads = heads.0; entries = entries.0; together = entries.1 }

-- a header in range fits the machine
header_fit : (n : ℕ) (h : PushHeader) → push_fits n h ≡ true → PushHeaderFit h
unfolding push_fits
header_fit n h e =
    let sender = and_true (is_node n h.sender) _ e in
    let addressee = and_true (is_node n h.addressee) _ sender.1 in
    record { version = version_below h.version (and_true (is_version h.version) _ addressee.1).0 }

-- and there is a head
some_heads : (n : ℕ) (h : PushHeader) → push_fits n h ≡ true → 1 ≤ h.heads
unfolding push_fits
some_heads n h e =
    let sender = and_true (is_node n h.sender) _ e in
    let addressee = and_true (is_node n h.addressee) _ sender.1 in
    let version = and_true (is_version h.version) _ addressee.1 in
    let heads = and_true (is_within 1 h.heads 16) _ version.1 in
    leb-true 1 h.heads (and_true (leb 1 h.heads) _ heads.0).0

-- ---- the push that bytes are, and its tests, by the header

-- the push, with that header
abbrev push_with : PushHeader → List ℕ → Push
push_with h l =
    record {
      sender = h.sender;
      addressee = h.addressee;
      version = h.version;
      first = head_at l (head_spot 0);
      above = slots_from (λ (i : ℕ). head_at l (head_spot i)) 1 (h.heads - 1);
      entries = slots_from (λ (i : ℕ). entry_at l (entry_spot h.heads i)) 0 h.entries;
    }

-- all heads, and all entries, are in range
abbrev heads_range : ℕ → PushHeader → List ℕ → Bool
heads_range n h l = every_slot (λ (i : ℕ). head_in_range n (chunk l (head_spot i) 40)) 0 h.heads

abbrev entries_range : ℕ → PushHeader → List ℕ → Bool
entries_range n h l = every_slot (λ (i : ℕ). entry_in_range n (chunk l (entry_spot h.heads i) 32)) 0 h.entries

-- two pushes with the same parts are one
pub message_ext : {a b : Push} → a.sender ≡ b.sender → a.addressee ≡ b.addressee → a.version ≡ b.version →
    heads_of a ≡ heads_of b → a.entries ≡ b.entries → a ≡ b
message_ext {a} {b} s t v h e =
    let first : a.first ≡ b.first = cc in
    let above : a.above ≡ b.above = cc in
    λ i. record { sender = s i; addressee = t i; version = v i; first = first i; above = above i; entries = e i }

-- ---- written, then read

-- how long a push is
pub length_message_bytes : (p : Push) →
    length (message_bytes p) ≡ 16 + 40 * suc (length p.above) + 32 * length p.entries
unfolding message_bytes
length_message_bytes p =
    rw (
      length-append (push_bytes (header_of_push p)),
      length-append (rows head_bytes (heads_of p)),
      length_push_bytes,
      length_rows (head_layout 0 (omega arith)) (heads_of p),
      length_rows (entry_layout 0 (omega arith)) p.entries,
    )
    (omega arith)

-- where the three parts stand
header_at : (p : Push) → chunk (message_bytes p) 0 16 ≡ push_bytes (header_of_push p)
unfolding message_bytes
header_at p =
    chunk_front (message_bytes p) (push_bytes (header_of_push p)) _ 0 16 refl (length_push_bytes (header_of_push p))

heads_at : (p : Push) → drop 16 (message_bytes p) ≡ rows head_bytes (heads_of p) ++ rows entry_bytes p.entries
unfolding message_bytes
heads_at p =
    drop_front (message_bytes p) (push_bytes (header_of_push p)) _ 0 16 refl (length_push_bytes (header_of_push p))

entries_at : (p : Push) →
    drop (entry_spot (suc (length p.above)) 0) (message_bytes p) ≡ rows entry_bytes p.entries ++ []
entries_at p =
    ap (λ (o : ℕ). drop o (message_bytes p)) (add-zero (16 + 40 * suc (length p.above)))
    ∙ drop_front (message_bytes p) (rows head_bytes (heads_of p)) (rows entry_bytes p.entries) 16 _ (heads_at p)
    (length_rows (head_layout 0 (omega arith)) (heads_of p))
    ∙ sym (append-nil (rows entry_bytes p.entries))

module _ (n : ℕ) (p : Push) (m : n ≤ 8) (shape : ShapedPush p) (inside : message_fits n p ≡ true) where
  -- its parts
  parts : PushParts n p
  parts = push_parts_law n p inside

  -- each head and each entry is in range, and its name has fifteen bytes
  good_heads : every (λ (h : Head). head_fits n h && full_head h) (heads_of p) ≡ true
  good_heads = every_both (head_fits n) full_head (heads_of p) parts.heads shape.heads

  good_entries : every (λ (e : Entry). entry_fits n e && full_entry e) p.entries ≡ true
  good_entries = every_both (entry_fits n) full_entry p.entries parts.entries shape.entries

  -- the header that its bytes are
  header_of_bytes : push_of (chunk (message_bytes p) 0 16) ≡ header_of_push p
  header_of_bytes = ap push_of (header_at p) ∙ push_round (header_of_push p) (header_fit n _ parts.header)

  -- the push that its bytes are
  with_header_law : push_with (header_of_push p) (message_bytes p) ≡ p
  unfolding slots_from
  with_header_law =
      let l : List ℕ = message_bytes p in
      let f : ℕ → Head = λ i. head_at l (head_spot i) in
      let count : suc (length p.above) - 1 ≡ length p.above = omega arith in
      message_ext refl refl refl
      (ap (λ (k : ℕ). f 0 ∷ slots_from f 1 k) count
      ∙ slots_rows (head_layout n m) l _ 16 0 (heads_of p) good_heads (heads_at p))
      (slots_rows (entry_layout n m) l [] _ 0 p.entries good_entries (entries_at p))

  pub push_of_bytes : message_of (message_bytes p) ≡ p
  unfolding message_of
  push_of_bytes = ap (λ (h : PushHeader). push_with h (message_bytes p)) header_of_bytes ∙ with_header_law

  -- its bytes are in range: the heads, the entries, and all of them
  heads_range_law : heads_range n (header_of_push p) (message_bytes p) ≡ true
  heads_range_law = range_rows (head_layout n m) (message_bytes p) _ 16 0 (heads_of p) good_heads (heads_at p)

  entries_range_law : entries_range n (header_of_push p) (message_bytes p) ≡ true
  entries_range_law = range_rows (entry_layout n m) (message_bytes p) [] _ 0 p.entries good_entries (entries_at p)

  pub message_in_range_law : message_in_range n (message_bytes p) ≡ true
  unfolding message_in_range
  message_in_range_law =
      let l : List ℕ = message_bytes p in
      let size : length l ≡ entry_spot (suc (length p.above)) (length p.entries) = length_message_bytes p in
      let header : push_in_range n (chunk l 0 16) ≡ true =
      ap (push_in_range n) (header_at p) ∙ push_judged n _ (header_fit n _ parts.header) ∙ parts.header in
      rw header_of_bytes
      (and_both (le-leb 16 (length l) (omega arith))
      (and_both header
      (and_both parts.apart (and_both (eq-eqb (length l) _ size) (and_both heads_range_law entries_range_law)))))

  -- a push in range is read from its bytes
  pub push_read_write : read_push n (message_bytes p) ≡ some p
  unfolding read_push
  push_read_write = rw (message_in_range_law, push_of_bytes, parts.together)

-- two pushes with the same bytes are one
pub message_bytes_injective : (n : ℕ) (p q : Push) → n ≤ 8 → ShapedPush p → message_fits n p ≡ true →
    ShapedPush q → message_fits n q ≡ true → message_bytes p ≡ message_bytes q → p ≡ q
message_bytes_injective n p q m sp fp sq fq e =
    sym (push_of_bytes n p m sp fp) ∙ ap message_of e ∙ push_of_bytes n q m sq fq

-- ---- read, then written

-- the header of the bytes
abbrev top : List ℕ → PushHeader
top l = push_of (chunk l 0 16)

-- what being in range says of the bytes
record Ranges (n : ℕ) (l : List ℕ) : Type 0 where
  least : 16 ≤ length l
  header : push_in_range n (chunk l 0 16) ≡ true
  apart : not (eqb (top l).sender (top l).addressee) ≡ true
  size : length l ≡ 16 + 40 * (top l).heads + 32 * (top l).entries
  heads : heads_range n (top l) l ≡ true
  entries : entries_range n (top l) l ≡ true

-- test by test
ranges_of : (n : ℕ) (l : List ℕ) → message_in_range n l ≡ true → Ranges n l
unfolding message_in_range
ranges_of n l e =
    let h : PushHeader = top l in
    let least = and_true (leb 16 (length l)) _ e in
    let header = and_true (push_in_range n (chunk l 0 16)) _ least.1 in
    let apart = and_true (not (eqb h.sender h.addressee)) _ header.1 in
    let size = and_true (eqb (length l) (entry_spot h.heads h.entries)) _ apart.1 in
    let heads = and_true (heads_range n h l) _ size.1 in
    record {
      least = leb-true 16 (length l) least.0;
      header = header.0;
      apart = apart.0;
      size = eqb-true (length l) _ size.0;
      heads = heads.0;
      entries = heads.1;
    }

module _ (n : ℕ) (l : List ℕ) (m : n ≤ 8) (inside : message_in_range n l ≡ true) where
  -- their parts
  ranges : Ranges n l
  ranges = ranges_of n l inside

  -- the header is in range, so there is a head
  header_fits : push_fits n (top l) ≡ true
  unfolding push_in_range
  header_fits =
      let c : List ℕ = chunk l 0 16 in
      (and_true (zero_at c 10 6) _ (and_true (marked_at c 0 push_mark) _ ranges.header).1).1

  one_head : suc ((top l).heads - 1) ≡ (top l).heads
  one_head = omega (arith, some_heads n (top l) header_fits)

  -- the header and the heads of the push that they are
  header_of_message : header_of_push (message_of l) ≡ top l
  unfolding message_of
  header_of_message = push_ext refl refl refl (rw length_slots one_head) (rw length_slots)

  heads_of_message : heads_of (message_of l) ≡ slots_from (λ (i : ℕ). head_at l (head_spot i)) 0 (top l).heads
  unfolding message_of slots_from
  heads_of_message = ap (slots_from (λ (i : ℕ). head_at l (head_spot i)) 0) one_head

  -- each head and each entry is in range, and its name has fifteen bytes
  heads_good :
      (every (head_fits n) (heads_of (message_of l)) ≡ true) × (every full_head (heads_of (message_of l)) ≡ true)
  heads_good =
      every_each (head_fits n) full_head (heads_of (message_of l))
      (rw heads_of_message
      (good_slots (head_layout n m) l 16 0 (top l).heads (omega (arith, ranges.size)) ranges.heads))

  entries_good :
      (every (entry_fits n) (message_of l).entries ≡ true) × (every full_entry (message_of l).entries ≡ true)
  unfolding message_of
  entries_good =
      every_each (entry_fits n) full_entry (message_of l).entries
      (good_slots (entry_layout n m) l _ 0 (top l).entries (omega (arith, ranges.size)) ranges.entries)

  -- the push that bytes in range are is in range if it hangs together, and every name in it has fifteen bytes
  pub message_shaped : ShapedPush (message_of l)
  message_shaped = record { heads = heads_good.1; entries = entries_good.1 }

  pub message_fits_law : hangs_together (message_of l) ≡ true → message_fits n (message_of l) ≡ true
  unfolding message_fits
  message_fits_law together =
      let same : header_of_push (message_of l) ≡ top l = header_of_message in
      and_both (ap (push_fits n) same ∙ header_fits)
      (and_both (ap (λ (h : PushHeader). not (eqb h.sender h.addressee)) same ∙ ranges.apart)
      (and_both heads_good.0 (and_both entries_good.0 together)))

  -- its bytes are those: the header, the heads, the entries, and all of them
  header_back : Bytes l → push_bytes (header_of_push (message_of l)) ≡ chunk l 0 16
  header_back y =
      ap push_bytes header_of_message
      ∙ push_back n (chunk l 0 16) (length_chunk l 0 16 ranges.least) (bytes_chunk l 0 16 y) ranges.header

  heads_back : Bytes l → rows head_bytes (heads_of (message_of l)) ≡ chunk l 16 (40 * (top l).heads)
  heads_back y =
      ap (rows head_bytes) heads_of_message
      ∙ rows_slots (head_layout n m) l 16 0 (top l).heads y (omega (arith, ranges.size)) ranges.heads

  entries_back : Bytes l →
      rows entry_bytes (message_of l).entries ≡ chunk l (16 + 40 * (top l).heads) (32 * (top l).entries)
  unfolding message_of
  entries_back y =
      rows_slots (entry_layout n m) l (16 + 40 * (top l).heads) 0 (top l).entries y (omega (arith, ranges.size))
      ranges.entries
      ∙ ap (λ (o : ℕ). chunk l o (32 * (top l).entries)) (add-zero (16 + 40 * (top l).heads))

  pub bytes_of_message : Bytes l → message_bytes (message_of l) ≡ l
  unfolding message_bytes
  bytes_of_message y =
      let a : ℕ = 40 * (top l).heads in
      let b : ℕ = 32 * (top l).entries in
      rw (header_back y, heads_back y, entries_back y, ← chunk_add l 16 a b, ← chunk_add l 0 16 (a + b))
      (chunk_whole l (16 + (a + b)) (omega (arith, ranges.size)))

-- what is read was found in range
pub read_some : {A : Type 0} (b : Bool) {x y : A} → ◌≡◌ {A = Option A} (cond b (some x) none) (some y) →
    (b ≡ true) × (x ≡ y)
read_some true e = (refl, cc)
read_some false e = let z : ◌≡◌ {A = ℕ} 0 1 = cc in absurd (omega arith)

-- what is read from bytes is a push in range, and the bytes are its own
pub push_write_read : (n : ℕ) (l : List ℕ) → n ≤ 8 → Bytes l → (p : Push) → read_push n l ≡ some p →
    (l ≡ message_bytes p) × (message_fits n p ≡ true) × ShapedPush p
unfolding read_push
push_write_read n l m y p e =
    let found = read_some _ e in
    let range = and_true (message_in_range n l) _ found.0 in (
      sym (bytes_of_message n l m range.0 y) ∙ ap message_bytes found.1,
      ap (message_fits n) (sym found.1) ∙ message_fits_law n l m range.0 range.1,
      subst ShapedPush found.1 (message_shaped n l m range.0),
    )

-- both: bytes are read as a push exactly if they are its bytes and it is in range
pub push_exactly : (n : ℕ) (l : List ℕ) → n ≤ 8 → Bytes l → (p : Push) →
    (read_push n l ≡ some p) ↔ ((l ≡ message_bytes p) × (message_fits n p ≡ true) × ShapedPush p)
push_exactly n l m y p =
    (push_write_read n l m y p, λ h. ap (read_push n) h.0 ∙ push_read_write n p m h.2 h.1)

-- ---- acknowledgements

-- in range, and not from the node that it is to
abbrev pub is_ack : ℕ → Acknowledgement → Bool
is_ack n a = ack_fits n a && not (eqb a.sender a.addressee)

-- one in range fits the machine
ack_fit : (n : ℕ) (a : Acknowledgement) → n ≤ 8 → ack_fits n a ≡ true → AcknowledgementFit a
unfolding ack_fits
ack_fit n a m e =
    let sender = and_true (is_node n a.sender) _ e in
    let addressee = and_true (is_node n a.addressee) _ sender.1 in
    let version = and_true (is_version a.version) _ addressee.1 in
    record { version = version_below a.version version.0; id = id_below n a.id m version.1 }

-- an acknowledgement in range is read from its bytes
pub ack_read_write : (n : ℕ) (a : Acknowledgement) → n ≤ 8 → is_ack n a ≡ true → read_ack n (ack_bytes a) ≡ some a
unfolding read_ack
ack_read_write n a m e =
    let p = and_true (ack_fits n a) _ e in
    let f : AcknowledgementFit a = ack_fit n a m p.0 in
    simp (length_ack_bytes a, ack_judged n a f, ack_round a f, p.0, p.1)

-- two acknowledgements with the same bytes are one
pub ack_bytes_injective : (n : ℕ) (a b : Acknowledgement) → n ≤ 8 → ack_fits n a ≡ true → ack_fits n b ≡ true →
    ack_bytes a ≡ ack_bytes b → a ≡ b
ack_bytes_injective n a b m fa fb e =
    sym (ack_round a (ack_fit n a m fa)) ∙ ap ack_of e ∙ ack_round b (ack_fit n b m fb)

-- what bytes in range hold is in range
ack_range_fits : (n : ℕ) (c : List ℕ) → ack_in_range n c ≡ true → ack_fits n (ack_of c) ≡ true
unfolding ack_in_range
ack_range_fits n c e = (and_true (zero_at c 12 4) _ (and_true (marked_at c 0 ack_mark) _ e).1).1

-- what is read from bytes is an acknowledgement in range, and the bytes are its own
pub ack_write_read : (n : ℕ) (l : List ℕ) → Bytes l → (a : Acknowledgement) → read_ack n l ≡ some a →
    (l ≡ ack_bytes a) × (is_ack n a ≡ true)
unfolding read_ack
ack_write_read n l y a e =
    let found = read_some _ e in
    let size = and_true (eqb (length l) 16) _ found.0 in
    let range = and_true (ack_in_range n l) _ size.1 in (
      sym (ack_back n l (eqb-true (length l) 16 size.0) y range.0) ∙ ap ack_bytes found.1,
      ap (is_ack n) (sym found.1) ∙ and_both (ack_range_fits n l range.0) range.1,
    )

-- both: bytes are read as an acknowledgement exactly if they are its bytes and it is in range
pub ack_exactly : (n : ℕ) (l : List ℕ) → n ≤ 8 → Bytes l → (a : Acknowledgement) →
    (read_ack n l ≡ some a) ↔ ((l ≡ ack_bytes a) × (is_ack n a ≡ true))
ack_exactly n l m y a =
    (ack_write_read n l y a, λ h. ap (read_ack n) h.0 ∙ ack_read_write n a m h.1)
