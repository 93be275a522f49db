-- Replica slots and entry slots as layouts of `Rows`: what is in range fits the machine, what is written is in range
-- exactly if its fields are, and what is read from bytes in range is in range. Assumes nothing.
use Rattle.std.specs.Prelude.{◌≡◌, refl, Bool, true, false, ◌&&◌, ◌||◌, cond, List, ◌++◌, ℕ, ◌^◌, ◌≤◌, ◌<◌, eqb, leb, ltb, length, take}
use Rattle.std.proofs.Common.{ap, sym, subst, ◌∙◌, arith, eqb-true, leb-true, ltb-true, eq-eqb}
use Rattle.codec.specs.Bytes.{chunk, bytes_of, zeros, same_bytes, marked_at, zero_at, u8_at, u32_at}
use Rattle.codec.specs.Laws.{length_chunk}
use Rattle.codec.specs.Lists.{every, and_true, and_right}
use Rattle.names.specs.declared.Name.{Name}
use Rattle.numbers.specs.Nodes.{is_set, is_node}
use Rattle.numbers.specs.Ids.{maker, clock_of, is_id, is_made, is_stamp, is_version}
use Rattle.records.specs.declared.head.Head.{Head}
use Rattle.records.specs.declared.entry.Entry.{Entry}
use Rattle.records.specs.Heads.{head_mark, head_bytes, head_of, head_fits, head_in_range, is_ordinary, is_root, root_head, root_is, HeadFit, head_judged}
use Rattle.records.specs.Entries.{entry_mark, entry_bytes, entry_of, entry_fits, entry_in_range, EntryFit, entry_judged}
use Rattle.records.specs.Ordinary.{fields_of}
use Rattle.slots.specs.declared.replica.Replica.{Replica}
use Rattle.slots.specs.declared.listed.Listed.{Listed}
use Rattle.slots.specs.Replicas.{replica_bytes, replica_of, replica_in_range, ReplicaFit, replica_round, replica_back, length_replica_bytes}
use Rattle.slots.specs.Listings.{listed_bytes, listed_of, listed_in_range, ListedFit, listed_round, listed_back, length_listed_bytes}
use Rattle.document.specs.Tables.{replica_fits, listed_fits}
use Rattle.document.specs.Rows.{Layout}

-- a name has its fifteen bytes: `is_name` does not say so, and what is shorter would be read back with zeros behind it
abbrev pub is_full : Name → Bool
is_full n = eqb (length n.bytes) 15

-- the name in a replica's head, and in an entry
abbrev pub full_replica : Replica → Bool
full_replica r = is_full r.head.name

abbrev pub full_listed : Listed → Bool
full_listed x = is_full x.entry.name

-- ---- what is in range fits the machine

-- an id that a node made is below nine times 2^24, within its four bytes
pub made_below : (n id : ℕ) → n ≤ 8 → is_made n id ≡ true → id < 2 ^ 32
unfolding is_made
made_below n id h e =
    let p = and_true (is_node n (maker id)) _ e in
    let q = and_true (leb 1 (maker id)) _ p.0 in
    omega (arith, leb-true (maker id) n q.1)

-- and so any id
pub id_below : (n id : ℕ) → n ≤ 8 → is_id n id ≡ true → id < 2 ^ 32
unfolding is_id
id_below n id h e = go (eqb id 0) refl e
  where
    go : (b : Bool) → eqb id 0 ≡ b → (b || is_made n id) ≡ true → id < 2 ^ 32
    go true z m = omega (arith, eqb-true id 0 z)
    go false z m = made_below n id h m

-- a stamp is below 2^48, well within its eight bytes
pub stamp_below : (n s : ℕ) → is_stamp n s ≡ true → s < 2 ^ 64
unfolding is_stamp
stamp_below n s e =
    let p = and_true (leb 1 (clock_of s)) _ e in
    let q = and_true (ltb (clock_of s) (2 ^ 40)) _ p.1 in
    omega (arith, ltb-true (clock_of s) (2 ^ 40) q.0)

-- a version
pub version_below : (v : ℕ) → is_version v ≡ true → v < 2 ^ 32
unfolding is_version
version_below v e = ltb-true v (2 ^ 32) (and_true (leb 1 v) _ e).1

-- a head: one that is not the root's, and either
ordinary_fit : (n : ℕ) (h : Head) → n ≤ 8 → is_ordinary n h ≡ true → is_full h.name ≡ true → HeadFit h
ordinary_fit n h m e f =
    let o = fields_of n h e in
    record {
      id = made_below n h.id m o.made;
      stamp = stamp_below n h.stamp o.stamp;
      directory = id_below n h.directory m o.directory;
      bytes = eqb-true _ 15 f;
    }

pub head_fit : (n : ℕ) (h : Head) → n ≤ 8 → head_fits n h ≡ true → is_full h.name ≡ true → HeadFit h
unfolding head_fits
head_fit n h m e f = go (eqb h.id 0) e
  where
    root : h ≡ root_head n → HeadFit h
    root z =
        subst HeadFit (sym z)
        (record { id = omega arith; stamp = omega arith; directory = omega arith; bytes = refl })

    go : (b : Bool) → cond b (is_root n h) (is_ordinary n h) ≡ true → HeadFit h
    go true r = root (root_is n h r)
    go false r = ordinary_fit n h m r f

-- a replica
pub replica_fit : (n : ℕ) (r : Replica) → n ≤ 8 → (replica_fits n r && full_replica r) ≡ true → ReplicaFit r
replica_fit n r m e =
    let p = and_true (replica_fits n r) _ e in
    let q = and_true (head_fits n r.head) _ p.0 in
    record {
      head = head_fit n r.head m q.0 p.1;
      version = version_below r.version (and_true (is_version r.version) _ q.1).0;
    }

-- an entry, and one in its directory
pub entry_fit : (n : ℕ) (e : Entry) → n ≤ 8 → entry_fits n e ≡ true → is_full e.name ≡ true → EntryFit e
unfolding entry_fits
entry_fit n e m h f =
    let live = and_true (leb e.live 1) _ h in
    let child = and_true (is_id n e.child) _ live.1 in
    let stamp = and_true (is_stamp n e.stamp) _ child.1 in
    record {
      child = id_below n e.child m child.0;
      stamp = stamp_below n e.stamp stamp.0;
      bytes = eqb-true _ 15 f;
    }

pub listed_fit : (n : ℕ) (x : Listed) → n ≤ 8 → (listed_fits n x && full_listed x) ≡ true → ListedFit x
listed_fit n x m e =
    let p = and_true (listed_fits n x) _ e in
    let q = and_true (entry_fits n x.entry) _ p.0 in
    record { entry = entry_fit n x.entry m q.0 p.1; directory = id_below n x.directory m q.1 }

-- ---- written: where the parts stand, and that they are in range

-- the parts of a replica and of an entry slot that are written
pub replica_head : (r : Replica) → chunk (replica_bytes r) 0 40 ≡ head_bytes r.head
unfolding replica_bytes head_bytes bytes_of chunk
replica_head r = refl

replica_zeros : (r : Replica) → zero_at (replica_bytes r) 45 3 ≡ true
unfolding replica_bytes head_bytes bytes_of chunk every
replica_zeros r = refl

pub listed_entry : (x : Listed) → chunk (listed_bytes x) 0 32 ≡ entry_bytes x.entry
unfolding listed_bytes entry_bytes bytes_of chunk
listed_entry x = refl

listed_zeros : (x : Listed) → zero_at (listed_bytes x) 36 4 ≡ true
unfolding listed_bytes entry_bytes bytes_of chunk every
listed_zeros x = refl

-- what is written is in range exactly if its fields are
pub replica_judged : (n : ℕ) (r : Replica) → ReplicaFit r → replica_in_range n (replica_bytes r) ≡ replica_fits n r
unfolding replica_in_range
replica_judged n r f =
    let head : head_in_range n (chunk (replica_bytes r) 0 40) ≡ head_fits n r.head =
    ap (head_in_range n) (replica_head r) ∙ head_judged n r.head f.head in
    simp (head, replica_round r f, replica_zeros r, and_right)

pub listed_judged : (n : ℕ) (x : Listed) → ListedFit x → listed_in_range n (listed_bytes x) ≡ listed_fits n x
unfolding listed_in_range
listed_judged n x f =
    let entry : entry_in_range n (chunk (listed_bytes x) 0 32) ≡ entry_fits n x.entry =
    ap (entry_in_range n) (listed_entry x) ∙ entry_judged n x.entry f.entry in
    simp (entry, listed_round x f, listed_zeros x, and_right)

-- ---- read: what bytes in range hold is in range, and its name has fifteen bytes

-- a head and an entry
pub head_range_fits : (n : ℕ) (c : List ℕ) → head_in_range n c ≡ true → head_fits n (head_of c) ≡ true
unfolding head_in_range
head_range_fits n c e = (and_true (zero_at c 18 2) _ (and_true (marked_at c 0 head_mark) _ e).1).1

pub entry_range_fits : (n : ℕ) (c : List ℕ) → entry_in_range n c ≡ true → entry_fits n (entry_of c) ≡ true
unfolding entry_in_range
entry_range_fits n c e = (and_true (zero_at c 3 1) _ (and_true (marked_at c 0 entry_mark) _ e).1).1

pub head_full : (c : List ℕ) → length c ≡ 40 → is_full (head_of c).name ≡ true
unfolding head_of
head_full c h = eq-eqb _ 15 (length_chunk c 25 15 (omega arith))

pub entry_full : (c : List ℕ) → length c ≡ 32 → is_full (entry_of c).name ≡ true
unfolding entry_of
entry_full c h = eq-eqb _ 15 (length_chunk c 17 15 (omega arith))

-- a replica and an entry slot
pub replica_good : (n : ℕ) (c : List ℕ) → length c ≡ 48 → replica_in_range n c ≡ true →
    (replica_fits n (replica_of c) && full_replica (replica_of c)) ≡ true
unfolding replica_in_range replica_of
replica_good n c h e =
    let head = and_true (head_in_range n (chunk c 0 40)) _ e in
    let version = and_true (is_version (u32_at c 40)) _ head.1 in
    let pending = and_true (is_set n (u8_at c 44)) _ version.1 in
    simp (
      head_range_fits n (chunk c 0 40) head.0,
      version.0,
      pending.0,
      head_full (chunk c 0 40) (length_chunk c 0 40 (omega arith)),
    )

pub listed_good : (n : ℕ) (c : List ℕ) → length c ≡ 40 → listed_in_range n c ≡ true →
    (listed_fits n (listed_of c) && full_listed (listed_of c)) ≡ true
unfolding listed_in_range listed_of
listed_good n c h e =
    let entry = and_true (entry_in_range n (chunk c 0 32)) _ e in
    let directory = and_true (is_id n (u32_at c 32)) _ entry.1 in
    simp (
      entry_range_fits n (chunk c 0 32) entry.0,
      directory.0,
      entry_full (chunk c 0 32) (length_chunk c 0 32 (omega arith)),
    )

-- ---- replicas and entries, each as a layout

-- each starts with its mark, and a free slot does not
pub replica_marked : (x : Replica) (r : List ℕ) → same_bytes (take 2 (replica_bytes x ++ r)) head_mark ≡ true
unfolding replica_bytes head_bytes same_bytes
replica_marked x r = refl

pub listed_marked : (x : Listed) (r : List ℕ) → same_bytes (take 2 (listed_bytes x ++ r)) entry_mark ≡ true
unfolding listed_bytes entry_bytes same_bytes
listed_marked x r = refl

pub replica_unmarked : (r : List ℕ) → same_bytes (take 2 (zeros 48 ++ r)) head_mark ≡ false
unfolding same_bytes
replica_unmarked r = refl

pub listed_unmarked : (r : List ℕ) → same_bytes (take 2 (zeros 40 ++ r)) entry_mark ≡ false
unfolding same_bytes
listed_unmarked r = refl

-- for a table of n nodes
abbrev pub replica_layout : (n : ℕ) → n ≤ 8 → Layout Replica
replica_layout n m =
    record {
      bytes = replica_bytes;
      of = replica_of;
      width = 48;
      mark = head_mark;
      in_range = replica_in_range n;
      is_good = λ r. replica_fits n r && full_replica r;
      sized = length_replica_bytes;
      marked = replica_marked;
      unmarked = replica_unmarked;
      round = λ r e. replica_round r (replica_fit n r m e);
      judged = λ r e. replica_judged n r (replica_fit n r m e) ∙ (and_true (replica_fits n r) _ e).0;
      back = replica_back n;
      good = replica_good n;
    }

abbrev pub listed_layout : (n : ℕ) → n ≤ 8 → Layout Listed
listed_layout n m =
    record {
      bytes = listed_bytes;
      of = listed_of;
      width = 40;
      mark = entry_mark;
      in_range = listed_in_range n;
      is_good = λ x. listed_fits n x && full_listed x;
      sized = length_listed_bytes;
      marked = listed_marked;
      unmarked = listed_unmarked;
      round = λ x e. listed_round x (listed_fit n x m e);
      judged = λ x e. listed_judged n x (listed_fit n x m e) ∙ (and_true (listed_fits n x) _ e).0;
      back = listed_back n;
      good = listed_good n;
    }
