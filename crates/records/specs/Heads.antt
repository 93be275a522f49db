-- Heads: the layout of the forty bytes, the head that they hold, and when it is in its range. What the contracts of
-- `records::head` cite. Assumes nothing.
use Rattle.std.specs.Prelude.{◌≡◌, refl, Bool, true, ◌&&◌, cond, List, [], ◌∷◌, ℕ, ◌+◌, ◌^◌, ◌≤◌, ◌<◌, eqb, leb, length}
use Rattle.std.proofs.Common.{ap, sym, arith, add-zero, eqb-true}
use Rattle.codec.specs.Bytes.{chunk, splice, le, bytes_of, u8, u32, u64, u8_at, u32_at, u64_at, zeros, joined, same_bytes, marked_at, zero_at, Bytes}
use Rattle.codec.specs.Laws.{get_or_chunk, chunk_chunk, le_bytes_of, written_out, splices_splice, same_eq, joined_back, marked_chunk, zero_chunk, u8_back, number_back, zeros_back}
use Rattle.codec.specs.Lists.{every, and_true}
use Rattle.names.specs.Names.{name_at, name_bytes, no_name, is_name, same_name, name_ext, name_back, name_chunk, same_name_eq}
use Rattle.numbers.specs.Nodes.{is_within, is_set, all}
use Rattle.numbers.specs.Ids.{is_id, is_made, is_stamp}
use Rattle.records.specs.declared.head.Head.{Head}

-- "Head records have 40 bytes and mark 48 44: kind (1 file, 2 directory), live (0/1), id u32, stamp u64, holders u8,
-- depth u8, two zeros, place directory u32, place name 16."
abbrev pub head_mark : List ℕ
head_mark = 72 ∷ 68 ∷ []

abbrev pub head_parts : Head → List (List ℕ)
head_parts h =
    head_mark ∷ u8 h.kind ∷ u8 h.live ∷ u32 h.id ∷ u64 h.stamp ∷ u8 h.holders ∷ u8 h.depth ∷ zeros 2
    ∷ u32 h.directory ∷ name_bytes h.name ∷ []

unfoldable pub head_bytes : Head → List ℕ
head_bytes h = joined (head_parts h)

-- the head that forty bytes hold
unfoldable pub head_of : List ℕ → Head
head_of c =
    record {
      kind = u8_at c 2;
      live = u8_at c 3;
      id = u32_at c 4;
      stamp = u64_at c 8;
      holders = u8_at c 16;
      depth = u8_at c 17;
      directory = u32_at c 20;
      name = name_at c 24;
    }

abbrev pub head_at : List ℕ → ℕ → Head
head_at l o = head_of (chunk l o 40)

-- "The root: kind 2, live 1, place directory 0, no maker, all nodes hold it." Its id, stamp and depth are 0, its name
-- sixteen zeros.
abbrev pub root_head : ℕ → Head
root_head n =
    record { kind = 2; live = 1; id = 0; stamp = 0; holders = all n; depth = 0; directory = 0; name = no_name }

unfoldable pub is_root : ℕ → Head → Bool
is_root n h =
    eqb h.kind 2 && (eqb h.live 1 && (eqb h.id 0 && (eqb h.stamp 0 && (eqb h.holders (all n)
    && (eqb h.depth 0 && (eqb h.directory 0 && same_name h.name no_name))))))

-- any other head: each field in its range; "Depth is the place directory's plus one, 1 to 16"
unfoldable pub is_ordinary : ℕ → Head → Bool
is_ordinary n h =
    is_within 1 h.kind 2 && (leb h.live 1 && (is_made n h.id && (is_stamp n h.stamp
    && (is_set n h.holders && (is_within 1 h.depth 16 && (is_id n h.directory && is_name h.name))))))

-- "The root is 0."
unfoldable pub head_fits : ℕ → Head → Bool
head_fits n h = cond (eqb h.id 0) (is_root n h) (is_ordinary n h)

-- forty bytes are a head in its range: its mark, its zeros, every field
unfoldable pub head_in_range : ℕ → List ℕ → Bool
head_in_range n c = marked_at c 0 head_mark && (zero_at c 18 2 && head_fits n (head_of c))

-- ---- laws

-- what a value of the type Head has
pub record HeadFit (h : Head) : Type 0 where
  pub id : h.id < 2 ^ 32
  pub stamp : h.stamp < 2 ^ 64
  pub directory : h.directory < 2 ^ 32
  pub bytes : length h.name.bytes ≡ 15

pub head_ext : {a b : Head} → a.kind ≡ b.kind → a.live ≡ b.live → a.id ≡ b.id → a.stamp ≡ b.stamp →
    a.holders ≡ b.holders → a.depth ≡ b.depth → a.directory ≡ b.directory → a.name ≡ b.name → a ≡ b
head_ext k l d s h e r n =
    λ i. record { kind = k i; live = l i; id = d i; stamp = s i; holders = h i; depth = e i; directory = r i; name = n i }

pub length_head_bytes : (h : Head) → length (head_bytes h) ≡ 40
unfolding head_bytes bytes_of
length_head_bytes h = refl

-- the fields, where they stand in a longer string
pub head_fields : (l : List ℕ) (o : ℕ) →
    head_at l o
    ≡ record {
      kind = u8_at l (o + 2);
      live = u8_at l (o + 3);
      id = u32_at l (o + 4);
      stamp = u64_at l (o + 8);
      holders = u8_at l (o + 16);
      depth = u8_at l (o + 17);
      directory = u32_at l (o + 20);
      name = name_at l (o + 24);
    }
unfolding head_of
head_fields l o =
    head_ext (get_or_chunk l o 40 2 (omega arith)) (get_or_chunk l o 40 3 (omega arith))
    (ap le (chunk_chunk l o 40 4 4 (omega arith))) (ap le (chunk_chunk l o 40 8 8 (omega arith)))
    (get_or_chunk l o 40 16 (omega arith)) (get_or_chunk l o 40 17 (omega arith))
    (ap le (chunk_chunk l o 40 20 4 (omega arith))) (name_chunk l o 40 24 (omega arith))

-- in its range, where it stands in a longer string
pub head_range_law : (n : ℕ) (l : List ℕ) (o : ℕ) →
    head_in_range n (chunk l o 40) ≡ (marked_at l o head_mark && (zero_at l (o + 18) 2 && head_fits n (head_at l o)))
unfolding head_in_range
head_range_law n l o = cc (marked_chunk l o 40 head_mark (omega arith), zero_chunk l o 40 18 2 (omega arith))

-- the stores of the code, one behind the other
pub head_stores : (l : List ℕ) (o : ℕ) (h : Head) → o + 40 ≤ length l →
    splice (splice (splice (splice (splice (splice l o (72 ∷ 68 ∷ h.kind ∷ h.live ∷ [])) (o + 4) (u32 h.id))
    (o + 8) (u64 h.stamp)) (o + 16) (h.holders ∷ h.depth ∷ 0 ∷ 0 ∷ [])) (o + 20) (u32 h.directory))
    (o + 24) (name_bytes h.name)
    ≡ splice l o (head_bytes h)
unfolding head_bytes bytes_of
head_stores l o h f =
    rw add-zero at
    (splices_splice l o 0
    ((72 ∷ 68 ∷ h.kind ∷ h.live ∷ []) ∷ u32 h.id ∷ u64 h.stamp ∷ (h.holders ∷ h.depth ∷ 0 ∷ 0 ∷ [])
    ∷ u32 h.directory ∷ name_bytes h.name ∷ [])
    (omega arith))

-- ---- read back: a head written is the head read, and what was read is written as it stood

pub head_round : (h : Head) → HeadFit h → head_of (head_bytes h) ≡ h
unfolding head_of head_bytes bytes_of chunk
head_round h f =
    head_ext refl refl (le_bytes_of 4 h.id f.id) (le_bytes_of 8 h.stamp f.stamp) refl refl
    (le_bytes_of 4 h.directory f.directory) (name_ext refl (sym (written_out h.name.bytes 15 f.bytes)))

pub head_back : (n : ℕ) (c : List ℕ) → length c ≡ 40 → Bytes c → head_in_range n c ≡ true → head_bytes (head_of c) ≡ c
unfolding head_bytes head_of head_in_range
head_back n c f b r =
    let p = and_true _ _ r in
    let mark = same_eq _ _ p.0 in
    let none = zeros_back c 18 2 (omega arith) (and_true _ _ p.1).0 in
    joined_back c (2 ∷ 1 ∷ 1 ∷ 4 ∷ 8 ∷ 1 ∷ 1 ∷ 2 ∷ 4 ∷ 16 ∷ []) {ps = head_parts (head_of c)}
    (cc (
      mark,
      none,
      u8_back c 2 (omega arith),
      u8_back c 3 (omega arith),
      number_back c 4 4 b (omega arith),
      number_back c 8 8 b (omega arith),
      u8_back c 16 (omega arith),
      u8_back c 17 (omega arith),
      number_back c 20 4 b (omega arith),
      name_back c 24 (omega arith),
    ))
    f

-- the root's head is the one that is found to be it
pub root_is : (n : ℕ) (h : Head) → is_root n h ≡ true → h ≡ root_head n
unfolding is_root
root_is n h r =
    let a = and_true _ _ r in
    let b = and_true _ _ a.1 in
    let d = and_true _ _ b.1 in
    let e = and_true _ _ d.1 in
    let f = and_true _ _ e.1 in
    let g = and_true _ _ f.1 in
    let k = and_true _ _ g.1 in
    head_ext (eqb-true _ _ a.0) (eqb-true _ _ b.0) (eqb-true _ _ d.0) (eqb-true _ _ e.0) (eqb-true _ _ f.0)
    (eqb-true _ _ g.0) (eqb-true _ _ k.0) (same_name_eq _ _ k.1)

-- a head written is in its range exactly if its fields are
pub head_judged : (n : ℕ) (h : Head) → HeadFit h → head_in_range n (head_bytes h) ≡ head_fits n h
unfolding head_in_range head_bytes bytes_of chunk same_bytes every
head_judged n h f = ap (head_fits n) (head_round h f)
