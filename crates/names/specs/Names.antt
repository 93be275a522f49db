-- Names: their bytes, when one is a name, and when two are the same. What the contracts of `names` cite.
-- Assumes nothing.
use Rattle.std.specs.Prelude.{◌≡◌, refl, ℕ, ◌+◌, ◌-◌, ◌<◌, ◌≤◌, Bool, true, false, ◌&&◌, not, cond, List, ◌∷◌, ◌++◌, length, get_or, take, drop, eqb, leb}
use lib.Pointwise.{pointwise}
use Rattle.std.proofs.Common.{ap, sym, ◌∙◌, arith, append-nil, zero-add, length-drop, take_all, eqb-true, eq-eqb, le-leb}
use Rattle.std.proofs.Math.Seq.{drop-length, take-append_seam, drop-append_seam}
use Rattle.std.proofs.lemmas.Bool.{lt-leb}
use Rattle.codec.specs.Bytes.{chunk, splice, u8_at, u8, zeros, all_are, same_bytes}
use Rattle.codec.specs.Lists.{every, and_true, and_right}
use Rattle.codec.specs.Laws.{same_pointwise, reads, same_eq, same_refl, splice_splice, written_out, length_chunk, get_or_chunk, chunk_chunk, u8_back, chunk_add, all_zeros, drop_zeros}
use Rattle.names.specs.declared.Name.{Name}

-- "Name: one length byte, then fifteen bytes": the name that stands at o, and the sixteen bytes of a name
abbrev pub name_at : List ℕ → ℕ → Name
name_at l o = record { len = u8_at l o; bytes = chunk l (o + 1) 15 }

abbrev pub name_bytes : Name → List ℕ
name_bytes n = n.len ∷ reads n.bytes 0 0 15

-- "no byte 00 or 2F"
abbrev pub clean : List ℕ → Bool
clean s = every (λ (b : ℕ). not (eqb b 0) && not (eqb b 47)) s

-- "Length 1 to 15; no byte 00 or 2F; not "." or ".."": the last are at most two bytes, all of them 2E
unfoldable pub is_text : List ℕ → Bool
is_text s = leb 1 (length s) && (leb (length s) 15 && (clean s && not (leb (length s) 2 && all_are 46 s)))

-- "unused ones zero"
unfoldable pub is_name : Name → Bool
is_name n = leb n.len 15 && (is_text (take n.len n.bytes) && all_are 0 (drop n.len n.bytes))

-- "Only the root's is sixteen zeros."
abbrev pub no_name : Name
no_name = record { len = 0; bytes = zeros 15 }

-- the name with that text; a text that no name has room for becomes no name
unfoldable pub name_from : List ℕ → Name
name_from s = cond (leb (length s) 15) (record { len = length s; bytes = s ++ zeros (15 - length s) }) no_name

unfoldable pub same_name : Name → Name → Bool
same_name a b = eqb a.len b.len && same_bytes a.bytes b.bytes

-- ---- laws

pub name_ext : {a b : Name} → a.len ≡ b.len → a.bytes ≡ b.bytes → a ≡ b
name_ext p q = λ i. record { len = p i; bytes = q i }

-- the comparison that the type derives, and this one
pub same_derived : (a b : Name) → (eqb a.len b.len && pointwise eqb a.bytes b.bytes) ≡ same_name a b
unfolding same_name
same_derived a b = ap (λ (s : Bool). eqb a.len b.len && s) (same_pointwise a.bytes b.bytes)

-- names that are found the same are equal, and the other way round
pub same_name_eq : (a b : Name) → same_name a b ≡ true → a ≡ b
unfolding same_name
same_name_eq a b h =
    let p = and_true _ _ h in
    name_ext (eqb-true _ _ p.0) (same_eq _ _ p.1)

pub same_name_refl : (a : Name) → same_name a a ≡ true
unfolding same_name
same_name_refl a = simp (eq-eqb a.len a.len refl, same_refl a.bytes)

-- a name's bytes are sixteen
pub length_name_bytes : (n : Name) → length (name_bytes n) ≡ 16
length_name_bytes n = refl

-- a text copied over fifteen zeros is followed by zeros
pub from_short : (s : List ℕ) → length s ≤ 15 → record { len = length s; bytes = splice (zeros 15) 0 s } ≡ name_from s
unfolding name_from splice
from_short s h = simp (le-leb (length s) 15 h, zero-add, drop_zeros 15 (length s))

pub from_long : (s : List ℕ) → 15 < length s → no_name ≡ name_from s
unfolding name_from
from_long s h = simp (lt-leb (length s) 15 h)

-- fifteen bytes copied over fifteen zeros
pub splice_whole : (l vs : List ℕ) → length vs ≡ length l → splice l 0 vs ≡ vs
unfolding splice
splice_whole l vs h = rw (zero-add, h, drop-length, append-nil)

-- the length, and the fifteen bytes behind it
pub name_put : (l : List ℕ) (o : ℕ) (n : Name) → length n.bytes ≡ 15 → o + 16 ≤ length l →
    splice (splice l o (u8 n.len)) (o + 1) n.bytes ≡ splice l o (name_bytes n)
name_put l o n f h =
    splice_splice l o (u8 n.len) 1 n.bytes refl (omega arith)
    ∙ ap (λ (b : List ℕ). splice l o (n.len ∷ b)) (written_out n.bytes 15 f)

-- the used bytes and the others, as parts
pub name_parts : (n : Name) → length n.bytes ≡ 15 → n.len ≤ 15 →
    is_name n ≡ (is_text (chunk n.bytes 0 n.len) && all_are 0 (chunk n.bytes n.len (15 - n.len)))
unfolding is_name chunk
name_parts n f h =
    let rest : take (15 - n.len) (drop n.len n.bytes) ≡ drop n.len n.bytes =
    take_all (15 - n.len) (drop n.len n.bytes) (simp length-drop (omega arith)) in
    simp (le-leb n.len 15 h, rest)

-- ---- read back

pub name_round : (n : Name) → length n.bytes ≡ 15 → name_at (name_bytes n) 0 ≡ n
unfolding chunk
name_round n h = name_ext refl (sym (written_out n.bytes 15 h))

pub name_back : (l : List ℕ) (o : ℕ) → o + 16 ≤ length l → name_bytes (name_at l o) ≡ chunk l o 16
name_back l o h =
    let f : length (chunk l (o + 1) 15) ≡ 15 = length_chunk l (o + 1) 15 (omega arith) in
    ap (λ (b : List ℕ). get_or l o 0 ∷ b) (sym (written_out (chunk l (o + 1) 15) 15 f))
    ∙ ap (λ (b : List ℕ). b ++ chunk l (o + 1) 15) (u8_back l o (omega arith))
    ∙ sym (chunk_add l o 1 15)

-- ---- what a caller gives

-- the name made from a text is a name exactly if the text may be one
pub name_from_law : (s : List ℕ) → is_name (name_from s) ≡ is_text s
unfolding name_from is_name is_text
name_from_law s = go (leb (length s) 15) refl
  where
    long : (b : Bool) → leb (length s) 15 ≡ false → false ≡ (b && (leb (length s) 15 && (clean s && not (leb (length s) 2 && all_are 46 s))))
    long true e = simp e
    long false e = refl

    go : (b : Bool) → leb (length s) 15 ≡ b → is_name (cond b (record { len = length s; bytes = s ++ zeros (15 - length s) }) no_name) ≡ is_text s
    go true e = simp (e, take-append_seam, drop-append_seam, all_zeros (15 - length s)) (and_right _)
    go false e = long (leb 1 (length s)) e

-- a name within a part
pub name_chunk : (l : List ℕ) (o n p : ℕ) → p + 16 ≤ n → name_at (chunk l o n) p ≡ name_at l (o + p)
name_chunk l o n p h =
    name_ext (get_or_chunk l o n p (omega arith))
    (chunk_chunk l o n (p + 1) 15 (omega arith) ∙ ap (λ (k : ℕ). chunk l k 15) {x = o + (p + 1)} {y = o + p + 1} (omega arith))
