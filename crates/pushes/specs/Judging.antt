-- Whether bytes are a push, in the order of reading: the header, the first head, each head above it against those
-- before
-- it, and each entry against those before it. What the contracts of `pushes::judge` cite, and the law that this is
-- document 01's judgement. Assumes nothing.
use Rattle.std.specs.Prelude.{◌≡◌, Bool, ◌&&◌, ◌||◌, not, List, ℕ, ◌+◌, ◌-◌, max, eqb, leb, ltb, length}
use Rattle.std.proofs.Common.{ap, ◌∙◌, arith}
use Rattle.codec.specs.Bytes.{chunk, u32_at}
use Rattle.codec.specs.Laws.{first_chunk}
use Rattle.names.specs.declared.Name.{Name}
use Rattle.names.specs.Names.{name_at, same_name}
use Rattle.numbers.specs.Nodes.{has}
use Rattle.records.specs.declared.head.Head.{Head}
use Rattle.records.specs.declared.entry.Entry.{Entry}
use Rattle.records.specs.Heads.{head_in_range, head_fields}
use Rattle.records.specs.Entries.{entry_at, entry_in_range, entry_fields}
use Rattle.messages.specs.declared.push_header.PushHeader.{PushHeader}
use Rattle.messages.specs.PushHeaders.{push_at, push_in_range}
use Rattle.document.specs.Tables.{every_slot}
use Rattle.document.specs.Sound.{is_live, is_directory, is_root_id, maker_holds}
use Rattle.document.specs.Messages.{head_spot, entry_spot, message_of, message_in_range, hangs_together, same_head_id, same_child_name}
use Rattle.document.specs.ReadingMessages.{head_in}

-- document 01's judgement: `read_push n l` is a push exactly if this holds
abbrev pub is_push : ℕ → List ℕ → Bool
is_push n l = message_in_range n l && hangs_together (message_of l)

-- the entry that stands i-th behind k heads
abbrev pub entry_in : ℕ → List ℕ → ℕ → Entry
entry_in k l i = entry_at l (entry_spot k i)

-- ---- the header

unfoldable pub header_fine : ℕ → List ℕ → Bool
header_fine n l =
    leb 16 (length l)
    && (push_in_range n (chunk l 0 16)
    && (not (eqb (push_at l 0).sender (push_at l 0).addressee)
    && eqb (length l) (entry_spot (push_at l 0).heads (push_at l 0).entries)))

-- ---- heads

-- the maker and the sender hold it
abbrev pub held_by : ℕ → Head → Bool
held_by sender h = maker_holds h && has h.holders sender

-- g is the place of h
unfoldable pub linked : Head → Head → Bool
linked h g =
    eqb h.directory g.id && (eqb h.depth (g.depth + 1) && (is_directory g && (not (is_live h) || is_live g)))

-- the first head goes with the header
unfoldable pub top_fine : Head → PushHeader → Bool
top_fine h p =
    eqb p.heads (max 1 h.depth)
    && (has h.holders p.addressee && (eqb p.entries 0 || (is_directory h && ltb h.depth 16)))

unfoldable pub first_fine : ℕ → PushHeader → List ℕ → Bool
first_fine n p l =
    head_in_range n (chunk l (head_spot 0) 40) && (held_by p.sender (head_in l 0) && top_fine (head_in l 0) p)

-- no head before head i has its id
abbrev pub id_new : List ℕ → ℕ → Bool
id_new l i = every_slot (λ (j : ℕ). not (same_head_id (head_in l j) (head_in l i))) 0 i

unfoldable pub head_fine : ℕ → ℕ → List ℕ → ℕ → Bool
head_fine n sender l i =
    head_in_range n (chunk l (head_spot i) 40)
    && (held_by sender (head_in l i) && (linked (head_in l (i - 1)) (head_in l i) && id_new l i))

-- the chain ends below the root
unfoldable pub ends_at_root : Head → Head → Bool
ends_at_root first last = is_root_id first || (eqb last.directory 0 && eqb last.depth 1)

-- ---- entries

-- the entry at o has that child and name
unfoldable pub is_same : List ℕ → ℕ → ℕ → Name → Bool
is_same l o child name = eqb (entry_at l o).child child && same_name (entry_at l o).name name

-- no entry before entry i has its child and name
abbrev pub child_new : ℕ → List ℕ → ℕ → Bool
child_new k l i = every_slot (λ (j : ℕ). not (same_child_name (entry_in k l j) (entry_in k l i))) 0 i

unfoldable pub entry_fine : ℕ → ℕ → List ℕ → ℕ → Bool
entry_fine n k l i =
    entry_in_range n (chunk l (entry_spot k i) 32) && (not (eqb (entry_in k l i).child 0) && child_new k l i)

-- ---- all of it, in the order of reading

abbrev pub in_order : ℕ → List ℕ → Bool
in_order n l =
    let h = push_at l 0 in
    header_fine n l
    && (first_fine n h l
    && (every_slot (head_fine n h.sender l) 1 (h.heads - 1)
    && (ends_at_root (head_in l 0) (head_in l (h.heads - 1)) && every_slot (entry_fine n h.heads l) 0 h.entries)))

-- ---- laws: fields, read in place

pub id_at : (l : List ℕ) (i : ℕ) → (head_in l i).id ≡ u32_at l (head_spot i + 4)
id_at l i = ap (λ (h : Head). h.id) (head_fields l (head_spot i))

pub child_at : (l : List ℕ) (o : ℕ) → (entry_at l o).child ≡ u32_at l (o + 4)
child_at l o = ap (λ (e : Entry). e.child) (entry_fields l o)

pub name_at_law : (l : List ℕ) (o : ℕ) → (entry_at l o).name ≡ name_at l (o + 16)
name_at_law l o = ap (λ (e : Entry). e.name) (entry_fields l o)

-- the child and name of an entry that was read, over what was read of it
pub is_same_law : (k : ℕ) (l : List ℕ) (i j : ℕ) (e : Entry) (name : Name) → e ≡ entry_in k l i → name ≡ e.name →
    is_same l (entry_spot k j) e.child name ≡ same_child_name (entry_in k l j) (entry_in k l i)
unfolding is_same
is_same_law k l i j e name p q = rw (q, p)

-- what is read of a part that is lent is what is read where the part stands
pub in_part : {A : Type 0} (of : List ℕ → A) (l p : List ℕ) (o w : ℕ) → p ≡ chunk l o w →
    of (chunk p 0 w) ≡ of (chunk l o w)
in_part of l p o w e = ap (λ (b : List ℕ). of (chunk b 0 w)) e ∙ ap of (first_chunk l o w w (omega arith))
