-- Pushes and acknowledgements: what they are, their bytes, and which byte strings are one, rule by rule of line 4 of the
-- refusals. Assumes nothing.
use Rattle.std.specs.Prelude.{Bool, true, false, ◌&&◌, ◌||◌, not, cond, List, [], ◌∷◌, ◌++◌, ℕ, zero, suc, ◌+◌, ◌*◌, ◌-◌, max, eqb, leb, ltb, length}
use Rattle.std.proofs.Math.Option.{Option, some, none}
use Rattle.codec.specs.Bytes.{chunk}
use Rattle.codec.specs.Lists.{every}
use Rattle.names.specs.Names.{same_name}
use Rattle.numbers.specs.Nodes.{has}
use Rattle.records.specs.declared.head.Head.{Head}
use Rattle.records.specs.declared.entry.Entry.{Entry}
use Rattle.records.specs.Heads.{head_bytes, head_at, head_in_range}
use Rattle.records.specs.Entries.{entry_bytes, entry_at, entry_in_range}
use Rattle.messages.specs.declared.acknowledgement.Acknowledgement.{Acknowledgement}
use Rattle.messages.specs.declared.push_header.PushHeader.{PushHeader}
use Rattle.messages.specs.Acknowledgements.{ack_of, ack_in_range}
use Rattle.messages.specs.PushHeaders.{push_bytes, push_of, push_in_range}
use Rattle.document.specs.Tables.{Table, head_of, entries_of, rows, slots_from, every_slot}
use Rattle.document.specs.Sound.{is_live, is_directory, is_root_id, maker_holds, distinct}

-- "Push: .. then heads, then entries. First head: the replica pushed; then its place directory and so on up, without the
-- root"
pub record Push : Type 0 where
  pub sender : ℕ
  pub addressee : ℕ
  pub version : ℕ
  pub first : Head
  pub above : List Head
  pub entries : List Entry

abbrev pub header_of_push : Push → PushHeader
header_of_push p =
    record {
      sender = p.sender;
      addressee = p.addressee;
      version = p.version;
      heads = suc (length p.above);
      entries = length p.entries;
    }

unfoldable pub message_bytes : Push → List ℕ
message_bytes p =
    push_bytes (header_of_push p) ++ (rows head_bytes (p.first ∷ p.above) ++ rows entry_bytes p.entries)

-- ---- the push that bytes are

abbrev pub head_spot : ℕ → ℕ
head_spot i = 16 + 40 * i

abbrev pub entry_spot : ℕ → ℕ → ℕ
entry_spot heads i = 16 + 40 * heads + 32 * i

unfoldable pub message_of : List ℕ → Push
message_of l =
    let h = push_of (chunk l 0 16) in
    record {
      sender = h.sender;
      addressee = h.addressee;
      version = h.version;
      first = head_at l (head_spot 0);
      above = slots_from (λ (i : ℕ). head_at l (head_spot i)) 1 (h.heads - 1);
      entries = slots_from (λ (i : ℕ). entry_at l (entry_spot h.heads i)) 0 h.entries;
    }

-- "length, marks, zeros, ranges, counts, from equal to to": every record is in its range, and they are all of the message
unfoldable pub message_in_range : ℕ → List ℕ → Bool
message_in_range n l =
    leb 16 (length l)
    && (push_in_range n (chunk l 0 16)
    && (let h = push_of (chunk l 0 16) in
    not (eqb h.sender h.addressee)
    && (eqb (length l) (entry_spot h.heads h.entries)
    && (every_slot (λ (i : ℕ). head_in_range n (chunk l (head_spot i) 40)) 0 h.heads
    && every_slot (λ (i : ℕ). entry_in_range n (chunk l (entry_spot h.heads i) 32)) 0 h.entries))))

-- "chain of heads (place, depth, kind; live under dead; ..)": each head above is the place of the one before it, and the
-- last one's place is the root
unfoldable pub chained : Head → List Head → Bool
chained h [] = eqb h.directory 0 && eqb h.depth 1
chained h (g ∷ gs) =
    eqb h.directory g.id && (eqb h.depth (g.depth + 1) && (is_directory g && ((not (is_live h) || is_live g) && chained g gs)))

-- the root has no head above it; "so max(1, depth) heads"
abbrev pub is_chain : Head → List Head → Bool
is_chain h gs = eqb (suc (length gs)) (max 1 h.depth) && (is_root_id h || chained h gs)

abbrev pub same_head_id : Head → Head → Bool
same_head_id a b = eqb a.id b.id

abbrev pub same_child_name : Entry → Entry → Bool
same_child_name a b = eqb a.child b.child && same_name a.name b.name

abbrev pub is_empty : List Entry → Bool
is_empty [] = true
is_empty (e ∷ es) = false

unfoldable pub hangs_together : Push → Bool
hangs_together p =
    is_chain p.first p.above
    -- "an id twice"
    && (distinct same_head_id (p.first ∷ p.above)
    -- "holders without maker or sender"
    && (every (λ (h : Head). maker_holds h && has h.holders p.sender) (p.first ∷ p.above)
    -- "first head without the addressee"
    && (has p.first.holders p.addressee
    -- "two entries with the same child and name, an entry for the root"
    && (distinct same_child_name p.entries
    && (every (λ (e : Entry). not (eqb e.child 0)) p.entries
    -- "entries under a file or at depth 16"
    && (is_empty p.entries || (is_directory p.first && ltb p.first.depth 16)))))))

unfoldable pub read_push : ℕ → List ℕ → Option Push
read_push n l = cond (message_in_range n l && hangs_together (message_of l)) (some (message_of l)) none

-- ---- the acknowledgement that bytes are

unfoldable pub read_ack : ℕ → List ℕ → Option Acknowledgement
read_ack n l =
    cond (eqb (length l) 16 && (ack_in_range n l && not (eqb (ack_of l).sender (ack_of l).addressee))) (some (ack_of l)) none

-- ---- the push of a held replica

abbrev pub above : Option Head → (ℕ → List Head) → List Head
above none up = []
above (some h) up = h ∷ up h.directory

-- the heads from directory d on up, without the root; at most k
unfoldable pub chain_up : ℕ → ℕ → Table → List Head
chain_up zero d t = []
chain_up (suc k) d t = cond (eqb d 0) [] (above (head_of t d) (λ (up : ℕ). chain_up k up t))

-- "Entries: the pushed directory's, all of them, in slot order."
unfoldable pub push_from : Table → Head → ℕ → ℕ → Push
push_from t h version node =
    record {
      sender = t.own;
      addressee = node;
      version = version;
      first = h;
      above = chain_up h.depth h.directory t;
      entries = entries_of h.id t.entries;
    }
