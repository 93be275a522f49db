-- The push of a held replica, as it is written: head by head up to the root, and slot by slot of its entries. What the
-- contracts of `pushes::write` cite. Assumes nothing.
use Rattle.std.specs.Prelude.{◌≡◌, refl, Bool, true, false, cond, List, [], ◌∷◌, ◌++◌, ℕ, suc, ◌+◌, ◌*◌, ◌-◌, ◌≤◌, ◌<◌, length}
use Rattle.std.proofs.Common.{ap, sym, ◌∙◌, arith}
use Rattle.std.proofs.Math.Option.{some}
use Rattle.codec.specs.Bytes.{splice}
use Rattle.records.specs.declared.head.Head.{Head}
use Rattle.records.specs.declared.entry.Entry.{Entry}
use Rattle.records.specs.Heads.{head_bytes, length_head_bytes}
use Rattle.records.specs.Entries.{entry_at}
use Rattle.messages.specs.declared.push_header.PushHeader.{PushHeader}
use Rattle.slots.specs.declared.replica.Replica.{Replica}
use Rattle.slots.specs.declared.listed.Listed.{Listed}
use Rattle.slots.specs.Listings.{listed_fields}
use Rattle.document.specs.Tables.{find, entries_of, rows, slots_from, entry_slot, entry_in, entries_used, table_of}
use Rattle.document.specs.Sound.{sound_bytes}
use Rattle.document.specs.Messages.{Push, header_of_push, message_bytes, push_from}
use Rattle.document.specs.Rows.{rows_one, rows_written}
use Rattle.table.specs.Slots.{is_listed_in}

-- the replica is held by the sound table that the bytes are
pub record Held (l : List ℕ) (r : Replica) : Type 0 where
  pub sound : sound_bytes l ≡ true
  pub found : find r.head.id (table_of l).replicas ≡ some r

-- its push for a node
abbrev pub push_of_held : List ℕ → Replica → ℕ → Push
push_of_held l r node = push_from (table_of l) r.head r.version node

-- what `write` asks: the header is that of the push, and there is room for all of it
pub record Written (l : List ℕ) (r : Replica) (header : PushHeader) (room : ℕ) : Type 0 where
  pub held : Held l r
  pub header_is : header ≡ header_of_push (push_of_held l r header.addressee)
  pub fits : length (message_bytes (push_of_held l r header.addressee)) ≤ room

-- what entry slot s adds to the directory's entries
unfoldable pub listed_at : List ℕ → ℕ → ℕ → List Entry
listed_at l d s = cond (is_listed_in l d s) ((entry_in l s).entry ∷ []) []

-- ---- the entries of a directory, slot by slot

-- those of the slots from i on, up to k
abbrev pub listed_from : List ℕ → ℕ → ℕ → ℕ → List Entry
listed_from l d k i = entries_of d (slots_from (entry_in l) i (k - i))

pub listed_step : (l : List ℕ) (d k i : ℕ) → i < k → listed_from l d k i ≡ listed_at l d i ++ listed_from l d k (i + 1)
unfolding entries_of slots_from listed_at
listed_step l d k i h =
    ap (λ (n : ℕ). entries_of d (slots_from (entry_in l) i n)) {x = k - i} {y = suc (k - (i + 1))} (omega arith)
    ∙ go (is_listed_in l d i)
    ∙ ap (λ (j : ℕ). listed_at l d i ++ entries_of d (slots_from (entry_in l) j (k - (i + 1)))) {x = suc i} {y = i + 1}
    (omega arith)
  where
    go : (b : Bool) →
        cond b ((entry_in l i).entry ∷ entries_of d (slots_from (entry_in l) (suc i) (k - (i + 1))))
        (entries_of d (slots_from (entry_in l) (suc i) (k - (i + 1))))
        ≡ cond b ((entry_in l i).entry ∷ []) [] ++ entries_of d (slots_from (entry_in l) (suc i) (k - (i + 1)))
    go true = refl
    go false = refl

pub listed_end : (l : List ℕ) (d k i : ℕ) → k ≤ i → listed_from l d k i ≡ []
unfolding entries_of slots_from
listed_end l d k i h =
    ap (λ (n : ℕ). entries_of d (slots_from (entry_in l) i n)) {x = k - i} {y = 0} (omega arith)

-- all of them, over the slots that are used
pub listed_all : (l : List ℕ) (d k : ℕ) → k ≡ entries_used l → listed_from l d k 0 ≡ entries_of d (table_of l).entries
unfolding table_of
listed_all l d k e =
    ap (λ (n : ℕ). entries_of d (slots_from (entry_in l) 0 n)) {x = k - 0} {y = entries_used l} (omega arith)

-- a slot of another directory, and one of this
pub not_listed : (l : List ℕ) (d s : ℕ) → is_listed_in l d s ≡ false → listed_at l d s ≡ []
unfolding listed_at
not_listed l d s e = ap (λ (b : Bool). cond b ((entry_in l s).entry ∷ []) []) e

pub is_listed_law : (l : List ℕ) (d s : ℕ) → is_listed_in l d s ≡ true → listed_at l d s ≡ entry_at l (entry_slot s) ∷ []
unfolding listed_at
is_listed_law l d s e =
    ap (λ (b : Bool). cond b ((entry_in l s).entry ∷ []) []) e
    ∙ ap (λ (x : Listed). x.entry ∷ []) (listed_fields l (entry_slot s))

-- ---- a turn of each loop that writes

-- head h written as the i-th behind the first, and then those above it
pub head_written : (out : List ℕ) (i : ℕ) (h : Head) (hs : List Head) →
    56 + 40 * (i + suc (length hs)) ≤ length out →
    splice (splice out (56 + 40 * i) (head_bytes h)) (56 + 40 * (i + 1)) (rows head_bytes hs)
    ≡ splice out (56 + 40 * i) (rows head_bytes (h ∷ hs))
head_written out i h hs f =
    ap (λ (r : List ℕ). splice (splice out (56 + 40 * i) r) (56 + 40 * (i + 1)) (rows head_bytes hs))
    (sym (rows_one head_bytes h))
    ∙ ap (λ (o : ℕ). splice (splice out (56 + 40 * i) (rows head_bytes (h ∷ []))) o (rows head_bytes hs))
    {x = 56 + 40 * (i + 1)} {y = 56 + 40 * i + 40 * 1} (omega arith)
    ∙ rows_written head_bytes 40 length_head_bytes out (56 + 40 * i) (h ∷ []) hs (omega arith)
