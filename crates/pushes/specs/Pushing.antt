-- The push of a held replica, in its parts: the header that is told from the table, the room that it takes, and what is
-- written part by part. What the proofs of `pushes::write` cite. Assumes nothing.
use Rattle.std.specs.Prelude.{◌≡◌, List, ◌++◌, ℕ, suc, ◌+◌, ◌*◌, ◌≤◌, ◌<◌, max, Some}
use Rattle.std.proofs.Math.Path.{refl, ap, sym}
use Rattle.std.proofs.Common.{subst, ◌∙◌, append_assoc, zero-add, arith, length-append}
use Rattle.std.proofs.Math.Option.{some}
use Rattle.std.proofs.Math.ListN.{length}
use Rattle.codec.specs.Bytes.{u8_at, splice}
use Rattle.codec.specs.Laws.{splice_splice}
use Rattle.records.specs.declared.head.Head.{Head}
use Rattle.records.specs.declared.entry.Entry.{Entry}
use Rattle.records.specs.Heads.{head_bytes, length_head_bytes}
use Rattle.records.specs.Entries.{entry_bytes, length_entry_bytes}
use Rattle.messages.specs.declared.push_header.PushHeader.{PushHeader}
use Rattle.messages.specs.PushHeaders.{push_bytes, push_ext, length_push_bytes}
use Rattle.slots.specs.declared.replica.Replica.{Replica}
use Rattle.document.specs.Tables.{find, has_id, head_of?, head_of, entries_of, rows, slots_from, replica_in, entry_in, replicas_used, entries_used, table_of}
use Rattle.document.specs.Messages.{Push, header_of_push, message_bytes, chain_up, entry_spot, push_from}
use Rattle.document.specs.ReadingMessages.{length_message_bytes}
use Rattle.document.specs.Rows.{rows_length}
use Rattle.document.specs.Reading.{own_at, sound_length}
use Rattle.table.specs.Slots.{entries_in, first_replica, entries_count, found_slot}
use Rattle.views.specs.Puts.{find_id}
use Rattle.views.specs.Sounds.{Sound, sound_table}
use Rattle.views.specs.Chains.{head_count}
use Rattle.pushes.specs.Writing.{Held, Written, push_of_held}

module _ (l : List ℕ) (r : Replica) (held : Held l r) where
  -- a sound table is as long as a table
  pub held_long : 13344 ≤ length l
  held_long = sound_length l held.sound

  table_sound : Sound (table_of l)
  table_sound = sound_table l held.sound

  head_held : head_of (table_of l) r.head.id ≡ some r.head
  head_held = ap head_of? held.found

  -- as many entries as were counted over the slots in use, at most 32
  entries_counted : (k n : ℕ) → k ≡ entries_used l → n ≡ entries_in l k r.head.id →
      n ≡ length (entries_of r.head.id (table_of l).entries)
  unfolding table_of
  entries_counted k n e f =
      f ∙ sym (entries_count l r.head.id 0 k)
      ∙ ap (λ (m : ℕ). length (entries_of r.head.id (slots_from (entry_in l) 0 m))) e

  pub entries_few : (k n : ℕ) → k ≡ entries_used l → n ≡ entries_in l k r.head.id → n ≤ 32
  entries_few k n e f =
      omega (arith, entries_counted k n e f, table_sound.not_crowded_law r.head.id r.head head_held)

  -- the header, from what was read
  pub header_told : (node own heads k n : ℕ) → own ≡ u8_at l 2 → heads ≡ max 1 r.head.depth → k ≡ entries_used l →
      n ≡ entries_in l k r.head.id →
      record { sender = own; addressee = node; version = r.version; heads = heads; entries = n }
      ≡ header_of_push (push_of_held l r node)
  unfolding push_from
  header_told node own heads k n o h e f =
      push_ext (o ∙ own_at l) refl refl (h ∙ sym (head_count (table_of l) table_sound r.head.id r.head head_held))
      (entries_counted k n e f)

-- ---- what is written part by part is the message

pub parts_written : (out : List ℕ) (p : Push) → length (message_bytes p) ≤ length out →
    splice
    (splice (splice (splice out 0 (push_bytes (header_of_push p))) 16 (head_bytes p.first)) 56 (rows head_bytes p.above))
    (16 + 40 * suc (length p.above)) (rows entry_bytes p.entries)
    ≡ splice out 0 (message_bytes p)
unfolding message_bytes rows
parts_written out p f =
    let a = push_bytes (header_of_push p) in
    let b = head_bytes p.first in
    let c = rows head_bytes p.above in
    let d = rows entry_bytes p.entries in
    let la = length_push_bytes (header_of_push p) in
    let lb = length_head_bytes p.first in
    let lc = rows_length head_bytes 40 length_head_bytes p.above in
    let ld = rows_length entry_bytes 32 length_entry_bytes p.entries in
    let all = length_message_bytes p in
    let lab : length (a ++ b) ≡ 56 = length-append a b ∙ omega arith in
    let labc : length ((a ++ b) ++ c) ≡ 16 + 40 * suc (length p.above) = length-append (a ++ b) c ∙ omega arith in
    ap (λ (x : List ℕ). splice (splice x 56 c) (16 + 40 * suc (length p.above)) d)
    (splice_splice out 0 a 16 b la (omega arith))
    ∙ ap (λ (x : List ℕ). splice x (16 + 40 * suc (length p.above)) d)
    (splice_splice out 0 (a ++ b) 56 c lab (omega arith))
    ∙ ap (λ (o : ℕ). splice (splice out 0 ((a ++ b) ++ c)) o d) (sym (zero-add (16 + 40 * suc (length p.above))))
    ∙ splice_splice out 0 ((a ++ b) ++ c) (16 + 40 * suc (length p.above)) d labc (omega arith)
    ∙ ap (splice out 0) (simp append_assoc)

-- ---- what `write` has: the room for each part, and what its parts make

module _ (l : List ℕ) (r : Replica) (header : PushHeader) (room : ℕ) (w : Written l r header room) where
  -- the heads above, and the entries, as the code names them
  abbrev above_of : List Head
  above_of = chain_up r.head.depth r.head.directory (table_of l)

  abbrev listed_of : List Entry
  listed_of = entries_of r.head.id (table_of l).entries

  pub heads_told : header.heads ≡ suc (length above_of)
  unfolding push_from
  heads_told = ap (λ (p : PushHeader). p.heads) w.header_is

  pub room_told : 16 + 40 * suc (length above_of) + 32 * length listed_of ≤ room
  unfolding push_from
  room_told = omega (arith, w.fits, length_message_bytes (push_of_held l r header.addressee))

  pub message_written : (out : List ℕ) → length out ≡ room →
      splice
      (splice (splice (splice out 0 (push_bytes header)) 16 (head_bytes r.head)) 56 (rows head_bytes above_of))
      (16 + 40 * header.heads) (rows entry_bytes listed_of)
      ≡ splice out 0 (message_bytes (push_of_held l r header.addressee))
  unfolding push_from
  message_written out f =
      ap
      (λ (q : PushHeader).
      splice
      (splice (splice (splice out 0 (push_bytes q)) 16 (head_bytes r.head)) 56 (rows head_bytes above_of))
      (16 + 40 * q.heads) (rows entry_bytes listed_of))
      w.header_is
      ∙ parts_written out (push_of_held l r header.addressee) (omega (arith, w.fits))

-- ---- what a caller has: the slot that was found, the room that a header says, and what `write` asks

pub replica_found : (l : List ℕ) (m id i : ℕ) → m ≡ replicas_used l → first_replica l m id ≡ Some i →
    (i < m) × ((replica_in l i).head.id ≡ id) × (find id (table_of l).replicas ≡ some (replica_in l i))
unfolding table_of
replica_found l m id i e f =
    let p = found_slot (has_id id) (replica_in l) 0 m i f in
    let there = ap (λ (n : ℕ). find id (slots_from (replica_in l) 0 n)) (sym e) ∙ p.2 in
    (omega (arith, p.1), find_id id (table_of l).replicas (replica_in l i) there, there)

pub size_told : (header : PushHeader) (p : Push) → header ≡ header_of_push p →
    entry_spot header.heads header.entries ≡ length (message_bytes p)
size_told header p e =
    ap (λ (h : PushHeader). entry_spot h.heads h.entries) e ∙ sym (length_message_bytes p)

-- the node that a header names is the one that it was made for
pub node_told : (l : List ℕ) (r : Replica) (node : ℕ) (header : PushHeader) →
    header ≡ header_of_push (push_of_held l r node) → header.addressee ≡ node
unfolding push_from
node_told l r node header e = ap (λ (h : PushHeader). h.addressee) e

pub written : (l : List ℕ) (r : Replica) (node : ℕ) (header : PushHeader) (room : ℕ) → Held l r →
    header ≡ header_of_push (push_of_held l r node) → length (message_bytes (push_of_held l r node)) ≤ room →
    Written l r header room
written l r node header room h e f =
    let to = sym (node_told l r node header e) in
    record {
      held = h;
      header_is = e ∙ ap (λ (n : ℕ). header_of_push (push_of_held l r n)) to;
      fits = subst (λ (n : ℕ). length (message_bytes (push_of_held l r n)) ≤ room) to f;
    }
