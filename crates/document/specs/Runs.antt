-- Both runs of document 01, computed: the definitions give what the document says, by `refl`; then two more, for what the
-- two do not show. Messages go through their bytes; tables are taken as tables. Assumes nothing.
use Rattle.std.specs.Prelude.{◌≡◌, refl, List, [], ◌∷◌, ℕ, zero, suc, ◌+◌}
use Rattle.std.proofs.Math.Option.{Option, some, none}
use Rattle.codec.specs.Bytes.{chunk, le, bytes_of, same_bytes}
use Rattle.codec.specs.Lists.{every}
use Rattle.names.specs.Names.{same_name, is_text, is_name, name_from, name_bytes}
use Rattle.numbers.specs.Nodes.{has, single, join, without, members}
use Rattle.numbers.specs.Ids.{is_made, is_id, is_stamp, is_version}
use Rattle.records.specs.declared.head.Head.{Head}
use Rattle.records.specs.declared.entry.Entry.{Entry}
use Rattle.records.specs.Heads.{head_bytes, head_of, head_in_range, head_fits, is_root, is_ordinary}
use Rattle.records.specs.Entries.{entry_bytes, entry_of, entry_in_range, entry_fits}
use Rattle.messages.specs.Acknowledgements.{ack_bytes, ack_of, ack_in_range, ack_fits}
use Rattle.messages.specs.PushHeaders.{push_bytes, push_of, push_in_range, push_fits}
use Rattle.slots.specs.declared.replica.Replica.{Replica}
use Rattle.document.specs.Tables.{Table, fresh, first, head_of as head, entry_of as entry, entries_of, rows, slots_from, every_slot}
use Rattle.document.specs.Sound.{distinct}
use Rattle.document.specs.Steps.{join_into, put_head, set_by, join_all, odd_all, issue, same_entries, settle_all, settle, relive, make_live, too_many, past_end}
use Rattle.document.specs.Messages.{message_bytes, message_of, message_in_range, chained, hangs_together, read_push, read_ack, chain_up, push_from}
use Rattle.document.specs.Receive.{highest, step_a, step_b, step_c, set_above, step_f, taken, received, odd}
use Rattle.document.specs.Outcomes.{Outcome, refused, done, judged}
use Rattle.document.specs.Calls.{name_taken, any_shown, live_child, created, create_in, killed, renamed, rename_in, remove_in, push_in, take_in, receive_in, clear, clear_in, if_ack, pending_sum}

-- a call's table, and what it wrote; a refused call changes nothing
unfoldable now! : Outcome → Table → Table
now! (refused k) t = t
now! (done v u w) t = u

unfoldable wrote : Outcome → List ℕ
wrote (refused k) = []
wrote (done v u w) = w

record Two : Type 0 where
  one : Table
  two : Table

-- the first of two tells the second of the replica with that id, and is answered; what is not pending is not told
unfoldable tell : ℕ → ℕ → Two → Two
tell now id s =
    let message = wrote (push_in id s.two.own 1640 s.one) in
    let answer = receive_in now message 16 s.two in
    record {
      one = now! (if_ack (read_ack s.one.nodes (wrote answer)) (clear_in s.one)) s.one;
      two = now! answer s.two;
    }

unfoldable turned : Two → Two
turned s = record { one = s.two; two = s.one }

unfoldable tell_all : ℕ → List Replica → Two → Two
tell_all now [] s = s
tell_all now (r ∷ rs) s = tell_all now rs (tell now r.head.id s)

-- both tell each other all that is pending, k times
unfoldable settled : ℕ → ℕ → Two → Two
settled zero now s = s
settled (suc k) now s =
    let there = tell_all now s.one.replicas s in
    settled k now (turned (tell_all now there.two.replicas (turned there)))

-- ---- "Run: N 2, nodes hold all. Node 1 makes /alice (now 1) and /foo (2); node 2, once quiet, /bob (3). Quiet again; at 12
-- node 1 moves foo to /alice/foo1 and node 2 to /bob/foo2."

abbrev alice : ℕ
alice = 16777217

abbrev foo : ℕ
foo = 16777218

abbrev bob : ℕ
bob = 33554433

unfoldable made : Two
made =
    let a = now! (create_in 1 0 2 (97 ∷ 108 ∷ 105 ∷ 99 ∷ 101 ∷ []) 3 (fresh 1 2)) (fresh 1 2) in
    let f = now! (create_in 2 0 1 (102 ∷ 111 ∷ 111 ∷ []) 3 a) a in
    let q = settled 2 2 (record { one = f; two = fresh 2 2 }) in
    let b = now! (create_in 3 0 2 (98 ∷ 111 ∷ 98 ∷ []) 3 q.two) q.two in
    settled 2 3 (record { one = q.one; two = b })

unfoldable moved : Two
moved =
    let a = rename_in 12 foo alice (102 ∷ 111 ∷ 111 ∷ 49 ∷ []) made.one in
    let b = rename_in 12 foo bob (102 ∷ 111 ∷ 111 ∷ 50 ∷ []) made.two in
    settled 3 12 (record { one = now! a made.one; two = now! b made.two })

-- what a table shows of a file (stamp, live flag, place) and of an entry (stamp, live flag)
abbrev state_of : Option Head → List ℕ
state_of none = []
state_of (some h) = h.stamp ∷ h.live ∷ h.directory ∷ name_bytes h.name

abbrev flag_of : Option Entry → List ℕ
flag_of none = []
flag_of (some e) = e.stamp ∷ e.live ∷ []

-- "At quiet: foo has 3074 at /bob/foo2; root's "foo" and alice's "foo1" are dead at 3074."
record FirstRun (t : Table) : Type 0 where
  quiet : pending_sum t.replicas ≡ 0
  state : state_of (head t foo) ≡ 3074 ∷ 1 ∷ bob ∷ name_bytes (name_from (102 ∷ 111 ∷ 111 ∷ 50 ∷ []))
  shown : flag_of (entry t bob foo (name_from (102 ∷ 111 ∷ 111 ∷ 50 ∷ []))) ≡ 3074 ∷ 1 ∷ []
  old : flag_of (entry t 0 foo (name_from (102 ∷ 111 ∷ 111 ∷ []))) ≡ 3074 ∷ 0 ∷ []
  loser : flag_of (entry t alice foo (name_from (102 ∷ 111 ∷ 111 ∷ 49 ∷ []))) ≡ 3074 ∷ 0 ∷ []

first_run_one : FirstRun moved.one
unfolding moved made now! wrote tell turned tell_all settled chunk le bytes_of same_bytes every same_name is_text is_name name_from has single join without members is_made is_id is_stamp is_version head_bytes head_of head_in_range head_fits is_root is_ordinary entry_bytes entry_of entry_in_range entry_fits ack_bytes ack_of ack_in_range ack_fits push_bytes push_of push_in_range push_fits fresh first entries_of rows slots_from every_slot distinct join_into put_head set_by join_all odd_all issue same_entries settle_all settle relive make_live too_many past_end message_bytes message_of message_in_range chained hangs_together read_push read_ack chain_up push_from highest step_a step_b step_c set_above step_f taken received odd judged name_taken any_shown live_child created create_in killed renamed rename_in remove_in push_in take_in receive_in clear clear_in pending_sum
first_run_one = record { quiet = refl; state = refl; shown = refl; old = refl; loser = refl }

first_run_two : FirstRun moved.two
unfolding moved made now! wrote tell turned tell_all settled chunk le bytes_of same_bytes every same_name is_text is_name name_from has single join without members is_made is_id is_stamp is_version head_bytes head_of head_in_range head_fits is_root is_ordinary entry_bytes entry_of entry_in_range entry_fits ack_bytes ack_of ack_in_range ack_fits push_bytes push_of push_in_range push_fits fresh first entries_of rows slots_from every_slot distinct join_into put_head set_by join_all odd_all issue same_entries settle_all settle relive make_live too_many past_end message_bytes message_of message_in_range chained hangs_together read_push read_ack chain_up push_from highest step_a step_b step_c set_above step_f taken received odd judged name_taken any_shown live_child created create_in killed renamed rename_in remove_in push_in take_in receive_in clear clear_in pending_sum
first_run_two = record { quiet = refl; state = refl; shown = refl; old = refl; loser = refl }

-- ---- "Run: /d has stamp 257 on both, N 2. At 5 node 1 makes /d/f (1281) for itself, node 2 removes /d (1282). Node 1
-- receives that at 6: /d lives with 1537."

abbrev d : ℕ
d = 16777217

unfoldable both : Two
both =
    settled 2 1 (record { one = now! (create_in 1 0 2 (100 ∷ []) 3 (fresh 1 2)) (fresh 1 2); two = fresh 2 2 })

unfoldable parted : Two
parted =
    record {
      one = now! (create_in 5 d 1 (102 ∷ []) 0 both.one) both.one;
      two = now! (remove_in 5 d both.two) both.two;
    }

-- node 2 tells node 1 of /d at 6, and then they fall quiet
unfoldable told : Two
told = turned (tell 6 d (turned parted))

unfoldable mended : Two
mended = settled 3 6 told

abbrev stamp_of? : Option Head → List ℕ
stamp_of? none = []
stamp_of? (some h) = h.stamp ∷ h.live ∷ []

record SecondRun (parted told mended : Two) : Type 0 where
  made : stamp_of? (head parted.one (d + 1)) ≡ 1281 ∷ 1 ∷ []
  removed : stamp_of? (head parted.two d) ≡ 1282 ∷ 0 ∷ []
  lives : stamp_of? (head told.one d) ≡ 1537 ∷ 1 ∷ []
  quiet : pending_sum mended.one.replicas + pending_sum mended.two.replicas ≡ 0
  -- "At quiet both show it."
  one : stamp_of? (head mended.one d) ≡ 1537 ∷ 1 ∷ []
  two : stamp_of? (head mended.two d) ≡ 1537 ∷ 1 ∷ []
  one_shows : flag_of (entry mended.one 0 d (name_from (100 ∷ []))) ≡ 1537 ∷ 1 ∷ []
  two_shows : flag_of (entry mended.two 0 d (name_from (100 ∷ []))) ≡ 1537 ∷ 1 ∷ []

second_run : SecondRun parted told mended
unfolding mended told parted both now! wrote tell turned tell_all settled chunk le bytes_of same_bytes every same_name is_text is_name name_from has single join without members is_made is_id is_stamp is_version head_bytes head_of head_in_range head_fits is_root is_ordinary entry_bytes entry_of entry_in_range entry_fits ack_bytes ack_of ack_in_range ack_fits push_bytes push_of push_in_range push_fits fresh first entries_of rows slots_from every_slot distinct join_into put_head set_by join_all odd_all issue same_entries settle_all settle relive make_live too_many past_end message_bytes message_of message_in_range chained hangs_together read_push read_ack chain_up push_from highest step_a step_b step_c set_above step_f taken received odd judged name_taken any_shown live_child created create_in killed renamed rename_in remove_in push_in take_in receive_in clear clear_in pending_sum
second_run = record { made = refl; removed = refl; lives = refl; quiet = refl; one = refl; two = refl; one_shows = refl; two_shows = refl }

-- ---- a late acknowledgement: "the change made since the push is then never told". /d is on both; node 1 makes /d/f for
-- itself, which changes /d's entries alone, and then hears once more that node 2 has /d's first version.

unfoldable changed : Table
changed = now! (create_in 5 d 1 (102 ∷ []) 0 both.one) both.one

unfoldable heard : Table
heard =
    let made = now! (create_in 1 0 2 (100 ∷ []) 3 (fresh 1 2)) (fresh 1 2) in
    let late = wrote (receive_in 1 (wrote (push_in d 2 1640 made)) 16 (fresh 2 2)) in
    now! (if_ack (read_ack 2 late) (clear_in changed)) changed

unfoldable telling : Two
telling = settled 2 5 (record { one = heard; two = both.two })

record LateRun (heard : Table) (telling : Two) : Type 0 where
  pending : pending_sum heard.replicas ≡ 1
  quiet : pending_sum telling.one.replicas + pending_sum telling.two.replicas ≡ 0
  one : flag_of (entry telling.one d (d + 1) (name_from (102 ∷ []))) ≡ 1281 ∷ 1 ∷ []
  two : flag_of (entry telling.two d (d + 1) (name_from (102 ∷ []))) ≡ 1281 ∷ 1 ∷ []

late_run : LateRun heard telling
unfolding telling heard changed both now! wrote tell turned tell_all settled chunk le bytes_of same_bytes every same_name is_text is_name name_from has single join without members is_made is_id is_stamp is_version head_bytes head_of head_in_range head_fits is_root is_ordinary entry_bytes entry_of entry_in_range entry_fits ack_bytes ack_of ack_in_range ack_fits push_bytes push_of push_in_range push_fits fresh first entries_of rows slots_from every_slot distinct join_into put_head set_by join_all odd_all issue same_entries settle_all settle relive make_live too_many past_end message_bytes message_of message_in_range chained hangs_together read_push read_ack chain_up push_from highest step_a step_b step_c set_above step_f taken received odd judged name_taken any_shown live_child created create_in killed renamed rename_in remove_in push_in take_in receive_in clear clear_in pending_sum
late_run = record { pending = refl; quiet = refl; one = refl; two = refl }

-- ---- an ancestor's holders: node 1 makes /d for itself and /d/f for node 2 too, which so comes to hold /d, and says so

unfoldable shared : Two
shared =
    let made = now! (create_in 1 0 2 (100 ∷ []) 0 (fresh 1 2)) (fresh 1 2) in
    settled 3 2 (record { one = now! (create_in 2 d 1 (102 ∷ []) 2 made) made; two = fresh 2 2 })

abbrev holders_of : Option Head → ℕ
holders_of none = 0
holders_of (some h) = h.holders

record SharedRun (s : Two) : Type 0 where
  quiet : pending_sum s.one.replicas + pending_sum s.two.replicas ≡ 0
  one : holders_of (head s.one d) ≡ 3
  two : holders_of (head s.two d) ≡ 3

shared_run : SharedRun shared
unfolding shared now! wrote tell turned tell_all settled chunk le bytes_of same_bytes every same_name is_text is_name name_from has single join without members is_made is_id is_stamp is_version head_bytes head_of head_in_range head_fits is_root is_ordinary entry_bytes entry_of entry_in_range entry_fits ack_bytes ack_of ack_in_range ack_fits push_bytes push_of push_in_range push_fits fresh first entries_of rows slots_from every_slot distinct join_into put_head set_by join_all odd_all issue same_entries settle_all settle relive make_live too_many past_end message_bytes message_of message_in_range chained hangs_together read_push read_ack chain_up push_from highest step_a step_b step_c set_above step_f taken received odd judged name_taken any_shown live_child created create_in killed renamed rename_in remove_in push_in take_in receive_in clear clear_in pending_sum
shared_run = record { quiet = refl; one = refl; two = refl }
