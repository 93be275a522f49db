-- Each row of the examples P1 to P12 of document 01 agrees: the definitions give what the document says. Assumes nothing.
use Rattle.std.specs.Prelude.{◌≡◌, refl, true}
use mathlib.Core.List.{Memᴰ}
use Rattle.codec.specs.Bytes.{chunk, le, bytes_of, same_bytes}
use Rattle.codec.specs.Laws.{same_eq}
use Rattle.codec.specs.Lists.{every, every_member}
use Rattle.names.specs.Names.{same_name, is_text, is_name, name_from}
use Rattle.numbers.specs.Nodes.{has, single, join, without}
use Rattle.numbers.specs.Ids.{is_made, is_id, is_stamp, is_version}
use Rattle.records.specs.Heads.{head_bytes, head_of, head_in_range, head_fits, is_root, is_ordinary}
use Rattle.records.specs.Entries.{entry_bytes, entry_of, entry_in_range, entry_fits}
use Rattle.messages.specs.Acknowledgements.{ack_bytes, ack_of, ack_in_range, ack_fits}
use Rattle.messages.specs.PushHeaders.{push_bytes, push_of, push_in_range, push_fits}
use Rattle.document.specs.Tables.{fresh, first, entries_of, rows, slots_from, every_slot}
use Rattle.document.specs.Sound.{distinct}
use Rattle.document.specs.Steps.{join_into, put_head, set_by, join_all, odd_all, issue, same_entries, settle_all, settle, relive, make_live, too_many, past_end}
use Rattle.document.specs.Messages.{message_bytes, message_of, message_in_range, chained, hangs_together, read_push, read_ack, chain_up, push_from}
use Rattle.document.specs.Receive.{highest, step_a, step_b, step_c, set_above, step_f, taken, received, odd}
use Rattle.document.specs.Outcomes.{judged}
use Rattle.document.specs.Calls.{name_taken, created, create_in, spread_to, spread_in, push_in, take_in, receive_in, clear, clear_in, start}
use Rattle.document.specs.Examples.{Row, agrees, examples, left, wrote, answer, seen, part_of, holders, holders_pending, makes, stamps, entry_with, flags, either_order, lowest, nested, file_below, filled, pushed, file, tells, known, held, acknowledges}

pub every_row : every agrees examples ≡ true
unfolding examples agrees left wrote answer seen part_of holders holders_pending makes stamps entry_with flags either_order lowest nested file_below filled pushed file tells known held acknowledges chunk le bytes_of same_bytes every same_name is_text is_name name_from has single join without is_made is_id is_stamp is_version head_bytes head_of head_in_range head_fits is_root is_ordinary entry_bytes entry_of entry_in_range entry_fits ack_bytes ack_of ack_in_range ack_fits push_bytes push_of push_in_range push_fits fresh first entries_of rows slots_from every_slot distinct join_into put_head set_by join_all odd_all issue same_entries settle_all settle relive make_live too_many past_end message_bytes message_of message_in_range chained hangs_together read_push read_ack chain_up push_from highest step_a step_b step_c set_above step_f taken received odd judged name_taken created create_in spread_to spread_in push_in take_in receive_in clear clear_in start
every_row = refl

-- ---- so in each row the definitions give what the document says

pub row_holds : {r : Row} → Memᴰ r examples → r.got ≡ r.want
unfolding agrees
row_holds {r} m = same_eq r.got r.want (every_member agrees m every_row)
