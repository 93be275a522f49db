-- The examples P1 to P12 of document 01 as one table: each row has what the definitions give and what the document says.
-- Every example goes through the calls, or the steps, that it is about. `proofs/Examples` has that every row agrees.
-- Assumes nothing.
use Rattle.std.specs.Prelude.{Bool, ℕ, zero, suc, ◌+◌, length}
use Rattle.std.proofs.Math.Option.{Option, some, none}
use mathlib.Core.List.{List, [], ◌∷◌, ◌++◌, map}
use Rattle.codec.specs.Bytes.{same_bytes, zeros}
use Rattle.names.specs.Names.{name_from}
use Rattle.numbers.specs.Ids.{id_of}
use Rattle.records.specs.declared.head.Head.{Head}
use Rattle.records.specs.declared.entry.Entry.{Entry}
use Rattle.records.specs.Heads.{root_head}
use Rattle.messages.specs.Acknowledgements.{ack_bytes}
use Rattle.slots.specs.declared.replica.Replica.{Replica}
use Rattle.slots.specs.declared.listed.Listed.{Listed}
use Rattle.document.specs.Tables.{Table, with_highest, fresh, find, entries_of}
use Rattle.document.specs.Steps.{join_into}
use Rattle.document.specs.Messages.{message_bytes, read_ack}
use Rattle.document.specs.Outcomes.{Outcome, refused, done, number_of, value_of}
use Rattle.document.specs.Calls.{create_in, spread_in, push_in, receive_in, clear_in, if_ack, start}

pub record Row : Type 0 where
  pub got : List ℕ
  pub want : List ℕ

abbrev pub gives : List ℕ → List ℕ → Row
gives got want = record { got = got; want = want }

unfoldable pub agrees : Row → Bool
agrees r = same_bytes r.got r.want

-- ---- what is read off a call

-- the table that it leaves; of a refused one a table for no node, with which no row below agrees
unfoldable pub left : Outcome → Table
left (refused k) = fresh 0 0
left (done v t w) = t

unfoldable pub wrote : Outcome → List ℕ
wrote (refused k) = []
wrote (done v t w) = w

-- number, value and how many bytes are written
unfoldable pub answer : Outcome → List ℕ
answer o = number_of o ∷ value_of o ∷ length (wrote o) ∷ []

-- a part of a replica, if it is held
unfoldable pub seen : (Replica → List ℕ) → Option Replica → List ℕ
seen f none = []
seen f (some r) = f r

unfoldable pub part_of : (Replica → List ℕ) → ℕ → Table → List ℕ
part_of f id t = seen f (find id t.replicas)

unfoldable pub holders : Replica → List ℕ
holders r = r.head.holders ∷ []

unfoldable pub holders_pending : Replica → List ℕ
holders_pending r = r.head.holders ∷ r.pending ∷ []

-- ---- P1 to P4: a file "a" is made in the root, for nodes 1 and 2

unfoldable pub makes : ℕ → Table → Outcome
makes now t = create_in now 0 1 (97 ∷ []) 3 t

-- the stamp of what was made, and of its entry
unfoldable pub stamps : Outcome → List ℕ
stamps o =
    part_of (λ (r : Replica). r.head.stamp ∷ []) (value_of o) (left o)
    ++ map (λ (x : Listed). x.entry.stamp) (left o).entries

-- ---- P2 and P8: two entries for one child and name are joined, either order

unfoldable pub entry_with : ℕ → ℕ → Listed
entry_with live stamp =
    record { entry = record { live = live; child = id_of 1 1; stamp = stamp; name = name_from (97 ∷ []) }; directory = 0 }

unfoldable pub flags : List Listed → List ℕ
flags [] = []
flags (x ∷ xs) = x.entry.live ∷ x.entry.stamp ∷ flags xs

unfoldable pub either_order : Listed → Listed → List ℕ
either_order a b = flags (join_into b (join_into a [])) ++ flags (join_into a (join_into b []))

-- ---- P5: k directories, each in the one before, and a file in the last; k files in the root

unfoldable pub lowest : ℕ → ℕ
lowest zero = 0
lowest (suc k) = id_of 1 (suc k)

unfoldable pub nested : ℕ → Table
nested zero = fresh 1 2
nested (suc k) = left (create_in 1 (lowest k) 2 (97 ∷ []) 3 (nested k))

unfoldable pub file_below : ℕ → Table
file_below k = left (create_in 1 (lowest k) 1 (97 ∷ []) 3 (nested k))

unfoldable pub filled : ℕ → Table
filled zero = fresh 1 2
filled (suc k) = left (create_in 1 0 1 ((65 + k) ∷ []) 3 (filled k))

-- depth and entries, and what comes back of the push to node 2
unfoldable pub pushed : ℕ → Table → List ℕ
pushed id t =
    part_of (λ (r : Replica). r.head.depth ∷ length (entries_of id t.entries) ∷ []) id t ++ answer (push_in id 2 1640 t)

-- ---- P9 and P10: node 1 is told of a file "a" in the root, or of the root

unfoldable pub file : ℕ → ℕ → ℕ → ℕ → Head
file id live stamp holders =
    record {
      kind = 1;
      live = live;
      id = id;
      stamp = stamp;
      holders = holders;
      depth = 1;
      directory = 0;
      name = name_from (97 ∷ []);
    }

unfoldable pub tells : ℕ → Head → List Entry → List ℕ
tells node h entries =
    message_bytes (record { sender = node; addressee = 1; version = 2; first = h; above = []; entries = entries })

-- node 2 makes the file at 12, so with the stamp 3074, and node 1 receives it
unfoldable pub known : Table
known = left (receive_in 12 (wrote (push_in (id_of 2 1) 1 1640 (left (makes 12 (fresh 2 2))))) 16 (fresh 1 2))

-- node 1 of three makes it at 12: stamp 3073, holders 03
unfoldable pub held : Table
held = left (makes 12 (fresh 1 3))

-- ---- P11: node 2 acknowledges a version of the root

unfoldable pub acknowledges : ℕ → Table → Outcome
acknowledges version t =
    if_ack (read_ack 2 (ack_bytes (record { sender = 2; addressee = 1; version = version; id = 0 }))) (clear_in t)

-- ---- the table

unfoldable pub examples : List Row
examples =
    -- "P1 clock 12: node 1 gives 3073, node 2 gives 3074."
    gives (stamps (makes 12 (fresh 1 2))) (3073 ∷ 3073 ∷ [])
    ∷ gives (stamps (makes 12 (fresh 2 2))) (3074 ∷ 3074 ∷ [])
    -- "P2 13 by node 1, 3329, beats 12 by node 8, 3080."
    ∷ gives (stamps (makes 13 (fresh 1 8))) (3329 ∷ 3329 ∷ [])
    ∷ gives (stamps (makes 12 (fresh 8 8))) (3080 ∷ 3080 ∷ [])
    ∷ gives (either_order (entry_with 1 3329) (entry_with 0 3080)) (1 ∷ 3329 ∷ 1 ∷ 3329 ∷ [])
    -- "P3 node 2's first id is 33554433."
    ∷ gives (answer (makes 1 (fresh 2 2))) (0 ∷ 33554433 ∷ 0 ∷ [])
    -- "P4 highest 9: now 5 gives 10, now 10 gives 10, now 20 gives 20."
    ∷ gives (map (λ (now : ℕ). (left (makes now (with_highest (fresh 1 2) 9))).highest) (5 ∷ 10 ∷ 20 ∷ [])) (10 ∷ 10 ∷ 20 ∷ [])
    -- "P5 push of a file at depth 1: 56 bytes; at 16: 656; root with 32 entries: 1,080."
    ∷ gives (pushed (id_of 1 1) (file_below 0)) (1 ∷ 0 ∷ 0 ∷ 56 ∷ 56 ∷ [])
    ∷ gives (pushed (id_of 1 16) (file_below 15)) (16 ∷ 0 ∷ 0 ∷ 656 ∷ 656 ∷ [])
    ∷ gives (pushed 0 (filled 32)) (0 ∷ 32 ∷ 0 ∷ 1080 ∷ 1080 ∷ [])
    -- "P6 "..." is a name, "..", "a/b" and the empty one are not."
    ∷ gives
    (map (λ (name : List ℕ). number_of (create_in 1 0 1 name 0 (fresh 1 2)))
    ((46 ∷ 46 ∷ 46 ∷ []) ∷ (46 ∷ 46 ∷ []) ∷ (97 ∷ 47 ∷ 98 ∷ []) ∷ [] ∷ []))
    (0 ∷ 2 ∷ 2 ∷ 2 ∷ [])
    -- "P7 fifteen bytes are a name."
    ∷ gives
    (answer
    (create_in 1 0 1 (97 ∷ 98 ∷ 99 ∷ 100 ∷ 101 ∷ 102 ∷ 103 ∷ 104 ∷ 105 ∷ 106 ∷ 107 ∷ 108 ∷ 109 ∷ 110 ∷ 111 ∷ []) 0 (fresh 1 2)))
    (0 ∷ 16777217 ∷ 0 ∷ [])
    -- "P8 live 3073 joined with dead 3074: dead 3074, either order."
    ∷ gives (either_order (entry_with 1 3073) (entry_with 0 3074)) (0 ∷ 3074 ∷ 0 ∷ 3074 ∷ [])
    -- "P9 3074 live against 3074 dead: 13.": of an entry, and of a state
    ∷ gives
    (answer
    (receive_in 13
    (tells 2 (root_head 2) (record { live = 0; child = id_of 2 1; stamp = 3074; name = name_from (97 ∷ []) } ∷ [])) 16 known))
    (13 ∷ 0 ∷ 0 ∷ [])
    ∷ gives (answer (receive_in 13 (tells 2 (file (id_of 2 1) 0 3074 3) []) 16 known)) (13 ∷ 0 ∷ 0 ∷ [])
    -- "P10 at node 1, holders 03 with 05: 07, pending 06.": spread to 05, and told of 05 by node 3
    ∷ gives (part_of holders_pending (id_of 1 1) (left (spread_in (id_of 1 1) 5 held))) (7 ∷ 6 ∷ [])
    ∷ gives
    (part_of holders_pending (id_of 1 1) (left (receive_in 13 (tells 3 (file (id_of 1 1) 1 3073 5) []) 16 held)))
    (7 ∷ 6 ∷ [])
    -- "P11 acknowledged 4, current 5: 15.": with four files made, the root has version 5
    ∷ gives (answer (acknowledges 4 (filled 4))) (15 ∷ 0 ∷ 0 ∷ [])
    ∷ gives (answer (acknowledges 5 (filled 4))) (0 ∷ 0 ∷ 0 ∷ [])
    -- "P12 fresh, N 3: root holders 07."
    ∷ gives (part_of holders 0 (left (start (zeros 13344) 1 3))) (7 ∷ [])
    ∷ []
