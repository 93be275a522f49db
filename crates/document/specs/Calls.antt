-- The eleven calls, each with its refusals in one list, in the order of their numbers. A call is given the table's bytes;
-- what is sound is judged first. Assumes nothing.
use Rattle.std.specs.Prelude.{Bool, false, ◌&&◌, ◌||◌, not, cond, List, [], ◌∷◌, ℕ, ◌+◌, ◌*◌, ◌^◌, eqb, leb, ltb, length}
use Rattle.std.proofs.Math.Option.{Option, some, none}
use Rattle.names.specs.declared.Name.{Name}
use Rattle.names.specs.Names.{same_name, is_text, name_from}
use Rattle.numbers.specs.Nodes.{is_within, is_size, is_node, is_set, has, join, single, without, size}
use Rattle.numbers.specs.Ids.{id_of}
use Rattle.records.specs.declared.head.Head.{Head}
use Rattle.records.specs.declared.entry.Entry.{Entry}
use Rattle.records.specs.Entries.{entry_bytes}
use Rattle.messages.specs.declared.acknowledgement.Acknowledgement.{Acknowledgement}
use Rattle.messages.specs.Acknowledgements.{ack_bytes}
use Rattle.slots.specs.declared.replica.Replica.{Replica}
use Rattle.slots.specs.declared.listed.Listed.{Listed}
use Rattle.document.specs.Tables.{Table, table_size, with_replicas, with_next, fresh, find, head_of?, head_of, rows}
use Rattle.document.specs.Sound.{is_live, is_directory, is_root_id, held_and, is_held, read_sound}
use Rattle.document.specs.Steps.{put, issue, settle, with_state, with_place, with_holders, is_dead, too_many, past_end}
use Rattle.document.specs.Messages.{Push, message_bytes, push_from, read_push, read_ack}
use Rattle.document.specs.Receive.{received, odd, ack_for}
use Rattle.document.specs.Outcomes.{Outcome, refused, done, Refusal, judged}

-- ---- the refusals

abbrev pub when : ℕ → Bool → Refusal
when k b = record { number = k; holds = b }

-- "1: table not sound"
abbrev pub if_sound : Option Table → (Table → Outcome) → Outcome
if_sound none f = refused 1
if_sound (some t) f = f t

abbrev pub on_sound : List ℕ → (Table → Outcome) → Outcome
on_sound l f = if_sound (read_sound l) f

-- "2: .. now above 2^40-1"
abbrev pub is_now : ℕ → Bool
is_now now = ltb now (2 ^ 40)

-- "6: an id named isn't held"
abbrev pub not_held : Option Head → Bool
not_held o = not (is_held o)

-- "8: wrong kind (unlink, rename: a file; create, list, remove, the target of a rename: a directory)": of what is held
abbrev pub not_file : Option Head → Bool
not_file o = held_and is_directory o

abbrev pub not_directory : Option Head → Bool
not_directory o = held_and (λ h. not (is_directory h)) o

-- "9: create or rename: a live entry there has that name"
abbrev pub is_shown : Listed → Bool
is_shown x = eqb x.entry.live 1

unfoldable pub name_taken : ℕ → Name → List Listed → Bool
name_taken d name [] = false
name_taken d name (x ∷ xs) = (eqb x.directory d && (is_shown x && same_name x.entry.name name)) || name_taken d name xs

-- "10: remove: a live entry, or a held live child"
unfoldable pub any_shown : ℕ → List Listed → Bool
any_shown d [] = false
any_shown d (x ∷ xs) = (eqb x.directory d && is_shown x) || any_shown d xs

unfoldable pub live_child : ℕ → List Replica → Bool
live_child d [] = false
live_child d (r ∷ rs) = (eqb r.head.directory d && (is_live r.head && not (is_root_id r.head))) || live_child d rs

-- "11: create or rename: the directory is 16 deep"
abbrev pub deepest : Option Head → Bool
deepest o = held_and (λ h. leb 16 h.depth) o

-- "12: unlink, rename: the place directory isn't held"
abbrev pub place_not_held : Table → Option Head → Bool
place_not_held t o = held_and (λ h. not_held (head_of t h.directory)) o

-- "16" and "17" are judged on the outcome, which there is for what is held
abbrev pub changed_by : (Head → Table) → Table → Option Head → Table
changed_by f t none = t
changed_by f t (some h) = f h

-- ---- start, create, unlink, rename, remove, spread

abbrev pub start_refusals : List ℕ → ℕ → ℕ → List Refusal
start_refusals l node n = when 1 (not (eqb (length l) table_size)) ∷ when 2 (not (is_size n && is_node n node)) ∷ []

unfoldable pub start : List ℕ → ℕ → ℕ → Outcome
start l node n =
    judged (start_refusals l node n) (done 0 (fresh node n) [])

-- "Create: next id, new stamp, holders are the given set with the own node."
abbrev pub new_head : ℕ → Name → ℕ → Table → Head → ℕ → Head
new_head kind name set t p stamp =
    record {
      kind = kind;
      live = 1;
      id = id_of t.own t.next;
      stamp = stamp;
      holders = join set (single t.own);
      depth = p.depth + 1;
      directory = p.id;
      name = name;
    }

unfoldable pub created : ℕ → ℕ → Name → ℕ → Table → Head → Table
created now kind name set t p = settle t (issue now (new_head kind name set t p) (with_next t (t.next + 1)))

abbrev pub create_refusals : ℕ → ℕ → ℕ → List ℕ → ℕ → Table → List Refusal
create_refusals now d kind name set t =
    let p = head_of t d in
    let after = changed_by (created now kind (name_from name) set t) t p in
    when 2 (not (is_now now && (is_within 1 kind 2 && (is_text name && is_set t.nodes set))))
    ∷ when 6 (not_held p)
    ∷ when 7 (is_dead p)
    ∷ when 8 (not_directory p)
    ∷ when 9 (name_taken d (name_from name) t.entries)
    ∷ when 11 (deepest p)
    ∷ when 16 (too_many after)
    ∷ when 17 (past_end after)
    ∷ []

unfoldable pub create_in : ℕ → ℕ → ℕ → List ℕ → ℕ → Table → Outcome
create_in now d kind name set t =
    let p = head_of t d in
    let after = changed_by (created now kind (name_from name) set t) t p in
    judged (create_refusals now d kind name set t) (done (id_of t.own t.next) after [])

abbrev pub create : List ℕ → ℕ → ℕ → ℕ → List ℕ → ℕ → Outcome
create l now d kind name set = on_sound l (create_in now d kind name set)

-- "Unlink, remove: new stamp, dead."
unfoldable pub killed : ℕ → Table → Head → Table
killed now t h = settle t (issue now (with_state h 0) t)

abbrev pub unlink_refusals : ℕ → ℕ → Table → List Refusal
unlink_refusals now id t =
    let h = head_of t id in
    let after = changed_by (killed now t) t h in
    when 2 (not (is_now now))
    ∷ when 6 (not_held h)
    ∷ when 7 (is_dead h)
    ∷ when 8 (not_file h)
    ∷ when 12 (place_not_held t h)
    ∷ when 16 (too_many after)
    ∷ when 17 (past_end after)
    ∷ []

unfoldable pub unlink_in : ℕ → ℕ → Table → Outcome
unlink_in now id t =
    let h = head_of t id in
    let after = changed_by (killed now t) t h in
    judged (unlink_refusals now id t) (done 0 after [])

abbrev pub unlink : List ℕ → ℕ → ℕ → Outcome
unlink l now id = on_sound l (unlink_in now id)

-- "Rename: new stamp, new place."
unfoldable pub renamed : ℕ → Name → Table → Head → Head → Table
renamed now name t p h = settle t (issue now (with_place h p name) t)

abbrev pub rename_refusals : ℕ → ℕ → ℕ → List ℕ → Table → List Refusal
rename_refusals now id d name t =
    let h = head_of t id in
    let p = head_of t d in
    let after = changed_by (λ (q : Head). changed_by (renamed now (name_from name) t q) t h) t p in
    when 2 (not (is_now now && is_text name))
    ∷ when 6 (not_held h || not_held p)
    ∷ when 7 (is_dead h || is_dead p)
    ∷ when 8 (not_file h || not_directory p)
    ∷ when 9 (name_taken d (name_from name) t.entries)
    ∷ when 11 (deepest p)
    ∷ when 12 (place_not_held t h)
    ∷ when 16 (too_many after)
    ∷ when 17 (past_end after)
    ∷ []

unfoldable pub rename_in : ℕ → ℕ → ℕ → List ℕ → Table → Outcome
rename_in now id d name t =
    let h = head_of t id in
    let p = head_of t d in
    let after = changed_by (λ (q : Head). changed_by (renamed now (name_from name) t q) t h) t p in
    judged (rename_refusals now id d name t) (done 0 after [])

abbrev pub rename : List ℕ → ℕ → ℕ → ℕ → List ℕ → Outcome
rename l now id d name = on_sound l (rename_in now id d name)

abbrev pub remove_refusals : ℕ → ℕ → Table → List Refusal
remove_refusals now id t =
    let h = head_of t id in
    let after = changed_by (killed now t) t h in
    when 2 (not (is_now now))
    ∷ when 6 (not_held h)
    ∷ when 7 (is_dead h)
    ∷ when 8 (not_directory h || eqb id 0)
    ∷ when 10 (any_shown id t.entries || live_child id t.replicas)
    ∷ when 16 (too_many after)
    ∷ when 17 (past_end after)
    ∷ []

unfoldable pub remove_in : ℕ → ℕ → Table → Outcome
remove_in now id t =
    let h = head_of t id in
    let after = changed_by (killed now t) t h in
    judged (remove_refusals now id t) (done 0 after [])

abbrev pub remove : List ℕ → ℕ → ℕ → Outcome
remove l now id = on_sound l (remove_in now id)

-- "Spread: the set is joined to the holders; nothing new means done with no change. Root may be spread."
unfoldable pub spread_to : ℕ → Table → Head → Table
spread_to set t h = settle t (put (with_holders h (join h.holders set)) t)

abbrev pub spread_refusals : ℕ → ℕ → Table → List Refusal
spread_refusals id set t =
    let h = head_of t id in
    let after = changed_by (spread_to set t) t h in
    when 2 (not (is_set t.nodes set))
    ∷ when 6 (not_held h)
    ∷ when 16 (too_many after)
    ∷ when 17 (past_end after)
    ∷ []

unfoldable pub spread_in : ℕ → ℕ → Table → Outcome
spread_in id set t =
    let h = head_of t id in
    let after = changed_by (spread_to set t) t h in
    judged (spread_refusals id set t) (done 0 after [])

abbrev pub spread : List ℕ → ℕ → ℕ → Outcome
spread l id set = on_sound l (spread_in id set)

-- ---- list, push: the buffer's length is given

-- "List writes the live entries of a live directory in slot order as entry records."
unfoldable pub listing : ℕ → List Listed → List Entry
listing d [] = []
listing d (x ∷ xs) = cond (eqb x.directory d && is_shown x) (x.entry ∷ listing d xs) (listing d xs)

abbrev pub list_refusals : ℕ → ℕ → Table → List Refusal
list_refusals id room t =
    let h = head_of t id in
    let shown = listing id t.entries in
    -- "the directory's live entries .. (an id not held, or a list of a file, takes nothing)"
    when 3 (held_and is_directory h && ltb room (32 * length shown))
    ∷ when 6 (not_held h)
    ∷ when 7 (is_dead h)
    ∷ when 8 (not_directory h)
    ∷ []

unfoldable pub list_in : ℕ → ℕ → Table → Outcome
list_in id room t =
    let shown = listing id t.entries in
    judged (list_refusals id room t) (done (length shown) t (rows entry_bytes shown))

abbrev pub list : List ℕ → ℕ → ℕ → Outcome
list l id room = on_sound l (list_in id room)

abbrev pub push_of? : Table → ℕ → Option Replica → List ℕ
push_of? t node none = []
push_of? t node (some r) = message_bytes (push_from t r.head r.version node)

abbrev pub is_pending : ℕ → Option Replica → Bool
is_pending node none = false
is_pending node (some r) = has r.pending node

abbrev pub push_refusals : ℕ → ℕ → ℕ → Table → List Refusal
push_refusals id node room t =
    let r = find id t.replicas in
    let written = push_of? t node r in
    when 2 (not (is_node t.nodes node) || eqb node t.own)
    ∷ when 3 (ltb room (length written))
    ∷ when 6 (not_held (head_of? r))
    ∷ when 14 (not (is_pending node r))
    ∷ []

unfoldable pub push_in : ℕ → ℕ → ℕ → Table → Outcome
push_in id node room t =
    let r = find id t.replicas in
    let written = push_of? t node r in
    judged (push_refusals id node room t) (done (length written) t written)

abbrev pub push : List ℕ → ℕ → ℕ → ℕ → Outcome
push l id node room = on_sound l (push_in id node room)

-- ---- receive, acknowledged, pending

-- "4: message malformed"; "Ids in an acknowledgement follow 6; ids in a push do not."
abbrev pub if_push : Option Push → (Push → Outcome) → Outcome
if_push none f = refused 4
if_push (some p) f = f p

abbrev pub take_refusals : ℕ → Table → Push → List Refusal
take_refusals now t p =
    let after = received now p t in
    when 5 (not (eqb p.addressee t.own))
    ∷ when 13 (odd p t)
    ∷ when 16 (too_many after)
    ∷ when 17 (past_end after)
    ∷ []

unfoldable pub take_in : ℕ → Table → Push → Outcome
take_in now t p =
    let after = received now p t in
    judged (take_refusals now t p) (done 16 after (ack_bytes (ack_for p)))

abbrev pub receive_refusals : ℕ → ℕ → List Refusal
receive_refusals now room = when 2 (not (is_now now)) ∷ when 3 (ltb room 16) ∷ []

unfoldable pub receive_in : ℕ → List ℕ → ℕ → Table → Outcome
receive_in now message room t =
    judged (receive_refusals now room) (if_push (read_push t.nodes message) (take_in now t))

abbrev pub receive : List ℕ → ℕ → List ℕ → ℕ → Outcome
receive l now message room = on_sound l (receive_in now message room)

abbrev pub if_ack : Option Acknowledgement → (Acknowledgement → Outcome) → Outcome
if_ack none f = refused 4
if_ack (some a) f = f a

-- "Acknowledgement received: clears the sender's pending bit if the version is the current one."
unfoldable pub clear : ℕ → ℕ → List Replica → List Replica
clear id node [] = []
clear id node (r ∷ rs) =
    cond (eqb r.head.id id) (record { head = r.head; version = r.version; pending = without r.pending node }) r
    ∷ clear id node rs

abbrev pub is_current : ℕ → Option Replica → Bool
is_current version none = false
is_current version (some r) = eqb r.version version

abbrev pub clear_refusals : Table → Acknowledgement → List Refusal
clear_refusals t a =
    let r = find a.id t.replicas in
    when 5 (not (eqb a.addressee t.own))
    ∷ when 6 (not_held (head_of? r))
    ∷ when 15 (not (is_current a.version r && is_pending a.sender r))
    ∷ []

unfoldable pub clear_in : Table → Acknowledgement → Outcome
clear_in t a =
    judged (clear_refusals t a) (done 0 (with_replicas t (clear a.id a.sender t.replicas)) [])

abbrev pub acknowledged : List ℕ → List ℕ → Outcome
acknowledged l message = on_sound l (λ (t : Table). if_ack (read_ack t.nodes message) (clear_in t))

-- "for the pending call the sum of pending bits over all replicas"
unfoldable pub pending_sum : List Replica → ℕ
pending_sum [] = 0
pending_sum (r ∷ rs) = size r.pending + pending_sum rs

abbrev pub pending : List ℕ → Outcome
pending l = on_sound l (λ (t : Table). done (pending_sum t.replicas) t [])
