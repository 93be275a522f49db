-- "Steps", up to making a directory live: the new clock, the join of an entry, a new or changed state, versions and
-- pending. Versions and pending sets stay as they are through all steps, and `settle` alone touches them. Assumes nothing.
use Rattle.std.specs.Prelude.{Bool, true, false, ◌&&◌, ◌||◌, not, cond, List, [], ◌∷◌, ℕ, zero, suc, ◌+◌, ◌^◌, eqb, leb, ltb, length}
use Rattle.std.proofs.Math.Option.{Option, some, none}
use Rattle.codec.specs.Lists.{every}
use Rattle.names.specs.declared.Name.{Name}
use Rattle.names.specs.Names.{same_name}
use Rattle.numbers.specs.Nodes.{without}
use Rattle.numbers.specs.Ids.{stamp_of}
use Rattle.numbers.specs.Clocks.{new_clock}
use Rattle.records.specs.declared.head.Head.{Head}
use Rattle.records.specs.declared.entry.Entry.{Entry}
use Rattle.slots.specs.declared.replica.Replica.{Replica}
use Rattle.slots.specs.declared.listed.Listed.{Listed}
use Rattle.document.specs.Tables.{Table, with_replicas, with_entries, with_highest, head_of, entry_of, entries_of}
use Rattle.document.specs.Sound.{is_live, same_key, not_crowded}

-- ---- "New clock: new clock is the larger of now and the highest seen plus one; it becomes the highest seen."

abbrev pub clock_at : ℕ → Table → ℕ
clock_at now t = new_clock now t.highest

abbrev pub stamp_at : ℕ → Table → ℕ
stamp_at now t = stamp_of (clock_at now t) t.own

-- ---- "Join of an entry: absent, it is added; else the greater stamp wins; equal stamps with equal flags change nothing."
-- Added, it takes the next slot: "A new item takes the lowest free slot."

abbrev pub newer : Listed → Listed → Listed
newer e x = cond (ltb x.entry.stamp e.entry.stamp) e x

unfoldable pub join_into : Listed → List Listed → List Listed
join_into e [] = e ∷ []
join_into e (x ∷ xs) = cond (same_key e x) (newer e x ∷ xs) (x ∷ join_into e xs)

abbrev pub joined : Listed → Table → Table
joined e t = with_entries t (join_into e t.entries)

-- equal stamps with different flags
abbrev pub at_odds : Listed → Option Entry → Bool
at_odds e none = false
at_odds e (some x) = eqb x.stamp e.entry.stamp && not (eqb x.live e.entry.live)

abbrev pub odd_join : Listed → Table → Bool
odd_join e t = at_odds e (entry_of t e.directory e.entry.child e.entry.name)

-- ---- a replica's head is put where it stands, or the replica takes the next slot ("A new item takes the lowest free
-- slot."); a new one stands with version 0 until `settle` raises it to 1

abbrev pub renewed : Head → Replica → Replica
renewed h r = record { head = h; version = r.version; pending = r.pending }

unfoldable pub put_head : Head → List Replica → List Replica
put_head h [] = record { head = h; version = 0; pending = 0 } ∷ []
put_head h (r ∷ rs) = cond (eqb r.head.id h.id) (renewed h r ∷ rs) (r ∷ put_head h rs)

abbrev pub put : Head → Table → Table
put h t = with_replicas t (put_head h t.replicas)

-- ---- "A new or changed state of a replica joins an entry at its new place, with its stamp and live flag; then, if the old
-- place differs, a dead one with the new stamp at the old place."

abbrev pub place_entry : Head → Listed
place_entry h =
    record {
      entry = record { live = h.live; child = h.id; stamp = h.stamp; name = h.name };
      directory = h.directory;
    }

abbrev pub strike : Head → Head → Listed
strike h old =
    record {
      entry = record { live = 0; child = h.id; stamp = h.stamp; name = old.name };
      directory = old.directory;
    }

abbrev pub same_place : Head → Head → Bool
same_place a b = eqb a.directory b.directory && same_name a.name b.name

-- "A replica's state is its live flag, place and stamp, not its holders.": of two with one stamp
abbrev pub same_state : Head → Head → Bool
same_state a b = eqb a.live b.live && same_place a b

-- the entries that the state sets, in order; there is no old place for a new replica
unfoldable pub set_by : Head → Option Head → List Listed
set_by h none = place_entry h ∷ []
set_by h (some old) = place_entry h ∷ cond (same_place h old) [] (strike h old ∷ [])

unfoldable pub join_all : List Listed → Table → Table
join_all [] t = t
join_all (e ∷ es) t = join_all es (joined e t)

-- one of them meets equal stamps with different flags
unfoldable pub odd_all : List Listed → Table → Bool
odd_all [] t = false
odd_all (e ∷ es) t = odd_join e t || odd_all es (joined e t)

-- a state with a new stamp: the clock is drawn, the head made with the stamp is put, its entries are set
unfoldable pub issue : ℕ → (ℕ → Head) → Table → Table
issue now f t =
    let h = f (stamp_at now t) in
    join_all (set_by h (head_of t h.id)) (put h (with_highest t (clock_at now t)))

-- a head with another state, with another place, and with other holders
abbrev pub with_state : Head → ℕ → ℕ → Head
with_state h live stamp =
    record {
      kind = h.kind;
      live = live;
      id = h.id;
      stamp = stamp;
      holders = h.holders;
      depth = h.depth;
      directory = h.directory;
      name = h.name;
    }

abbrev pub with_place : Head → Head → Name → ℕ → Head
with_place h p name stamp =
    record {
      kind = h.kind;
      live = h.live;
      id = h.id;
      stamp = stamp;
      holders = h.holders;
      depth = p.depth + 1;
      directory = p.id;
      name = name;
    }

abbrev pub with_holders : Head → ℕ → Head
with_holders h set =
    record {
      kind = h.kind;
      live = h.live;
      id = h.id;
      stamp = h.stamp;
      holders = set;
      depth = h.depth;
      directory = h.directory;
      name = h.name;
    }

-- ---- "After any call, each older replica whose head or entries changed gets its version raised by one; a new one has
-- version 1. For both, pending becomes holders without the own node."

abbrev pub same_head : Head → Option Head → Bool
same_head h none = false
same_head h (some o) =
    eqb o.kind h.kind && (eqb o.live h.live && (eqb o.id h.id && (eqb o.stamp h.stamp
    && (eqb o.holders h.holders && (eqb o.depth h.depth && (eqb o.directory h.directory
    && same_name o.name h.name))))))

abbrev pub same_entry : Entry → Entry → Bool
same_entry a b =
    eqb a.live b.live && (eqb a.child b.child && (eqb a.stamp b.stamp && same_name a.name b.name))

unfoldable pub same_entries : List Entry → List Entry → Bool
same_entries [] [] = true
same_entries [] (y ∷ ys) = false
same_entries (x ∷ xs) [] = false
same_entries (x ∷ xs) (y ∷ ys) = same_entry x y && same_entries xs ys

-- neither the head nor the entries changed from one table to the other
abbrev pub unchanged : Table → Table → Head → Bool
unchanged old t h =
    same_head h (head_of old h.id) && same_entries (entries_of h.id old.entries) (entries_of h.id t.entries)

abbrev pub raised : ℕ → Replica → Replica
raised own r = record { head = r.head; version = r.version + 1; pending = without r.head.holders own }

unfoldable pub settle_all : Table → Table → List Replica → List Replica
settle_all old t [] = []
settle_all old t (r ∷ rs) = cond (unchanged old t r.head) r (raised t.own r) ∷ settle_all old t rs

unfoldable pub settle : Table → Table → Table
settle old t = with_replicas t (settle_all old t t.replicas)

-- ---- "Making a directory live first makes its place directory live, if dead, then gives it a new stamp at its last place;
-- setting its entry there belongs to the same act, so each of the two calls for the other, up to the root."

abbrev pub is_dead : Option Head → Bool
is_dead none = false
is_dead (some h) = not (is_live h)

abbrev pub directory_of : Option Head → ℕ
directory_of none = 0
directory_of (some h) = h.directory

unfoldable pub relive : ℕ → Option Head → Table → Table
relive now none t = t
relive now (some h) t = issue now (with_state h 1) t

-- at most k directories up
unfoldable pub make_live : ℕ → ℕ → ℕ → Table → Table
make_live zero now d t = t
make_live (suc k) now d t =
    let place = directory_of (head_of t d) in
    let u = cond (is_dead (head_of t place)) (make_live k now place t) t in
    relive now (head_of u d) u

-- ---- the limits, judged on the outcome

-- "16: the outcome needs more than 64 replicas, 256 entries, or 32 in a directory"
unfoldable pub too_many : Table → Bool
too_many t = ltb 64 (length t.replicas) || (ltb 256 (length t.entries) || not (every (not_crowded t) t.replicas))

-- "17: the outcome needs a clock, version (2^32-1) or count past its end"
unfoldable pub past_end : Table → Bool
past_end t =
    leb (2 ^ 40) t.highest
    || (not (every (λ (r : Replica). ltb r.version (2 ^ 32)) t.replicas) || ltb 16777216 t.next)
