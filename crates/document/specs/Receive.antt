-- "Receive", step by step, and what of a message is at odds with the table (line 13 of the refusals). Assumes nothing.
use Rattle.std.specs.Prelude.{Bool, false, ◌&&◌, ◌||◌, not, cond, List, [], ◌∷◌, ◌++◌, map, ℕ, max, eqb, ltb}
use Rattle.std.proofs.Math.Option.{Option, some, none}
use Rattle.codec.specs.Lists.{every}
use Rattle.numbers.specs.Nodes.{join, single}
use Rattle.numbers.specs.Ids.{maker, clock_of}
use Rattle.records.specs.declared.head.Head.{Head}
use Rattle.records.specs.declared.entry.Entry.{Entry}
use Rattle.messages.specs.declared.acknowledgement.Acknowledgement.{Acknowledgement}
use Rattle.slots.specs.declared.replica.Replica.{Replica}
use Rattle.slots.specs.declared.listed.Listed.{Listed}
use Rattle.document.specs.Tables.{Table, with_highest, head_of}
use Rattle.document.specs.Sound.{is_live, is_directory, is_held}
use Rattle.document.specs.Steps.{put, join_all, odd_all, set_by, same_place, same_state, with_holders, is_dead, make_live, settle}
use Rattle.document.specs.Messages.{Push}

-- "(a) the highest clock takes in all clocks of the message"
unfoldable pub highest : ℕ → List ℕ → ℕ
highest c [] = c
highest c (s ∷ ss) = highest (max c (clock_of s)) ss

abbrev pub stamps_of : Push → List ℕ
stamps_of p =
    map (λ (h : Head). h.stamp) (p.first ∷ p.above) ++ map (λ (e : Entry). e.stamp) p.entries

unfoldable pub step_a : Push → Table → Table
step_a p t = with_highest t (highest t.highest (stamps_of p))

-- "(b) missing ancestors are made from the root side down, with the message's state and the own node added; ancestors
-- already held are not touched"
abbrev pub with_own : Head → Table → Head
with_own h t = with_holders h (join h.holders (single t.own))

abbrev pub make_missing : Option Head → Head → Table → Table
make_missing none h t = put (with_own h t) t
make_missing (some old) h t = t

unfoldable pub step_b : List Head → Table → Table
step_b [] t = t
step_b (h ∷ hs) t = let u = step_b hs t in make_missing (head_of u h.id) h u

-- "(c) the pushed replica is made, or its state taken if the stamp is greater, and holders are joined". The first head's
-- holders have the addressee, so that adding the own node adds nothing where the message is for this node.
abbrev pub merged : Option Head → Head → Table → Head
merged none h t = with_own h t
merged (some old) h t = with_holders (cond (ltb old.stamp h.stamp) h old) (join old.holders h.holders)

unfoldable pub step_c : Head → Table → Table
step_c h t = put (merged (head_of t h.id) h t) t

-- "(d) entries are joined in message order"
abbrev pub listed_in : ℕ → Entry → Listed
listed_in d e = record { entry = e; directory = d }

abbrev pub joined_in : Push → List Listed
joined_in p = map (listed_in p.first.id) p.entries

-- "(e) every replica made, or whose state was taken, sets its entries, root side first": t is the table as it stood before
abbrev pub set_if_made : Option Head → Head → List Listed
set_if_made none h = set_by h none
set_if_made (some old) h = []

unfoldable pub set_above : Table → List Head → List Listed
set_above t [] = []
set_above t (h ∷ hs) = set_above t hs ++ set_if_made (head_of t h.id) h

abbrev pub set_if_taken : Option Head → Head → List Listed
set_if_taken none h = set_by h none
set_if_taken (some old) h = cond (ltb old.stamp h.stamp) (set_by h (some old)) []

abbrev pub set_in : Table → Push → List Listed
set_in t p = set_above t p.above ++ set_if_taken (head_of t p.first.id) p.first

-- "(f) in slot order, each live replica whose place directory is dead has it made live"
abbrev pub mend : ℕ → Option Head → Table → Table
mend now none t = t
mend now (some h) t =
    cond (is_live h && is_dead (head_of t h.directory)) (make_live 16 now h.directory t) t

unfoldable pub step_f : ℕ → List Replica → Table → Table
step_f now [] t = t
step_f now (r ∷ rs) t = step_f now rs (mend now (head_of t r.head.id) t)

-- the replicas made and the state taken: (a) to (c)
unfoldable pub taken : Push → Table → Table
taken p t = step_c p.first (step_b p.above (step_a p t))

-- (d) and (e) are joins, one after the other
abbrev pub joins : Push → Table → List Listed
joins p t = joined_in p ++ set_in t p

unfoldable pub received : ℕ → Push → Table → Table
received now p t =
    let u = join_all (joins p t) (taken p t) in
    settle t (step_f now u.replicas u)

-- "(g) the acknowledgement is written with the message's version and first id, from and to exchanged"
abbrev pub ack_for : Push → Acknowledgement
ack_for p = record { sender = p.addressee; addressee = p.sender; version = p.version; id = p.first.id }

-- ---- "13: message against table"

-- "a head's kind differs from ours; a directory's place or depth does; equal stamps with different state (any head)"
abbrev pub odd_head : Head → Option Head → Bool
odd_head h none = false
odd_head h (some o) =
    not (eqb o.kind h.kind)
    || ((is_directory o && not (same_place o h && eqb o.depth h.depth))
    || (eqb o.stamp h.stamp && not (same_state o h)))

-- "a head with an id of our own making that we don't hold"
abbrev pub is_stray : Table → Head → Bool
is_stray t h = not (is_held (head_of t h.id)) && eqb (maker h.id) t.own

-- "or flag, entries set in (e) included"
unfoldable pub odd : Push → Table → Bool
odd p t =
    not (every (λ (h : Head). not (odd_head h (head_of t h.id) || is_stray t h)) (p.first ∷ p.above))
    || odd_all (joins p t) (taken p t)
