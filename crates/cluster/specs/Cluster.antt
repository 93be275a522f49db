-- The cluster, its steps, what can be reached, and demand 3: beside document 01's definitions, all that a reader has to
-- believe. Tables and messages are bytes. Assumes nothing.
use Rattle.std.specs.Prelude.{◌≡◌, ◌↔◌, Bool, true, false, cond, ◌&&◌, List, [], ◌∷◌, ◌++◌, ℕ, zero, suc, ◌≤◌, eqb}
use Rattle.std.proofs.Math.Option.{Option, some, none}
use Rattle.names.specs.declared.Name.{Name}
use Rattle.names.specs.Names.{name_from}
use Rattle.numbers.specs.Nodes.{has}
use Rattle.records.specs.declared.head.Head.{Head}
use Rattle.records.specs.declared.entry.Entry.{Entry}
use Rattle.slots.specs.declared.replica.Replica.{Replica}
use Rattle.document.specs.Tables.{Table, table_of, head_of, entry_of, entries_of}
use Rattle.document.specs.Sound.{is_live}
use Rattle.document.specs.Steps.{stamp_at, join_all, with_state, with_place, is_dead, directory_of, make_live}
use Rattle.document.specs.Messages.{Push, read_push}
use Rattle.document.specs.Receive.{taken, joins, mend}
use Rattle.document.specs.Outcomes.{Outcome, refused, done, number_of, value_of, table_after}
use Rattle.document.specs.Calls.{start, create, new_head, unlink, rename, remove, spread, list, push, receive, acknowledged, pending}
use Rattle.views.specs.Lists.{In}

-- "Take all the nodes of one cluster, 1 to N"
abbrev pub Node : ℕ → ℕ → Type 0
Node n i = (1 ≤ i) × (i ≤ n)

-- "A replica's state is its live flag, place and stamp": and whose it is; the place is a directory and a name
pub record State : Type 0 where
  pub id : ℕ
  pub stamp : ℕ
  pub live : ℕ
  pub directory : ℕ
  pub name : Name

abbrev pub state_of : Head → State
state_of h = record { id = h.id; stamp = h.stamp; live = h.live; directory = h.directory; name = h.name }

-- N, who has started, each node's table, every push and acknowledgement ever written, every state ever issued
pub record Cluster : Type 0 where
  pub nodes : ℕ
  pub started : ℕ → Bool
  pub bytes : ℕ → List ℕ
  pub written : List (List ℕ)
  pub issued : List State

-- ---- the calls: "they make any calls", with any arguments; to start is a step of its own, since it is done once

pub data Call : Type 0 where
  creates : (now d kind : ℕ) (name : List ℕ) (set : ℕ) → Call
  unlinks : (now id : ℕ) → Call
  renames : (now id d : ℕ) (name : List ℕ) → Call
  removes : (now id : ℕ) → Call
  spreads : (id set : ℕ) → Call
  lists : (id room : ℕ) → Call
  pushes : (id node room : ℕ) → Call
  receives : (now : ℕ) (message : List ℕ) (room : ℕ) → Call
  hears : (message : List ℕ) → Call
  counts : Call

abbrev pub answer : Call → List ℕ → Outcome
answer (creates now d kind name set) l = create l now d kind name set
answer (unlinks now id) l = unlink l now id
answer (renames now id d name) l = rename l now id d name
answer (removes now id) l = remove l now id
answer (spreads id set) l = spread l id set
answer (lists id room) l = list l id room
answer (pushes id node room) l = push l id node room
answer (receives now message room) l = receive l now message room
answer (hears message) l = acknowledged l message
answer counts l = pending l

-- what a call wrote for another node: a push, or the acknowledgement of one, as many bytes as its value says
abbrev pub wrote : Outcome → List (List ℕ)
wrote (refused k) = []
wrote (done v t w) = w ∷ []

abbrev pub sends : Call → Outcome → List (List ℕ)
sends (pushes id node room) o = wrote o
sends (receives now message room) o = wrote o
sends (creates now d kind name set) o = []
sends (unlinks now id) o = []
sends (renames now id d name) o = []
sends (removes now id) o = []
sends (spreads id set) o = []
sends (lists id room) o = []
sends (hears message) o = []
sends counts o = []

-- ---- the states that a call issues, the last first: for each stamp that it draws, the state that it gives it to. A
-- stamp is drawn by create, unlink, remove and rename, and by receive where it makes a directory live. `Issued` proves
-- that the states so listed are those that ever stood in a table, the root's apart.

abbrev pub stated : Option Head → (Head → Head) → List State
stated none f = []
stated (some h) f = state_of (f h) ∷ []

abbrev pub placed : Option Head → (Head → List State) → List State
placed none f = []
placed (some p) f = f p

-- making a directory live
unfoldable pub made_live : ℕ → ℕ → ℕ → Table → List State
made_live zero now d t = []
made_live (suc k) now d t =
    let place = directory_of (head_of t d) in
    let u = cond (is_dead (head_of t place)) (make_live k now place t) t in
    stated (head_of u d) (λ h. with_state h 1 (stamp_at now u))
    ++ cond (is_dead (head_of t place)) (made_live k now place t) []

-- receive, (f)
abbrev pub mended : ℕ → Option Head → Table → List State
mended now none t = []
mended now (some h) t = cond (is_live h && is_dead (head_of t h.directory)) (made_live 16 now h.directory t) []

unfoldable pub mended_all : ℕ → List Replica → Table → List State
mended_all now [] t = []
mended_all now (r ∷ rs) t =
    let o = head_of t r.head.id in
    mended_all now rs (mend now o t) ++ mended now o t

unfoldable pub received_states : ℕ → Option Push → Table → List State
received_states now none t = []
received_states now (some p) t = let u = join_all (joins p t) (taken p t) in mended_all now u.replicas u

abbrev pub draws : Call → Table → List State
draws (creates now d kind name set) t =
    stated (head_of t d) (λ p. new_head kind (name_from name) set t p (stamp_at now t))
draws (unlinks now id) t = stated (head_of t id) (λ h. with_state h 0 (stamp_at now t))
draws (removes now id) t = stated (head_of t id) (λ h. with_state h 0 (stamp_at now t))
draws (renames now id d name) t =
    placed (head_of t d) (λ p. stated (head_of t id) (λ h. with_place h p (name_from name) (stamp_at now t)))
draws (receives now message room) t = received_states now (read_push t.nodes message) t
draws (spreads id set) t = []
draws (lists id room) t = []
draws (pushes id node room) t = []
draws (hears message) t = []
draws counts t = []

-- a refused call issues nothing
abbrev pub issues : Call → Outcome → Table → List State
issues k (refused n) t = []
issues k (done v u w) t = draws k t

-- ---- the steps: any call of any node, in any order, under any clocks

-- "and receive only messages and acknowledgements that these nodes wrote, lost, repeated or late in any way"
abbrev pub Handed : Cluster → Call → Type 0
Handed c (receives now message room) = In message c.written
Handed c (hears message) = In message c.written
Handed c (creates now d kind name set) = Unit {0}
Handed c (unlinks now id) = Unit {0}
Handed c (renames now id d name) = Unit {0}
Handed c (removes now id) = Unit {0}
Handed c (spreads id set) = Unit {0}
Handed c (lists id room) = Unit {0}
Handed c (pushes id node room) = Unit {0}
Handed c counts = Unit {0}

-- node i has made the call k, on the bytes that its last call left: "never go back to an earlier table"
abbrev pub after : Cluster → ℕ → Call → Cluster
after c i k =
    let o = answer k (c.bytes i) in
    record {
      nodes = c.nodes;
      started = c.started;
      bytes = λ (j : ℕ). cond (eqb j i) (table_after o (c.bytes i)) (c.bytes j);
      written = sends k o ++ c.written;
      issued = issues k o (table_of (c.bytes i)) ++ c.issued;
    }

-- "each started fresh once with that N": node i has started
abbrev pub begun : Cluster → ℕ → Cluster
begun c i =
    let o = start (c.bytes i) i c.nodes in
    record {
      nodes = c.nodes;
      started = λ (j : ℕ). cond (eqb j i) true (c.started j);
      bytes = λ (j : ℕ). cond (eqb j i) (table_after o (c.bytes i)) (c.bytes j);
      written = c.written;
      issued = c.issued;
    }

-- c comes after b, by any steps: starts that were done, each node's before its calls, and calls, refused ones too
pub data Later (b : Cluster) : Cluster → Type 0 where
  same : Later b b
  starts : {c : Cluster} → Later b c → (i : ℕ) → Node c.nodes i → c.started i ≡ false →
      number_of (start (c.bytes i) i c.nodes) ≡ 0 → Later b (begun c i)
  more : {c : Cluster} → Later b c → (i : ℕ) (k : Call) → Node c.nodes i → c.started i ≡ true → Handed c k →
      Later b (after c i k)

-- the beginning: nobody has started, and what the nodes lend is any bytes
abbrev pub idle : ℕ → (ℕ → List ℕ) → Cluster
idle n lent = record { nodes = n; started = λ (i : ℕ). false; bytes = lent; written = []; issued = [] }

-- "all the nodes .. each started"
abbrev pub Started : Cluster → Type 0
Started c = (i : ℕ) → Node c.nodes i → c.started i ≡ true

-- ---- demand 3

-- "Whenever no node has anything pending": the pending call answers 0 on each
abbrev pub Quiet : Cluster → Type 0
Quiet c = (i : ℕ) → Node c.nodes i → value_of (pending (c.bytes i)) ≡ 0

-- the tables of N nodes, and the states ever issued
module _ (n : ℕ) (tab : ℕ → Table) (issued : List State) where
  -- node i holds f, and h is its head there
  abbrev pub Holds : ℕ → ℕ → Head → Type 0
  Holds i f h = Node n i × (head_of (tab i) f ≡ some h)

  -- "a live entry for a child and name"
  abbrev pub Shown : ℕ → ℕ → ℕ → Name → Type 0
  Shown i d f name = (e : Entry) × (entry_of (tab i) d f name ≡ some e) × (e.live ≡ 1)

  -- "that child is live and this is its place, name included", on some node, and so on every one that holds it: "the
  -- root .. stands in no entry"
  pub record LivesAt (d f : ℕ) (name : Name) : Type 0 where
    pub node : ℕ
    pub head : Head
    pub holds : Holds node f head
    pub other : f ≡ 0 → ⊥
    pub live : head.live ≡ 1
    pub directory : head.directory ≡ d
    pub named : head.name ≡ name

  -- "a path of live entries from the root", all of them on node i
  pub data Path (i : ℕ) : ℕ → Type 0 where
    top : Path i 0
    down : (d f : ℕ) (name : Name) → Path i d → Shown i d f name → Path i f

  pub record Demand3 : Type 0 where
    -- "every node named as a holder of a file holds it"
    pub held : (i j f : ℕ) (h : Head) → Holds i f h → has h.holders j ≡ true → (g : Head) × Holds j f g
    -- "all its replicas agree in state, holders and entries": the entries as they stand, and as a lookup finds them
    pub states : (i j f : ℕ) (g h : Head) → Holds i f g → Holds j f h → state_of g ≡ state_of h
    pub holders : (i j f : ℕ) (g h : Head) → Holds i f g → Holds j f h → g.holders ≡ h.holders
    pub entries : (i j f : ℕ) (g h : Head) → Holds i f g → Holds j f h →
        (e : Entry) → In e (entries_of f (tab i).entries) ↔ In e (entries_of f (tab j).entries)
    pub found : (i j f : ℕ) (g h : Head) → Holds i f g → Holds j f h →
        (child : ℕ) (name : Name) → entry_of (tab i) f child name ≡ entry_of (tab j) f child name
    -- "and show the state with the greatest stamp ever issued for it" ("the root has no issued stamp")
    pub shows : (i f : ℕ) (h : Head) → Holds i f h → (f ≡ 0 → ⊥) → In (state_of h) issued
    pub greatest : (i f : ℕ) (h : Head) → Holds i f h → (s : State) → In s issued → s.id ≡ f → s.stamp ≤ h.stamp
    -- it is one state ("the state"): no stamp is issued twice
    pub once : (r s : State) → In r issued → In s issued → r.stamp ≡ s.stamp → r ≡ s
    -- and there is a replica to show it: a file of which a state was ever issued is held by a node
    pub there : (s : State) → In s issued → (i : ℕ) × (h : Head) × Holds i s.id h
    -- "each directory has a live entry for a child and name exactly when that child is live and this is its place, name
    -- included": on each node that holds it
    pub shown : (i d : ℕ) (p : Head) → Holds i d p → (f : ℕ) (name : Name) → Shown i d f name ↔ LivesAt d f name
    -- "and every live file has a path of live entries from the root on each node that holds it"
    pub path : (i f : ℕ) (h : Head) → Holds i f h → h.live ≡ 1 → Path i f

-- demand 3 of a cluster's bytes
abbrev pub Agreed : Cluster → Type 0
Agreed c = Demand3 c.nodes (λ (i : ℕ). table_of (c.bytes i)) c.issued

-- whatever can be reached: once every node has started, at quiet, demand 3 holds
abbrev pub Convergence : Type 0
Convergence =
    (n : ℕ) (lent : ℕ → List ℕ) (c : Cluster) → Later (idle n lent) c → Started c → Quiet c → Agreed c
