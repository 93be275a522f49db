-- K1 to K7: what every cluster keeps, over tables, pushes and acknowledgements as such, and the list of all states ever
-- issued. K7 follows from K1. Assumes nothing.
use Rattle.std.specs.Prelude.{◌≡◌, Bool, true, false, ◌&&◌, cond, List, ◌∷◌, ℕ, suc, ◌+◌, ◌*◌, ◌≤◌, ◌<◌, eqb}
use Rattle.std.proofs.Math.Option.{some}
use Rattle.names.specs.declared.Name.{Name}
use Rattle.names.specs.Names.{same_name}
use Rattle.numbers.specs.Nodes.{is_set, has}
use Rattle.numbers.specs.Ids.{maker, count, clock_of, issuer}
use Rattle.records.specs.declared.head.Head.{Head}
use Rattle.records.specs.Heads.{root_head}
use Rattle.messages.specs.declared.acknowledgement.Acknowledgement.{Acknowledgement}
use Rattle.slots.specs.declared.replica.Replica.{Replica}
use Rattle.slots.specs.declared.listed.Listed.{Listed}
use Rattle.document.specs.Tables.{Table, find, head_of, find_entry}
use Rattle.document.specs.Sound.{sound}
use Rattle.document.specs.Messages.{Push}
use Rattle.document.specs.Receive.{joined_in}
use Rattle.views.specs.Lists.{In}
use Rattle.cluster.specs.Cluster.{Node, State, state_of}
use Rattle.cluster.specs.Ranks.{hold_o, rank, mark, vers, pend, Leq, Covers}

-- the nodes' tables, and the pushes and acknowledgements written
pub record World : Type 0 where
  pub nodes : ℕ
  pub tab : ℕ → Table
  pub pushes : List Push
  pub acks : List Acknowledgement

-- ---- what a sound table with own node among n is, by lookup

pub record Placed (t : Table) (h : Head) : Type 0 where
  pub parent : Head
  pub found : head_of t h.directory ≡ some parent
  pub kind : parent.kind ≡ 2
  pub depth : suc parent.depth ≡ h.depth
  pub live : h.live ≡ 1 → parent.live ≡ 1

pub record Entered (t : Table) (h : Head) : Type 0 where
  pub entry : Listed
  pub there : find_entry h.directory h.id h.name t.entries ≡ some entry
  pub stamp : h.stamp ≤ entry.entry.stamp
  pub live : h.stamp ≡ entry.entry.stamp → entry.entry.live ≡ 1

pub record Facts (n : ℕ) (t : Table) : Type 0 where
  pub node : Node n t.own
  pub few : n ≤ 8
  pub root : head_of t 0 ≡ some (root_head n)
  pub own : (f : ℕ) (h : Head) → head_of t f ≡ some h → has h.holders t.own ≡ true
  pub within : (f : ℕ) (h : Head) → head_of t f ≡ some h → is_set n h.holders ≡ true
  pub names : (f : ℕ) (h : Head) → head_of t f ≡ some h → (f ≡ 0 → ⊥) → has h.holders (maker f) ≡ true
  pub made : (f : ℕ) (h : Head) → head_of t f ≡ some h → (f ≡ 0 → ⊥) → Node n (maker f)
  pub place : (f : ℕ) (h : Head) → head_of t f ≡ some h → (f ≡ 0 → ⊥) → Placed t h
  pub dirs : (d f : ℕ) (name : Name) → 1 ≤ mark t d f name → 1 ≤ rank t d
  pub child : (d : ℕ) (name : Name) → mark t d 0 name ≡ 0
  pub entry : (f : ℕ) (h : Head) → head_of t f ≡ some h → (f ≡ 0 → ⊥) → h.live ≡ 1 → Entered t h
  pub versions : (f : ℕ) → 1 ≤ rank t f → 1 ≤ vers t f
  pub counted : (f : ℕ) → 1 ≤ rank t f → maker f ≡ t.own → count f < t.next
  pub clocks : (f : ℕ) → rank t f ≤ t.highest * 256 + 256
  pub pending : (f : ℕ) (r : Replica) → find f t.replicas ≡ some r → is_set n r.pending ≡ true

-- ---- "K1 sound": every table is sound, table i has own node i and this N

pub record K1 (c : World) : Type 0 where
  pub sound : (i : ℕ) → Node c.nodes i → sound (c.tab i) ≡ true
  pub facts : (i : ℕ) → Node c.nodes i → Facts c.nodes (c.tab i)
  pub own : (i : ℕ) → Node c.nodes i → (c.tab i).own ≡ i
  pub size : (i : ℕ) → Node c.nodes i → (c.tab i).nodes ≡ c.nodes

-- ---- "K2 truth"

-- whether an entry stands at the state's place
abbrev pub is_at : State → Listed → Bool
is_at s x = eqb s.directory x.directory && same_name s.name x.entry.name

-- an entry is what its child's state of that stamp says of this place
pub record True (past : List State) (x : Listed) : Type 0 where
  pub state : State
  pub known : In state past
  pub child : state.id ≡ x.entry.child
  pub stamp : state.stamp ≡ x.entry.stamp
  pub live : x.entry.live ≡ cond (is_at state x) state.live 0

abbrev pub AllTrue : List State → List Listed → Type 0
AllTrue past l = (x : Listed) → In x l → True past x

pub record TrueTable (past : List State) (t : Table) : Type 0 where
  pub heads : (f : ℕ) (h : Head) → head_of t f ≡ some h → (f ≡ 0 → ⊥) → In (state_of h) past
  pub entries : AllTrue past t.entries

pub record TruePush (past : List State) (p : Push) : Type 0 where
  pub root : p.first.id ≡ 0 → p.first.stamp ≡ 0
  pub heads : (h : Head) → In h (p.first ∷ p.above) → (h.id ≡ 0 → ⊥) → In (state_of h) past
  pub entries : AllTrue past (joined_in p)

abbrev pub One : List State → Type 0
One past = (x y : State) → In x past → In y past → x.stamp ≡ y.stamp → x ≡ y

pub record K2 (c : World) (L : List State) : Type 0 where
  pub one : One L
  pub tables : (i : ℕ) → Node c.nodes i → TrueTable L (c.tab i)
  pub pushes : (p : Push) → In p c.pushes → TruePush L p

-- ---- "K3 clocks": issued by a node, and not after what that node has seen

pub record K3 (c : World) (L : List State) : Type 0 where
  pub node : (x : State) → In x L → Node c.nodes (issuer x.stamp)
  pub seen : (x : State) → In x L → clock_of x.stamp ≤ (c.tab (issuer x.stamp)).highest

-- ---- "K4 versions"

pub record From (c : World) (i f version : ℕ) : Type 0 where
  pub node : Node c.nodes i
  pub most : version ≤ vers (c.tab i) f
  pub least : 1 ≤ version

pub record K4 (c : World) : Type 0 where
  pub from : (p : Push) → In p c.pushes → From c p.sender p.first.id p.version
  pub push : (p : Push) → In p c.pushes → vers (c.tab p.sender) p.first.id ≡ p.version →
      Leq p.first.id (head_of (c.tab p.sender) p.first.id) (some p.first) (c.tab p.sender).entries
      (joined_in p)
  pub to : (a : Acknowledgement) → In a c.acks → From c a.addressee a.id a.version
  pub ack : (a : Acknowledgement) → In a c.acks → vers (c.tab a.addressee) a.id ≡ a.version →
      Covers (c.tab a.addressee) (c.tab a.sender) a.id

-- ---- "K5 told"

pub record K5 (c : World) : Type 0 where
  pub told : (i j f : ℕ) → Node c.nodes i → Node c.nodes j → (i ≡ j → ⊥) →
      hold_o (head_of (c.tab i) f) j ≡ true → pend (c.tab i) f j ≡ false → Covers (c.tab i) (c.tab j) f

-- ---- "K6 the issuer remembers"

pub record Remembers (t : Table) (x : State) : Type 0 where
  pub held : suc x.stamp ≤ rank t x.id
  pub entered : suc x.stamp ≤ mark t x.directory x.id x.name
  pub struck : suc x.stamp < rank t x.id → suc x.stamp < mark t x.directory x.id x.name

pub record K6 (c : World) (L : List State) : Type 0 where
  pub remembers : (x : State) → In x L → Remembers (c.tab (issuer x.stamp)) x

-- ---- all of them

pub record Inv (c : World) (L : List State) : Type 0 where
  pub k1 : K1 c
  pub k2 : K2 c L
  pub k3 : K3 c L
  pub k4 : K4 c
  pub k5 : K5 c
  pub k6 : K6 c L

-- ---- "K7 the maker holds": it is a node, and named as a holder

pub record K7 (c : World) : Type 0 where
  pub node : (i f : ℕ) (h : Head) → Node c.nodes i → head_of (c.tab i) f ≡ some h → (f ≡ 0 → ⊥) →
      Node c.nodes (maker f)
  pub named : (i f : ℕ) (h : Head) → Node c.nodes i → head_of (c.tab i) f ≡ some h → (f ≡ 0 → ⊥) →
      has h.holders (maker f) ≡ true

pub makers : (c : World) → K1 c → K7 c
makers c k =
    record {
      node = λ i f h ni e z. (k.facts i ni).made f h e z;
      named = λ i f h ni e z. (k.facts i ni).names f h e z;
    }
