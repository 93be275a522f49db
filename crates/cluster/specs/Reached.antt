-- From bytes to tables and back: what holds of every cluster that can be reached, and that each call of a node keeps
-- it. Assumes nothing.
use Rattle.std.specs.Prelude.{◌≡◌, refl, Bool, true, false, cond, List, [], ◌∷◌, ◌++◌, ℕ, ◌≤◌, eqb, length}
use Rattle.std.proofs.Common.{ap, sym, subst, ◌∙◌, arith, eqb-true}
use Rattle.std.proofs.Math.Option.{some}
use mathlib.Core.List.Memᴰ
use Rattle.codec.specs.Bytes.{chunk, bytes_of, same_bytes}
use Rattle.codec.specs.Lists.{every, and_true}
use Rattle.messages.specs.declared.acknowledgement.Acknowledgement.{Acknowledgement}
use Rattle.messages.specs.Acknowledgements.{ack_bytes}
use Rattle.messages.specs.PushHeaders.{push_in_range}
use Rattle.document.specs.Tables.{Table, fits, table_of, table_bytes}
use Rattle.document.specs.Sound.{sound, sound_bytes}
use Rattle.document.specs.Messages.{Push, message_bytes, message_in_range, read_push, read_ack}
use Rattle.document.specs.Receive.{ack_for}
use Rattle.document.specs.Outcomes.{Outcome, refused, done, table_after}
use Rattle.document.specs.Reading.{table_of_bytes}
use Rattle.document.specs.ReadingMessages.{message_fits, read_some, length_message_bytes}
use Rattle.views.specs.Lists.{In, some_only, not_none}
use Rattle.views.specs.ReadBack.{ack_read_back}
use Rattle.cluster.specs.Cluster.{Node, State, Cluster}
use Rattle.cluster.specs.Invariants.{World, Inv}
use Rattle.cluster.specs.Keeps.{upd}
use Rattle.kept.specs.Shapes.{shaped_of}
use Rattle.kept.specs.Kept.{Left}

-- ---- tables

-- the bytes that an accepted call leaves are its table
pub table_back : (u : Table) → Left u → table_of (table_bytes u) ≡ u
unfolding sound
table_back u l = table_of_bytes u (shaped_of u l.full) (and_true (fits u) _ l.table).0

-- ---- messages

-- what is read from bytes as a push is in P, and as an acknowledgement in A
pub record Letter (n : ℕ) (P : List Push) (A : List Acknowledgement) (m : List ℕ) : Type 0 where
  pub push : (p : Push) → read_push n m ≡ some p → In p P
  pub ack : (a : Acknowledgement) → read_ack n m ≡ some a → In a A

-- no bytes are both
push_no_ack : (n : ℕ) (p : Push) (a : Acknowledgement) → read_ack n (message_bytes p) ≡ some a → ⊥
unfolding read_ack
push_no_ack n p a e =
    let q = and_true (eqb (length (message_bytes p)) 16) _ (read_some _ e).0 in
    omega (arith, length_message_bytes p, eqb-true (length (message_bytes p)) 16 q.0)

ack_no_push : (n : ℕ) (a : Acknowledgement) (p : Push) → read_push n (ack_bytes a) ≡ some p → ⊥
unfolding read_push message_in_range push_in_range ack_bytes bytes_of chunk same_bytes every
ack_no_push n a p e = not_none e

-- a push that is read as it is, and the acknowledgement of one
pub push_letter : (n : ℕ) (P : List Push) (A : List Acknowledgement) (p : Push) → read_push n (message_bytes p) ≡ some p →
    Letter n (p ∷ P) A (message_bytes p)
push_letter n P A p e =
    record {
      push = λ q r. Memᴰ.head (some_only (sym r ∙ e));
      ack = λ a r. absurd (push_no_ack n p a r);
    }

pub ack_letter : (n : ℕ) → n ≤ 8 → (P : List Push) (A : List Acknowledgement) (p : Push) → message_fits n p ≡ true →
    Letter n P (ack_for p ∷ A) (ack_bytes (ack_for p))
ack_letter n le P A p e =
    record {
      push = λ q r. absurd (ack_no_push n (ack_for p) q r);
      ack = λ a r. Memᴰ.head (some_only (sym r ∙ ack_read_back n p le e));
    }

-- ---- what holds of every cluster that can be reached

-- its tables, with the pushes and acknowledgements that its messages are
abbrev pub world : Cluster → List Push → List Acknowledgement → World
world c P A = record { nodes = c.nodes; tab = λ (i : ℕ). table_of (c.bytes i); pushes = P; acks = A }

pub record Reached (c : Cluster) : Type 0 where
  pub pushes : List Push
  pub acks : List Acknowledgement
  pub inv : Inv (world c pushes acks) c.issued
  pub sound : (i : ℕ) → Node c.nodes i → sound_bytes (c.bytes i) ≡ true
  pub letters : (m : List ℕ) → In m c.written → Letter c.nodes pushes acks m

-- node i's call had this outcome, wrote these messages and issued these states
abbrev pub moved : Cluster → ℕ → Outcome → List (List ℕ) → List State → Cluster
moved c i o ws ss =
    record {
      nodes = c.nodes;
      started = c.started;
      bytes = λ (j : ℕ). cond (eqb j i) (table_after o (c.bytes i)) (c.bytes j);
      written = ws ++ c.written;
      issued = ss ++ c.issued;
    }

-- node i's bytes, or another's
at_node : {A : Type 0} (T : ℕ → A) (i : ℕ) (j : ℕ) → cond (eqb j i) (T i) (T j) ≡ T j
at_node T i j = go (eqb j i) refl
  where
    go : (b : Bool) → eqb j i ≡ b → cond b (T i) (T j) ≡ T j
    go true e = ap T (sym (eqb-true _ _ e))
    go false e = refl

-- a refused call changes nothing
pub stands : (c : Cluster) (i k : ℕ) → Reached c → Reached (moved c i (refused k) [] [])
stands c i k r =
    record {
      pushes = r.pushes;
      acks = r.acks;
      inv =
          subst (λ (T : ℕ → Table). Inv (record { nodes = c.nodes; tab = T; pushes = r.pushes; acks = r.acks })
          c.issued)
          (λ p j. table_of (sym (at_node c.bytes i j) p)) r.inv;
      sound = λ j nj. ap sound_bytes (at_node c.bytes i j) ∙ r.sound j nj;
      letters = r.letters;
    }

-- an accepted call leaves the bytes of its table
pub lands : (c : Cluster) (i v : ℕ) (u : Table) (w : List ℕ) (ws : List (List ℕ)) (ss : List State) (P : List Push)
    (A : List Acknowledgement) → Reached c → Left u →
    Inv (record { nodes = c.nodes; tab = upd (λ (j : ℕ). table_of (c.bytes j)) i u; pushes = P; acks = A })
    (ss ++ c.issued) →
    ((m : List ℕ) → In m (ws ++ c.written) → Letter c.nodes P A m) → Reached (moved c i (done v u w) ws ss)
lands c i v u w ws ss P A r s k l =
    record {
      pushes = P;
      acks = A;
      inv =
          subst (λ (T : ℕ → Table). Inv (record { nodes = c.nodes; tab = T; pushes = P; acks = A }) (ss ++ c.issued))
          (λ p j. sym (table j (eqb j i)) p) k;
      sound = λ j nj. bytes j nj (eqb j i);
      letters = l;
    }
  where
    table : (j : ℕ) (b : Bool) → table_of (cond b (table_bytes u) (c.bytes j)) ≡ cond b u (table_of (c.bytes j))
    table j true = table_back u s
    table j false = refl

    bytes : (j : ℕ) → Node c.nodes j → (b : Bool) → sound_bytes (cond b (table_bytes u) (c.bytes j)) ≡ true
    bytes j nj true = s.bytes
    bytes j nj false = r.sound j nj
