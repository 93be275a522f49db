-- Demand 3: every cluster that can be reached keeps K1 to K7, and so whenever no node has anything pending, demand 3
-- holds. Assumes nothing.
use Rattle.std.specs.Prelude.{◌≡◌, refl, ◌↔◌, Bool, true, false, ◌&&◌, not, cond, List, ℕ}
use Rattle.std.proofs.Common.{ap, sym, subst, ◌∙◌}
use Rattle.numbers.specs.Nodes.{is_node}
use Rattle.document.specs.Tables.{fresh, table_bytes, table_of}
use Rattle.document.specs.Sound.{sound_bytes}
use Rattle.document.specs.Outcomes.{value_of}
use Rattle.document.specs.Calls.{pending}
use Rattle.cluster.specs.Cluster.{Node, Cluster, Later, idle, Started, Quiet, Demand3, Agreed, Convergence}
use Rattle.cluster.specs.Facts.{node_is}
use Rattle.cluster.specs.Final.{demand3}
use Rattle.cluster.specs.Reached.{world, Reached}
use Rattle.cluster.proofs.Quiet.{silent, Empty, pending_empty}
use Rattle.cluster.proofs.Begun.{ghost, woken, awake, sized, all_sized, reached}

-- ---- demand 3

agreed : (c : Cluster) → Reached c → Quiet c → Agreed c
agreed c r q = demand3 (world c r.pushes r.acks) c.issued r.inv (silent c r q)

-- once every node has started, the bytes are those that are taken to stand there
all_awake : (c : Cluster) → Started c → (i : ℕ) → (ghost c).bytes i ≡ c.bytes i
all_awake c s i = go (is_node c.nodes i) refl
  where
    go : (b : Bool) → is_node c.nodes i ≡ b →
        cond (b && not (c.started i)) (table_bytes (fresh i c.nodes)) (c.bytes i) ≡ c.bytes i
    go true e = woken true (c.started i) _ _ (s i (node_is c.nodes i e))
    go false e = refl

pub demand_3 : Convergence
demand_3 n lent c l s q =
    subst (λ (B : ℕ → List ℕ). Demand3 c.nodes (λ (i : ℕ). table_of (B i)) c.issued) (λ p i. all_awake c s i p)
    (agreed (ghost c) (reached n lent (all_sized n lent c l s) c l)
    (λ i ni. ap (λ (x : List ℕ). value_of (pending x)) (all_awake c s i) ∙ q i ni))

-- and every table of a node that has started is sound, at quiet or not
pub always_sound : (n : ℕ) (lent : ℕ → List ℕ) (c : Cluster) → Later (idle n lent) c → (i : ℕ) → Node c.nodes i →
    c.started i ≡ true → sound_bytes (c.bytes i) ≡ true
always_sound n lent c l i ni e =
    ap sound_bytes (sym (awake c i e)) ∙ (reached n lent (λ j nj. sized n lent c l i e) c l).sound i ni

-- so that no node has anything pending says that every pending set is empty
pub quiet_is : (n : ℕ) (lent : ℕ → List ℕ) (c : Cluster) → Later (idle n lent) c → Started c →
    Quiet c ↔ ((i : ℕ) → Node c.nodes i → Empty (c.bytes i))
quiet_is n lent c l s = (
  λ q i ni. (pending_empty (c.bytes i) (always_sound n lent c l i ni (s i ni))).0 (q i ni),
  λ f i ni. (pending_empty (c.bytes i) (always_sound n lent c l i ni (s i ni))).1 (f i ni),
)
