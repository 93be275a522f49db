-- The call `push`, refusal by refusal, and what is done where none holds: what the contracts of `service::push` cite.
-- Assumes nothing.
use Rattle.std.specs.Prelude.{◌≡◌, refl, true, false, List, ℕ, ◌≤◌, ◌<◌, eqb, length}
use Rattle.std.proofs.Math.Option.{Option, some, none}
use Rattle.std.proofs.Common.{arith}
use borrow.Author.Tests.{lt-ltb, le-ltb}
use Rattle.numbers.specs.Nodes.{is_node, has}
use Rattle.numbers.specs.Laws.{size_most, node_most}
use Rattle.slots.specs.declared.replica.Replica.{Replica}
use Rattle.document.specs.Tables.{Table, find, head_of?, table_of}
use Rattle.document.specs.Sound.{sound_bytes}
use Rattle.document.specs.Messages.{message_bytes, push_from}
use Rattle.document.specs.Outcomes.{refused, done, judged}
use Rattle.document.specs.Calls.{push_in}
use Rattle.views.specs.Sounds.{sound_table}
use Rattle.pushes.specs.Writing.{Held}

-- the replica is held by a sound table, and the node is another one of the cluster
pub record Pushes (l : List ℕ) (r : Replica) (node : ℕ) : Type 0 where
  pub held : Held l r
  pub member : is_node (table_of l).nodes node ≡ true
  pub apart : eqb node (table_of l).own ≡ false

-- ---- the refusals

module _ (id node room : ℕ) (t : Table) where
  pub push_no_node : is_node t.nodes node ≡ false → push_in id node room t ≡ refused 2
  unfolding push_in judged
  push_no_node p = simp p

  pub push_to_own : is_node t.nodes node ≡ true → eqb node t.own ≡ true → push_in id node room t ≡ refused 2
  unfolding push_in judged
  push_to_own p q = simp (p, q)

  module _ (p : is_node t.nodes node ≡ true) (q : eqb node t.own ≡ false) where
    pub push_not_held : find id t.replicas ≡ none → push_in id node room t ≡ refused 6
    unfolding push_in judged
    push_not_held e = simp (p, q, e, le-ltb room 0 (omega arith))

    module _ (r : Replica) (e : find id t.replicas ≡ some r) where
      -- its push
      abbrev bytes : List ℕ
      bytes = message_bytes (push_from t r.head r.version node)

      pub push_small : room < length bytes → push_in id node room t ≡ refused 3
      unfolding push_in judged
      push_small s = simp (p, q, e, lt-ltb room (length bytes) s)

      pub push_told : length bytes ≤ room → has r.pending node ≡ false → push_in id node room t ≡ refused 14
      unfolding push_in judged
      push_told s n = simp (p, q, e, le-ltb room (length bytes) s, n)

      pub push_done : length bytes ≤ room → has r.pending node ≡ true → push_in id node room t ≡ done (length bytes)
          t bytes
      unfolding push_in judged
      push_done s n = simp (p, q, e, le-ltb room (length bytes) s, n)

-- no head is held where no replica is
pub none_held : (o : Option Replica) → head_of? o ≡ none → o ≡ none
none_held none e = refl
none_held (some r) e = let z : ◌≡◌ {A = ℕ} 0 1 = cc in absurd (omega arith)

-- a node of the cluster is at most 8
pub node_small : (l : List ℕ) (node : ℕ) → sound_bytes l ≡ true → is_node (table_of l).nodes node ≡ true → node ≤ 8
node_small l node s e =
    omega (arith, node_most (table_of l).nodes node e, size_most (table_of l).nodes (sound_table l s).size)
