-- "ever issued": the states in a cluster's list are those that stood in some node's table at an earlier point of the
-- run, the root's apart, which has no issued stamp. Assumes nothing.
use Rattle.std.specs.Prelude.{◌≡◌, refl, ◌⊎◌, Bool, true, cond, List, ℕ, eqb}
use Rattle.std.proofs.Common.{ap, sym, subst, ◌∙◌, inl, inr, eq-eqb}
use Rattle.document.specs.Tables.{Table, table_bytes, table_of, head_of}
use Rattle.document.specs.Sound.{sound_bytes}
use Rattle.document.specs.Outcomes.{Outcome, refused, done, table_after}
use Rattle.views.specs.Lists.{In}
use Rattle.views.specs.Sounds.{sound_table}
use Rattle.cluster.specs.Cluster.{Node, State, Cluster, Call, answer, issues, after, Later, same, starts, more, idle}
use Rattle.cluster.specs.Accepted.{on_table}
use Rattle.cluster.proofs.Drawn.{Stands, drawn_stands}
use Rattle.cluster.specs.Reached.{table_back}
use Rattle.cluster.proofs.Makes.{left}
use Rattle.cluster.proofs.Begun.{awake, sized, reached}
use Rattle.cluster.proofs.Theorem.{always_sound}
use mathlib.Core.List.Memᴰ

pub record Stood (n : ℕ) (lent : ℕ → List ℕ) (c : Cluster) (x : State) : Type 0 where
  pub before : Cluster
  pub reached : Later (idle n lent) before
  pub since : Later before c
  pub node : ℕ
  pub is : Node before.nodes node
  pub started : before.started node ≡ true
  pub stands : Stands (table_of (before.bytes node)) x

-- what is issued stays issued
issued_stays : (b c : Cluster) → Later b c → (x : State) → In x b.issued → In x c.issued
issued_stays b c same x m = m
issued_stays b c (starts l i ni f ok) x m = issued_stays b _ l x m
issued_stays b c (more {c = d} l i k ni f h) x m =
    Memᴰ.append_right (issues k (answer k (d.bytes i)) (table_of (d.bytes i))) (issued_stays b d l x m)

pub stood_issued : (n : ℕ) (lent : ℕ → List ℕ) (c : Cluster) (x : State) → (x.id ≡ 0 → ⊥) → Stood n lent c x →
    In x c.issued
stood_issued n lent c x z s =
    let b : Cluster = s.before in
    let i : ℕ = s.node in
    let r = reached n lent (λ j nj. sized n lent b s.reached i s.started) b s.reached in
    issued_stays b c s.since x
    (subst (λ (y : State). In y b.issued) s.stands.is
    ((r.inv.k2.tables i s.is).heads x.id s.stands.head
    (ap (λ (l : List ℕ). head_of (table_of l) x.id) (awake b i s.started) ∙ s.stands.held) z))

-- a state that this call drew stands in its table now
drew : (c : Cluster) (i : ℕ) (k : Call) → sound_bytes (c.bytes i) ≡ true → (x : State) →
    In x (issues k (answer k (c.bytes i)) (table_of (c.bytes i))) → Stands (table_of ((after c i k).bytes i)) x
drew c i k s x m = go (answer k (c.bytes i)) refl m
  where
    go : (o : Outcome) → answer k (c.bytes i) ≡ o → In x (issues k o (table_of (c.bytes i))) →
        Stands (table_of (cond (eqb i i) (table_after (answer k (c.bytes i)) (c.bytes i)) (c.bytes i))) x
    go (refused n) e m = elim m [ ]
    go (done v u w) e m =
        let t : Table = table_of (c.bytes i) in
        let at : cond (eqb i i) (table_after (answer k (c.bytes i)) (c.bytes i)) (c.bytes i) ≡ table_bytes u =
        ap (λ (b : Bool). cond b (table_after (answer k (c.bytes i)) (c.bytes i)) (c.bytes i)) (eq-eqb i i refl)
        ∙ ap (λ (o : Outcome). table_after o (c.bytes i)) e in
        subst (λ (z : Table). Stands z x) (sym (ap table_of at ∙ table_back u (left k (c.bytes i) v u w e)))
        (drawn_stands t (sound_table (c.bytes i) s) v u w k (on_table k (c.bytes i) v u w e) x m)

pub issued_stood : (n : ℕ) (lent : ℕ → List ℕ) (c : Cluster) → Later (idle n lent) c → (x : State) → In x c.issued →
    Stood n lent c x
issued_stood n lent c same x m = elim m [ ]
issued_stood n lent c (starts {c = d} l i ni f ok) x m =
    let s = issued_stood n lent d l x m in
    record {
      before = s.before;
      reached = s.reached;
      since = starts s.since i ni f ok;
      node = s.node;
      is = s.is;
      started = s.started;
      stands = s.stands;
    }
issued_stood n lent c (more {c = d} l i k ni f h) x m =
    go (Memᴰ.append_cases (issues k (answer k (d.bytes i)) (table_of (d.bytes i))) m)
    (λ q. issued_stood n lent d l x q)
  where
    go : In x (issues k (answer k (d.bytes i)) (table_of (d.bytes i))) ⊎ In x d.issued →
        (In x d.issued → Stood n lent d x) → Stood n lent (after d i k) x
    go (inl q) ih =
        record {
          before = after d i k;
          reached = more l i k ni f h;
          since = same;
          node = i;
          is = ni;
          started = f;
          stands = drew d i k (always_sound n lent d l i ni f) x q;
        }
    go (inr q) ih =
        let s = ih q in
        record {
          before = s.before;
          reached = s.reached;
          since = more s.since i k ni f h;
          node = s.node;
          is = s.is;
          started = s.started;
          stands = s.stands;
        }
