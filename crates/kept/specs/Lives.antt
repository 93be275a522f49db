-- Making a directory live keeps every rule but one: that a live replica's place is live is what it mends, and is not
-- asked for. Assumes nothing.
use Rattle.std.specs.Prelude.{◌≡◌, refl, ℕ, ◌≤◌}
use Rattle.std.proofs.Common.{sym, ◌∙◌, arith}
use Rattle.std.proofs.Math.Option.{Option, some, none}
use Rattle.records.specs.declared.head.Head.{Head}
use Rattle.document.specs.Tables.{Table, head_of}
use Rattle.document.specs.Steps.{with_state, relive}
use Rattle.views.specs.Puts.{head_id}
use Rattle.views.specs.Issues.{clock_above, issue_own, issue_nodes, issue_next, issue_highest}
use Rattle.views.specs.Sounds.{Shown}
use Rattle.kept.specs.Issued.{issue_shown}
use Rattle.kept.specs.Firm.{Base, base_issue, Carried, carried_same, carried_trans, carried_issue}
use Rattle.kept.specs.States.{same_place_state}

-- a table on the way, and what has become of the one before
pub record Mended (t u : Table) : Type 0 where
  pub base : Base u
  pub shown : Shown u
  pub carried : Carried t u
  pub own : u.own ≡ t.own
  pub nodes : u.nodes ≡ t.nodes
  pub next : u.next ≡ t.next
  pub highest : t.highest ≤ u.highest

pub mended_refl : (t : Table) → Base t → Shown t → Mended t t
mended_refl t b s =
    record {
      base = b;
      shown = s;
      carried = carried_same t t refl;
      own = refl;
      nodes = refl;
      next = refl;
      highest = omega arith;
    }

pub mended_trans : (t u v : Table) → Mended t u → Mended u v → Mended t v
mended_trans t u v p q =
    record {
      base = q.base;
      shown = q.shown;
      carried = carried_trans t u v p.carried q.carried;
      own = q.own ∙ p.own;
      nodes = q.nodes ∙ p.nodes;
      next = q.next ∙ p.next;
      highest = omega (arith, p.highest, q.highest);
    }

-- one state
pub mended_relive : (now d : ℕ) (o : Option Head) (t : Table) → head_of t d ≡ o → (d ≡ 0 → ⊥) → Base t → Shown t →
    Mended t (relive now o t)
unfolding relive
mended_relive now d none t e z b s = mended_refl t b s
mended_relive now d (some h) t e z b s =
    let f = with_state h 1 in
    let g = same_place_state now 1 t d h b e (λ q. z (sym (head_id d t.replicas h e) ∙ q)) refl in
    record {
      base = base_issue now f t b g;
      shown = issue_shown now f t g.stamp b.entry_clocks s;
      carried = carried_issue now f t;
      own = issue_own now f t;
      nodes = issue_nodes now f t;
      next = issue_next now f t;
      highest = omega (arith, clock_above now t, issue_highest now f t);
    }
