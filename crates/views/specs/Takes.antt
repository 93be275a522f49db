-- The head that a receive puts for the pushed replica, `merged`: that of the message, with no lesser stamp and no fewer
-- holders. Whether the message's state is taken is decided by the stamps alone. Assumes nothing.
use Rattle.std.specs.Prelude.{◌≡◌, refl, Bool, true, false, cond, ℕ, ◌≤◌, ltb}
use Rattle.std.proofs.Common.{ap, arith, ltb-false}
use Rattle.std.proofs.Math.Option.{Option, some, none}
use Rattle.numbers.specs.Nodes.{has, join, single}
use Rattle.records.specs.declared.head.Head.{Head}
use Rattle.document.specs.Tables.{Table}
use Rattle.document.specs.Steps.{with_holders}
use Rattle.document.specs.Receive.{merged}
use Rattle.views.specs.Sets.{has_join_left, has_join_right}

pub merged_rank : (o : Option Head) (h : Head) (t : Table) → h.stamp ≤ (merged o h t).stamp
merged_rank none h t = omega arith
merged_rank (some o) h t = go (ltb o.stamp h.stamp) refl
  where
    go : (b : Bool) → ltb o.stamp h.stamp ≡ b → h.stamp ≤ (cond b h o).stamp
    go true p = omega arith
    go false p = omega (arith, ltb-false)

pub merged_hold : (o : Option Head) (h : Head) (t : Table) (j : ℕ) → has h.holders j ≡ true →
    has (merged o h t).holders j ≡ true
merged_hold none h t j p = has_join_left h.holders (single t.own) j p
merged_hold (some o) h t j p = has_join_right o.holders h.holders j p

-- it has the id of both
pub merged_id : (o : Option Head) (h : Head) (t : Table) → ((g : Head) → o ≡ some g → g.id ≡ h.id) →
    (merged o h t).id ≡ h.id
merged_id none h t e = refl
merged_id (some o) h t e = go (ltb o.stamp h.stamp)
  where
    go : (b : Bool) → (with_holders (cond b h o) (join o.holders h.holders)).id ≡ h.id
    go true = refl
    go false = e o refl

-- the state taken, and the state kept
pub merged_new : (o h : Head) (t : Table) → ltb o.stamp h.stamp ≡ true → (merged (some o) h t).stamp ≡ h.stamp
merged_new o h t p = ap (λ (b : Bool). (cond b h o).stamp) p

pub merged_old : (o h : Head) (t : Table) → ltb o.stamp h.stamp ≡ false → (merged (some o) h t).stamp ≡ o.stamp
merged_old o h t p = ap (λ (b : Bool). (cond b h o).stamp) p

pub merged_live : (o h : Head) (t : Table) → ltb o.stamp h.stamp ≡ false → (merged (some o) h t).live ≡ o.live
merged_live o h t p = ap (λ (b : Bool). (cond b h o).live) p
