-- A head with more holders is in its range, and its maker and the own node are among them. Assumes nothing.
use Rattle.std.specs.Prelude.{◌≡◌, refl, Bool, true, false, ◌||◌, ℕ, ◌≤◌, eqb, leb}
use Rattle.std.proofs.Common.{ap, sym, ◌∙◌, leb-true}
use Rattle.std.proofs.Math.Bool.{or-true}
use Rattle.codec.specs.Lists.{and_true}
use Rattle.numbers.specs.Nodes.{has, join, single, is_node, is_set}
use Rattle.numbers.specs.Ids.{maker}
use Rattle.numbers.specs.Laws.{has_join, has_single, is_set_join}
use Rattle.records.specs.declared.head.Head.{Head}
use Rattle.records.specs.Heads.{head_fits}
use Rattle.records.specs.Ordinary.{Ordinary, ordinary_is, is_ordinary_law}
use Rattle.document.specs.Tables.{Table}
use Rattle.document.specs.Sound.{maker_holds, is_root_id}
use Rattle.document.specs.Steps.{with_holders}
use Rattle.document.specs.Receive.{with_own}
use Rattle.views.specs.Sets.{has_join_left, is_set_single}

-- "Depth .. 1 to 16"
pub depth_most : (n : ℕ) (h : Head) → Ordinary n h → h.depth ≤ 16
depth_most n h o = leb-true h.depth 16 (and_true (leb 1 h.depth) _ o.depth).1

-- ---- holders

-- its maker holds it, where a head of that id had its maker
pub maker_more : (h o : Head) (set : ℕ) → o.id ≡ h.id → maker_holds o ≡ true →
    maker_holds (with_holders h (join o.holders set)) ≡ true
maker_more h o set i e = go (is_root_id h) (ap (λ (m : ℕ). eqb m 0 || has o.holders (maker m)) (sym i) ∙ e)
  where
    go : (b : Bool) → (b || has o.holders (maker h.id)) ≡ true →
        (b || has (join o.holders set) (maker h.id)) ≡ true
    go true q = refl
    go false q = has_join_left o.holders set (maker h.id) q

-- "with .. the own node added"
pub has_own : (h : Head) (t : Table) → is_node t.nodes t.own ≡ true → has (with_own h t).holders t.own ≡ true
has_own h t e =
    let least = leb-true 1 t.own (and_true (leb 1 t.own) _ e).0 in
    has_join h.holders (single t.own) t.own
    ∙ ap (λ (b : Bool). has h.holders t.own || b) (has_single t.own least)
    ∙ or-true (has h.holders t.own)

pub fits_holders : (n : ℕ) (h : Head) (set : ℕ) → head_fits n h ≡ true → (h.id ≡ 0 → ⊥) → is_set n set ≡ true →
    head_fits n (with_holders h set) ≡ true
fits_holders n h set f z s =
    let o = ordinary_is n h z f in
    is_ordinary_law n (with_holders h set) z (record {
      kind = o.kind;
      live = o.live;
      made = o.made;
      stamp = o.stamp;
      holders = s;
      depth = o.depth;
      directory = o.directory;
      name = o.name;
    })

pub fits_own : (n : ℕ) (h : Head) (t : Table) → head_fits n h ≡ true → (h.id ≡ 0 → ⊥) → is_node n t.own ≡ true →
    head_fits n (with_own h t) ≡ true
fits_own n h t f z e =
    let most = leb-true t.own n (and_true (leb 1 t.own) _ e).1 in
    fits_holders n h (join h.holders (single t.own)) f z
    (is_set_join n h.holders (single t.own) (ordinary_is n h z f).holders (is_set_single n t.own most))
