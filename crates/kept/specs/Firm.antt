-- A table between the steps of a call: sound but for versions, pending sets and limits, which are judged at the end. A
-- range that an end bounds is kept for a clock before its end. A new state keeps such a table such, and so does a head
-- put with more holders. Assumes nothing.
use Rattle.std.specs.Prelude.{◌≡◌, refl, true, ℕ, ◌^◌, ◌≤◌, ◌<◌}
use Rattle.std.proofs.Common.{ap, sym, subst, ◌∙◌, arith}
use Rattle.std.proofs.Math.Option.{some}
use Rattle.numbers.specs.Nodes.{is_size, is_node, has}
use Rattle.numbers.specs.Ids.{maker, count, clock_of}
use Rattle.numbers.specs.Laws.{node_small}
use Rattle.records.specs.declared.head.Head.{Head}
use Rattle.records.specs.Heads.{head_fits, is_root}
use Rattle.records.specs.Ordinary.{ordinary_is}
use Rattle.slots.specs.declared.listed.Listed.{Listed}
use Rattle.document.specs.Tables.{Table, with_highest, with_next, find, head_of, listed_fits}
use Rattle.document.specs.Sound.{is_live, root_first, ids_unique, maker_holds, keys_unique}
use Rattle.document.specs.Steps.{clock_at, stamp_at, joined, put, issue}
use Rattle.views.specs.Puts.{version_of, pending_of, version_put, pending_put, put_distinct, head_id}
use Rattle.views.specs.Joins.{join_distinct}
use Rattle.views.specs.Issues.{made, clock_above, stamp_clock, issue_own, issue_nodes, issue_next, issue_highest, issue_ids, issue_keys, issue_version, issue_pending}
use Rattle.views.specs.Sounds.{Place, Entered, Parent, HeadsFit, EntriesFit, MakersHold, OwnHolds, OwnBelowNext, Placed, LivePlaces, Shown, HeadClocks, Parents, NoRootChild, EntryClocks, Sound, DepthsFit, depths_of}
use Rattle.kept.specs.Rules.{StaysDirectory, UnderLive, OverDead, put_heads, put_placed, put_parents, put_live_places, put_root, join_listed, join_parents, place_same, parent_same, entered_same}
use Rattle.kept.specs.Issued.{issue_heads, issue_heads_fit, issue_makers, issue_own_holds, issue_own_below, issue_head_clocks, issue_placed, issue_live_places, issue_root, issue_no_root_child, issue_entry_clocks, issue_parents, issue_entries_fit, issue_shown}

-- but for two rules that a message may break until its entries are set and its directories made live
pub record Base (t : Table) : Type 0 where
  pub size : is_size t.nodes ≡ true
  pub node : is_node t.nodes t.own ≡ true
  pub next_low : 1 ≤ t.next
  pub heads_fit : t.highest < 2 ^ 40 → HeadsFit t
  pub entries_fit : t.highest < 2 ^ 40 → EntriesFit t
  pub depths_fit : DepthsFit t
  pub root_first_law : root_first t ≡ true
  pub ids_unique_law : ids_unique t ≡ true
  pub makers_hold : MakersHold t
  pub own_holds : OwnHolds t
  pub own_below : OwnBelowNext t
  pub placed : Placed t
  pub head_clocks : HeadClocks t
  pub parents : Parents t
  pub no_root_child : NoRootChild t
  pub entry_clocks : EntryClocks t
  pub keys_unique_law : keys_unique t ≡ true

pub record Firm (t : Table) : Type 0 where
  pub base : Base t
  pub live_places : LivePlaces t
  pub shown : Shown t

-- ---- what a sound table has

pub base_of : (t : Table) → Sound t → Base t
base_of t s =
    record {
      size = s.size;
      node = s.node;
      next_low = s.next_low;
      heads_fit = λ b. s.heads_fit;
      entries_fit = λ b. s.entries_fit;
      depths_fit = depths_of t s.root_first_law s.heads_fit;
      root_first_law = s.root_first_law;
      ids_unique_law = s.ids_unique_law;
      makers_hold = s.makers_hold;
      own_holds = s.own_holds;
      own_below = s.own_below;
      placed = s.placed;
      head_clocks = s.head_clocks;
      parents = s.parents;
      no_root_child = s.no_root_child;
      entry_clocks = s.entry_clocks;
      keys_unique_law = s.keys_unique_law;
    }

pub firm_of : (t : Table) → Sound t → Firm t
firm_of t s = record { base = base_of t s; live_places = s.live_places; shown = s.shown }

-- a place has room for its entry
pub place_parent : (t : Table) (h : Head) → Place t h → h.depth ≤ 16 → Parent t h.directory
place_parent t h p le =
    record { head = p.parent; held = p.held; directory = p.directory; shallow = omega (arith, p.depth) }

-- ---- a higher next count, and a higher clock seen

pub base_next : (t : Table) (m : ℕ) → t.next ≤ m → Base t → Base (with_next t m)
base_next t m le s =
    record {
      size = s.size;
      node = s.node;
      next_low = omega (arith, s.next_low);
      heads_fit = s.heads_fit;
      entries_fit = s.entries_fit;
      depths_fit = s.depths_fit;
      root_first_law = s.root_first_law;
      ids_unique_law = s.ids_unique_law;
      makers_hold = s.makers_hold;
      own_holds = s.own_holds;
      own_below = λ f h e o. omega (arith, s.own_below f h e o);
      placed = λ f h e z. place_same t (with_next t m) h refl (s.placed f h e z);
      head_clocks = s.head_clocks;
      parents = λ x i. parent_same t (with_next t m) x.directory refl (s.parents x i);
      no_root_child = s.no_root_child;
      entry_clocks = s.entry_clocks;
      keys_unique_law = s.keys_unique_law;
    }

pub firm_next : (t : Table) (m : ℕ) → t.next ≤ m → Firm t → Firm (with_next t m)
firm_next t m le s =
    record {
      base = base_next t m le s.base;
      live_places = s.live_places;
      shown = λ f h e z l. entered_same t (with_next t m) h refl (s.shown f h e z l);
    }

pub base_high : (t : Table) (c : ℕ) → t.highest ≤ c → Base t → Base (with_highest t c)
base_high t c le s =
    record {
      size = s.size;
      node = s.node;
      next_low = s.next_low;
      heads_fit = λ b. s.heads_fit (omega arith);
      entries_fit = λ b. s.entries_fit (omega arith);
      depths_fit = s.depths_fit;
      root_first_law = s.root_first_law;
      ids_unique_law = s.ids_unique_law;
      makers_hold = s.makers_hold;
      own_holds = s.own_holds;
      own_below = s.own_below;
      placed = λ f h e z. place_same t (with_highest t c) h refl (s.placed f h e z);
      head_clocks = λ f h e. omega (arith, s.head_clocks f h e);
      parents = λ x i. parent_same t (with_highest t c) x.directory refl (s.parents x i);
      no_root_child = s.no_root_child;
      entry_clocks = λ x i. omega (arith, s.entry_clocks x i);
      keys_unique_law = s.keys_unique_law;
    }

-- ---- an entry joined

pub record NewEntry (e : Listed) (t : Table) : Type 0 where
  pub fit : t.highest < 2 ^ 40 → listed_fits t.nodes e ≡ true
  pub parent : Parent t e.directory
  pub child : e.entry.child ≡ 0 → ⊥
  pub clock : clock_of e.entry.stamp ≤ t.highest

pub base_join : (e : Listed) (t : Table) → Base t → NewEntry e t → Base (joined e t)
base_join e t s g =
    record {
      size = s.size;
      node = s.node;
      next_low = s.next_low;
      heads_fit = s.heads_fit;
      entries_fit = λ b. join_listed e t (λ x. listed_fits t.nodes x ≡ true) (g.fit b) (s.entries_fit b);
      depths_fit = s.depths_fit;
      root_first_law = s.root_first_law;
      ids_unique_law = s.ids_unique_law;
      makers_hold = s.makers_hold;
      own_holds = s.own_holds;
      own_below = s.own_below;
      placed = λ f h p z. place_same t (joined e t) h refl (s.placed f h p z);
      head_clocks = s.head_clocks;
      parents = join_parents e t g.parent s.parents;
      no_root_child = join_listed e t (λ x. x.entry.child ≡ 0 → ⊥) g.child s.no_root_child;
      entry_clocks = join_listed e t (λ x. clock_of x.entry.stamp ≤ t.highest) g.clock s.entry_clocks;
      keys_unique_law = join_distinct e t.entries s.keys_unique_law;
    }

-- ---- a new state

-- what a new state is to be: all that create, unlink, rename, remove and making a directory live have in common
pub record NewState (now : ℕ) (f : ℕ → Head) (t : Table) : Type 0 where
  pub nonroot : (made now f t).id ≡ 0 → ⊥
  pub stamp : (made now f t).stamp ≡ stamp_at now t
  pub fit : clock_at now t < 2 ^ 40 → head_fits t.nodes (made now f t) ≡ true
  pub deep : (made now f t).depth ≤ 16
  pub maker_holds_law : maker_holds (made now f t) ≡ true
  pub own : has (made now f t).holders t.own ≡ true
  pub below : maker (made now f t).id ≡ t.own → count (made now f t).id < t.next
  pub place : Place t (made now f t)
  pub stays : StaysDirectory t (made now f t)

pub base_issue : (now : ℕ) (f : ℕ → Head) (t : Table) → Base t → NewState now f t → Base (issue now f t)
base_issue now f t s g =
    record {
      size = ap is_size (issue_nodes now f t) ∙ s.size;
      node = ap (λ (n : ℕ). is_node n (issue now f t).own) (issue_nodes now f t)
          ∙ ap (is_node t.nodes) (issue_own now f t) ∙ s.node;
      next_low = subst (λ (n : ℕ). 1 ≤ n) (sym (issue_next now f t)) s.next_low;
      heads_fit = λ b. issue_heads_fit now f t (g.fit (new b)) (s.heads_fit (old b));
      entries_fit = λ b. issue_entries_fit now f t (ordinary_is t.nodes (made now f t) g.nonroot (g.fit (new b)))
          (λ o e. ordinary_is t.nodes o (other o e) (s.heads_fit (old b) _ o e)) (s.entries_fit (old b));
      depths_fit = issue_heads now f t (λ y. y.depth ≤ 16) g.deep s.depths_fit;
      root_first_law = issue_root now f t g.nonroot s.root_first_law;
      ids_unique_law = issue_ids now f t s.ids_unique_law;
      makers_hold = issue_makers now f t g.maker_holds_law s.makers_hold;
      own_holds = issue_own_holds now f t g.own s.own_holds;
      own_below = issue_own_below now f t g.below s.own_below;
      placed = issue_placed now f t g.stays (λ z. g.place) s.placed;
      head_clocks = issue_head_clocks now f t clock s.head_clocks;
      parents =
          issue_parents now f t g.stays (place_parent t (made now f t) g.place g.deep)
          (λ o e. place_parent t o (s.placed _ o e (other o e)) (s.depths_fit _ o e)) s.parents;
      no_root_child = issue_no_root_child now f t g.nonroot s.no_root_child;
      entry_clocks = issue_entry_clocks now f t clock s.entry_clocks;
      keys_unique_law = issue_keys now f t s.keys_unique_law;
    }
  where
    new : (issue now f t).highest < 2 ^ 40 → clock_at now t < 2 ^ 40
    new b = subst (λ (c : ℕ). c < 2 ^ 40) (issue_highest now f t) b

    old : (issue now f t).highest < 2 ^ 40 → t.highest < 2 ^ 40
    old b = omega (arith, new b, clock_above now t)

    clock : clock_of (made now f t).stamp ≤ clock_at now t
    clock =
        let small = node_small t.nodes t.own s.size s.node in
        let same : clock_of (made now f t).stamp ≡ clock_at now t =
        ap clock_of g.stamp ∙ stamp_clock now t (omega (arith, small.1)) in
        omega (arith, same)

    other : (o : Head) → head_of t (made now f t).id ≡ some o → o.id ≡ 0 → ⊥
    other o e z = g.nonroot (sym (head_id (made now f t).id t.replicas o e) ∙ z)

-- live, it is under a live directory; dead, over no live child
pub firm_issue : (now : ℕ) (f : ℕ → Head) (t : Table) → Firm t → NewState now f t → UnderLive t (made now f t) →
    OverDead t (made now f t) → Firm (issue now f t)
firm_issue now f t s g up down =
    record {
      base = base_issue now f t s.base g;
      live_places = issue_live_places now f t up down s.live_places;
      shown = issue_shown now f t g.stamp s.base.entry_clocks s.shown;
    }

-- ---- a head put

-- what a head that is put is to be, where no clock is drawn
pub record NewHead (h : Head) (t : Table) : Type 0 where
  pub root : h.id ≡ 0 → is_root t.nodes h ≡ true
  pub fit : t.highest < 2 ^ 40 → head_fits t.nodes h ≡ true
  pub deep : h.depth ≤ 16
  pub maker_holds_law : maker_holds h ≡ true
  pub own : has h.holders t.own ≡ true
  pub below : maker h.id ≡ t.own → count h.id < t.next
  pub place : (h.id ≡ 0 → ⊥) → Place t h
  pub stays : StaysDirectory t h
  pub clock : clock_of h.stamp ≤ t.highest

pub base_put : (h : Head) (t : Table) → Base t → NewHead h t → Base (put h t)
base_put h t s g =
    record {
      size = s.size;
      node = s.node;
      next_low = s.next_low;
      heads_fit = λ b. put_heads h t (λ y. head_fits t.nodes y ≡ true) (g.fit b) (s.heads_fit b);
      entries_fit = s.entries_fit;
      depths_fit = put_heads h t (λ y. y.depth ≤ 16) g.deep s.depths_fit;
      root_first_law = put_root h t g.root s.root_first_law;
      ids_unique_law = put_distinct h t.replicas s.ids_unique_law;
      makers_hold = put_heads h t (λ y. maker_holds y ≡ true) g.maker_holds_law s.makers_hold;
      own_holds = put_heads h t (λ y. has y.holders t.own ≡ true) g.own s.own_holds;
      own_below = put_heads h t (λ y. maker y.id ≡ t.own → count y.id < t.next) g.below s.own_below;
      placed = put_placed h t g.stays g.place s.placed;
      head_clocks = put_heads h t (λ y. clock_of y.stamp ≤ t.highest) g.clock s.head_clocks;
      parents = put_parents h t g.stays s.parents;
      no_root_child = s.no_root_child;
      entry_clocks = s.entry_clocks;
      keys_unique_law = s.keys_unique_law;
    }

pub firm_put : (h : Head) (t : Table) → Firm t → NewHead h t → UnderLive t h → OverDead t h →
    ((h.id ≡ 0 → ⊥) → is_live h ≡ true → Entered t h) → Firm (put h t)
firm_put h t s g up down entered =
    record {
      base = base_put h t s.base g;
      live_places = put_live_places h t up down s.live_places;
      shown =
          λ f x e z l. entered_same t (put h t) x refl
          (put_heads h t (λ y. (y.id ≡ 0 → ⊥) → is_live y ≡ true → Entered t y) entered s.shown f x e z l);
    }

-- ---- versions and pending sets stay through the steps

pub record Carried (t u : Table) : Type 0 where
  pub version : (f : ℕ) → version_of (find f u.replicas) ≡ version_of (find f t.replicas)
  pub pending : (f : ℕ) → pending_of (find f u.replicas) ≡ pending_of (find f t.replicas)

pub carried_same : (t u : Table) → u.replicas ≡ t.replicas → Carried t u
carried_same t u e = record { version = λ f. rw e; pending = λ f. rw e }

pub carried_trans : (t u v : Table) → Carried t u → Carried u v → Carried t v
carried_trans t u v p q =
    record { version = λ f. q.version f ∙ p.version f; pending = λ f. q.pending f ∙ p.pending f }

pub carried_put : (h : Head) (t : Table) → Carried t (put h t)
carried_put h t = record { version = version_put h t.replicas; pending = pending_put h t.replicas }

pub carried_issue : (now : ℕ) (f : ℕ → Head) (t : Table) → Carried t (issue now f t)
carried_issue now f t = record { version = issue_version now f t; pending = issue_pending now f t }
