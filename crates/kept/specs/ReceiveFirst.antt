-- Step (c) of a receive: the pushed replica is made, or its state is taken if the stamp is greater, and holders are
-- joined. A directory keeps its kind and depth (line 13), so what is under it stays so. Assumes nothing.
use Rattle.std.specs.Prelude.{◌≡◌, refl, ◌⊎◌, Bool, true, false, cond, ℕ, ◌^◌, ◌≤◌, ◌<◌, eqb, ltb}
use Rattle.std.proofs.Common.{ap, sym, ◌∙◌, inl, inr, arith, eqb-true, ltb-true}
use Rattle.std.proofs.Math.Path.{subst}
use Rattle.std.proofs.Math.Option.{Option, some, none}
use mathlib.Core.List.Memᴰ
use mathlib.Core.List.{List}
use Rattle.numbers.specs.Nodes.{has, is_set, join, single}
use Rattle.numbers.specs.Ids.{maker, count, clock_of}
use Rattle.numbers.specs.Laws.{is_set_join}
use Rattle.records.specs.declared.head.Head.{Head}
use Rattle.records.specs.Heads.{head_fits, is_root, root_head}
use Rattle.records.specs.Ordinary.{Ordinary, ordinary_is, root_fits}
use Rattle.document.specs.Tables.{Table, head_of}
use Rattle.document.specs.Sound.{is_directory}
use Rattle.document.specs.Steps.{with_holders}
use Rattle.document.specs.Messages.{Push}
use Rattle.document.specs.Receive.{with_own, step_a, step_b, merged, step_c, taken}
use Rattle.views.specs.Lists.{In, same?, some_only, not_none}
use Rattle.views.specs.Puts.{head_id, head_own}
use Rattle.views.specs.Sets.{has_join_left, part_refl}
use Rattle.views.specs.Sounds.{Place, root_held}
use Rattle.kept.specs.MessageFacts.{MessageSays, TableAgrees}
use Rattle.kept.specs.Firm.{Base, NewHead, base_put}
use Rattle.kept.specs.Rules.{StaysDirectory}
use Rattle.kept.specs.Starts.{root_self}
use Rattle.kept.specs.States.{place_like}
use Rattle.kept.specs.ReceiveRanges.{depth_most, maker_more, has_own, fits_holders, fits_own}
use Rattle.kept.specs.ReceiveAbove.{base_A, seen_head, Steady, steady_B, above_other, Fit, above_under, base_B}

-- the table after (b)
abbrev pub with_above : Push → Table → Table
with_above p t = step_b p.above (step_a p t)

module _ (p : Push) (t : Table) (b : Base t) (m : MessageSays t.nodes p) (a : TableAgrees p t) where
  abbrev F : Head
  F = p.first

  abbrev A : Table
  A = step_a p t

  abbrev B : Table
  B = with_above p t

  -- ---- what (a) and (b) leave

  pub fit_above : (x : Head) → In x p.above → Fit A x
  unfolding step_a
  fit_above x i =
      let h = m.heads x i in
      record {
        fits = h.fits;
        makers = h.maker;
        nonroot = m.nonroot x i;
        agrees = a.held x (Memᴰ.tail i);
        stray = a.stray x (Memᴰ.tail i);
        clock = seen_head p t x (Memᴰ.tail i);
      }

  pub after_B : Base B
  unfolding step_b
  after_B = go (same? F.id 0)
    where
      go : (F.id ≡ 0) ⊎ (F.id ≡ 0 → ⊥) → Base B
      go (inl z) = subst (λ (l : List Head). Base (step_b l A)) (sym (m.root z).1) (base_A p t b)
      go (inr z) = base_B p.above A (base_A p t b) fit_above F (m.chain z)

  steady : Steady A B
  steady = steady_B p.above A

  nodes_B : B.nodes ≡ t.nodes
  unfolding step_a
  nodes_B = steady.nodes

  own_B : B.own ≡ t.own
  unfolding step_a
  own_B = steady.own

  -- the pushed replica is as it was, and its place is held
  pub first_B : head_of B F.id ≡ head_of t F.id
  unfolding step_a
  first_B = above_other p.above A F.id m.twice

  pub place_first : (F.id ≡ 0 → ⊥) → Place B F
  place_first z = above_under p.above A (base_A p t b) fit_above F (m.chain z)

  clock_first : clock_of F.stamp ≤ B.highest
  clock_first = omega (arith, seen_head p t F (Memᴰ.head refl), steady.highest)

  fits_first : head_fits B.nodes F ≡ true
  fits_first = rw nodes_B m.first.fits

  ordinary_first : (F.id ≡ 0 → ⊥) → Ordinary B.nodes F
  ordinary_first z = ordinary_is B.nodes F z fits_first

  root_B : head_of B 0 ≡ some (root_head B.nodes)
  root_B = root_held B after_B.root_first_law

  -- ---- made

  good_made : head_of B F.id ≡ none → NewHead (merged none F B) B
  good_made e =
      let z : F.id ≡ 0 → ⊥ = λ q. not_none (sym e ∙ ap (λ (k : ℕ). head_of B k) q ∙ root_B) in
      record {
        root = λ q. absurd (z q);
        fit = λ c. fits_own B.nodes F B fits_first z after_B.node;
        deep = depth_most B.nodes F (ordinary_first z);
        maker_holds_law = maker_more F F (single B.own) refl m.first.maker;
        own = has_own F B after_B.node;
        below = λ q. absurd (a.stray F (Memᴰ.head refl) (sym first_B ∙ e) (q ∙ own_B));
        place = λ q. place_like B F (with_own F B) refl refl (place_first z);
        clock = clock_first;
        stays = λ o q r. absurd (not_none (sym e ∙ q));
      }

  -- ---- held before: its state taken, or kept

  module _ (o : Head) (e : head_of B F.id ≡ some o) where
    abbrev holders : ℕ
    holders = join o.holders F.holders

    id : o.id ≡ F.id
    id = head_id F.id B.replicas o e

    -- the root's are the same on both sides
    root_same : F.id ≡ 0 → (o ≡ root_head B.nodes) × (F ≡ root_head B.nodes)
    root_same z =
        (some_only (sym e ∙ ap (λ (k : ℕ). head_of B k) z ∙ root_B), root_fits B.nodes F fits_first z)

    set_fits : B.highest < 2 ^ 40 → (F.id ≡ 0 → ⊥) → is_set B.nodes holders ≡ true
    set_fits c z =
        let y : o.id ≡ 0 → ⊥ = λ q. z (sym id ∙ q) in
        is_set_join B.nodes o.holders F.holders
        (ordinary_is B.nodes o y (after_B.heads_fit c F.id o e)).holders (ordinary_first z).holders

    own_holds : has holders B.own ≡ true
    own_holds = has_join_left o.holders F.holders B.own (after_B.own_holds F.id o e)

    good_taken : o.stamp < F.stamp → NewHead (with_holders F (join o.holders F.holders)) B
    good_taken l =
        record {
          root = λ q. absurd (z q);
          fit = λ c. fits_holders B.nodes F holders fits_first z (set_fits c z);
          deep = depth_most B.nodes F (ordinary_first z);
          maker_holds_law = maker_more F o F.holders id (after_B.makers_hold F.id o e);
          own = own_holds;
          below = subst (λ (k : ℕ). maker k ≡ B.own → count k < B.next) id (after_B.own_below F.id o e);
          place = λ q. place_like B F (with_holders F holders) refl refl (place_first z);
          clock = clock_first;
          stays = stays;
        }
      where
        z : F.id ≡ 0 → ⊥
        z q =
            let r = root_same q in
            omega (arith, ap (λ (h : Head). h.stamp) r.0, ap (λ (h : Head). h.stamp) r.1)

        -- line 13: its kind is ours, and a directory's depth
        stays : StaysDirectory B (with_holders F (join o.holders F.holders))
        stays x q r =
            let v = a.held F (Memᴰ.head refl) x (sym first_B ∙ q) in
            (ap (λ (k : ℕ). eqb k 2) (sym v.kind) ∙ r, sym (v.depth r))

    good_kept : NewHead (with_holders o (join o.holders F.holders)) B
    good_kept =
        record {
          root = λ q. root (sym id ∙ q);
          fit = λ c. fits c (same? F.id 0);
          deep = after_B.depths_fit F.id o e;
          maker_holds_law = maker_more o o F.holders refl (after_B.makers_hold F.id o e);
          own = own_holds;
          below = after_B.own_below F.id o e;
          place = λ q. place_like B o (with_holders o holders) refl refl (after_B.placed F.id o e q);
          clock = after_B.head_clocks F.id o e;
          stays = λ x q r.
              let s : o ≡ x = some_only (sym (head_own F.id B.replicas o e) ∙ q) in
              (ap is_directory s ∙ r, ap (λ (h : Head). h.depth) s);
        }
      where
        kept_root : F.id ≡ 0 → with_holders o (join o.holders F.holders) ≡ o
        kept_root z =
            let r = root_same z in
            ap (with_holders o)
            (ap (λ (h : Head). join o.holders h.holders) (r.1 ∙ sym r.0)
            ∙ eqb-true (join o.holders o.holders) o.holders (part_refl o.holders))

        root : F.id ≡ 0 → is_root B.nodes (with_holders o (join o.holders F.holders)) ≡ true
        root z = ap (is_root B.nodes) (kept_root z ∙ (root_same z).0) ∙ root_self B.nodes

        fits : B.highest < 2 ^ 40 → (F.id ≡ 0) ⊎ (F.id ≡ 0 → ⊥) →
            head_fits B.nodes (with_holders o (join o.holders F.holders)) ≡ true
        fits c (inl z) = ap (head_fits B.nodes) (kept_root z) ∙ after_B.heads_fit c F.id o e
        fits c (inr z) =
            fits_holders B.nodes o holders (after_B.heads_fit c F.id o e) (λ q. z (sym id ∙ q)) (set_fits c z)

  -- ---- the whole step

  pub good_merged : (o : Option Head) → head_of B F.id ≡ o → NewHead (merged o F B) B
  good_merged none e = good_made e
  good_merged (some o) e = go (ltb o.stamp F.stamp) refl
    where
      go : (x : Bool) → ltb o.stamp F.stamp ≡ x →
          NewHead (with_holders (cond x F o) (join o.holders F.holders)) B
      go true l = good_taken o e (ltb-true o.stamp F.stamp l)
      go false l = good_kept o e

  pub after_C : Base (taken p t)
  unfolding taken step_c
  after_C = base_put (merged (head_of B F.id) F B) B after_B (good_merged (head_of B F.id) refl)
