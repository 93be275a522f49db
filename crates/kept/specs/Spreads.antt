-- Spread leaves a sound table sound: a head is put with more holders. Assumes nothing.
use Rattle.std.specs.Prelude.{◌≡◌, refl, ◌⊎◌, Bool, true, false, ◌||◌, not, List, [], ℕ, eqb}
use Rattle.std.proofs.Common.{ap, sym, ◌∙◌, inl, inr}
use Rattle.std.proofs.Math.Option.{some}
use Rattle.std.proofs.lemmas.Bool.{not-false}
use Rattle.numbers.specs.Nodes.{is_set, has, join}
use Rattle.numbers.specs.Ids.{maker}
use Rattle.numbers.specs.Laws.{is_set_join}
use Rattle.records.specs.declared.head.Head.{Head}
use Rattle.records.specs.Heads.{is_root, root_head, head_fits}
use Rattle.records.specs.Ordinary.{ordinary_is, is_ordinary_law, is_root_fit}
use Rattle.document.specs.Tables.{Table, head_of}
use Rattle.document.specs.Sound.{is_live, is_root_id, maker_holds, sound}
use Rattle.document.specs.Steps.{put, with_holders, is_dead, too_many, past_end}
use Rattle.document.specs.Outcomes.{done, all_passed}
use Rattle.document.specs.Calls.{changed_by, spread_to, spread_in}
use Rattle.views.specs.Lists.{no_both, some_only, same?}
use Rattle.views.specs.Puts.{head_own, dead_not}
use Rattle.views.specs.Sets.{has_join_left, join_all_nodes}
use Rattle.views.specs.Sounds.{Entered, Sound, sound_is, is_sound, root_only, depths_of}
use Rattle.kept.specs.Rules.{OverDead}
use Rattle.kept.specs.Firm.{NewHead, firm_of, firm_put, carried_put}
use Rattle.kept.specs.Settled.{sound_settle}
use Rattle.kept.specs.States.{place_like}
use Rattle.kept.specs.Starts.{root_self}
use Rattle.kept.specs.Accepted.{accepted, done_table, held_some}

-- the maker stays among more holders
makers_more : (h : Head) (set : ℕ) → maker_holds h ≡ true → maker_holds (with_holders h (join h.holders set)) ≡ true
makers_more h set e = go (is_root_id h) e
  where
    go : (b : Bool) → (b || has h.holders (maker h.id)) ≡ true →
        (b || has (join h.holders set) (maker h.id)) ≡ true
    go true p = refl
    go false p = has_join_left h.holders set (maker h.id) p

-- a held head with more holders may be put
pub more_holders : (t : Table) (f : ℕ) (h : Head) (set : ℕ) → Sound t → head_of t f ≡ some h →
    is_set t.nodes set ≡ true →
    NewHead (with_holders h (join h.holders set)) t
more_holders t f h set s e st =
    record {
      root = root;
      fit = λ b. fit (same? h.id 0);
      deep = depths_of t s.root_first_law s.heads_fit f h e;
      maker_holds_law = makers_more h set (s.makers_hold f h e);
      own = has_join_left h.holders set t.own (s.own_holds f h e);
      below = s.own_below f h e;
      place = λ z. place_like t h (with_holders h (join h.holders set)) refl refl (s.placed f h e z);
      stays = λ o p d. (ap (λ (y : Head). eqb y.kind 2) (same o p) ∙ d, ap (λ (y : Head). y.depth) (same o p));
      clock = s.head_clocks f h e;
    }
  where
    same : (o : Head) → head_of t h.id ≡ some o → h ≡ o
    same o p = some_only (sym (head_own f t.replicas h e) ∙ p)

    -- all nodes hold the root already
    root : h.id ≡ 0 → is_root t.nodes (with_holders h (join h.holders set)) ≡ true
    root z =
        ap (λ (y : Head). is_root t.nodes (with_holders y (join y.holders set))) (root_only t s.root_first_law f h e z)
        ∙ ap (λ (a : ℕ). is_root t.nodes (with_holders (root_head t.nodes) a)) (join_all_nodes t.nodes set st)
        ∙ root_self t.nodes

    fit : (h.id ≡ 0) ⊎ (h.id ≡ 0 → ⊥) → head_fits t.nodes (with_holders h (join h.holders set)) ≡ true
    fit (inl z) = is_root_fit t.nodes (with_holders h (join h.holders set)) z (root z)
    fit (inr z) =
        let o = ordinary_is t.nodes h z (s.heads_fit f h e) in
        is_ordinary_law t.nodes (with_holders h (join h.holders set)) z
        (record {
          kind = o.kind;
          live = o.live;
          made = o.made;
          stamp = o.stamp;
          holders = is_set_join t.nodes h.holders set o.holders st;
          depth = o.depth;
          directory = o.directory;
          name = o.name;
        })

-- a dead replica has no live child, whoever holds it
pub no_live_under_dead : (t : Table) (f : ℕ) (h : Head) → Sound t → head_of t f ≡ some h → OverDead t h
no_live_under_dead t f h s e d g x p z l q =
    let here : is_dead (head_of t x.directory) ≡ not (is_live h) =
    dead_not (head_of t x.directory) h (ap (λ (m : ℕ). head_of t m) q ∙ head_own f t.replicas h e) in
    no_both (is_live h) (not-false (is_live h) (sym here ∙ s.live_places g x p z l)) d

pub sound_spread : (t : Table) (f : ℕ) (h : Head) (set : ℕ) → Sound t → head_of t f ≡ some h →
    is_set t.nodes set ≡ true →
    too_many (spread_to set t h) ≡ false → past_end (spread_to set t h) ≡ false → Sound (spread_to set t h)
unfolding spread_to
sound_spread t f h set s e st =
    let more : Head = with_holders h (join h.holders set) in
    sound_settle t (put more t) s refl refl
    (firm_put more t (firm_of t s) (more_holders t f h set s e st) (s.live_places f h e) (no_live_under_dead t f h s e)
    entered)
    (carried_put more t)
  where
    entered : (h.id ≡ 0 → ⊥) → is_live h ≡ true → Entered t (with_holders h (join h.holders set))
    entered z l =
        let n = s.shown f h e z l in
        record { entry = n.entry; there = n.there; stamp = n.stamp; live = n.live }

pub spread_kept : (id set : ℕ) (t : Table) (v : ℕ) (u : Table) (w : List ℕ) → sound t ≡ true →
    spread_in id set t ≡ done v u w → sound u ≡ true
unfolding spread_in
spread_kept id set t v u w st e =
    let r2 = accepted _ _ _ v u w e in
    let r6 = accepted _ _ _ v u w r2.1 in
    let r16 = accepted _ _ _ v u w r6.1 in
    let r17 = accepted _ _ _ v u w r16.1 in
    let h = held_some (head_of t id) r6.0 in
    let after : changed_by (spread_to set t) t (head_of t id) ≡ spread_to set t h.0 =
    ap (changed_by (spread_to set t) t) h.1 in
    ap sound (done_table 0 v _ u [] w (sym (all_passed _) ∙ r17.1) ∙ after)
    ∙ is_sound (spread_to set t h.0)
    (sound_spread t id h.0 set (sound_is t st) h.1 (not-false _ r2.0) (ap too_many (sym after) ∙ r16.0)
    (ap past_end (sym after) ∙ r17.0))
