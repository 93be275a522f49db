-- A fresh table is sound, so start leaves a sound table. Assumes nothing.
use Rattle.std.specs.Prelude.{◌≡◌, refl, Bool, true, false, cond, List, [], ℕ, ◌≤◌, ◌<◌, eqb, leb}
use Rattle.std.proofs.Common.{ap, sym, subst, ◌∙◌, arith, eq-eqb, leb-true, lt-ltb, pow_pos}
use Rattle.std.proofs.Math.Option.{some, none}
use Rattle.std.specs.Int.Bits.{or_zero_l}
use Rattle.std.proofs.lemmas.Bool.{not-false}
use Rattle.codec.specs.Lists.{every, and_true}
use Rattle.names.specs.Names.{no_name, same_name_refl}
use Rattle.numbers.specs.Nodes.{is_size, is_node, is_set, has, join, without, all}
use Rattle.numbers.specs.Ids.{count, clock_of, is_version}
use Rattle.numbers.specs.Laws.{has_all}
use Rattle.records.specs.declared.head.Head.{Head}
use Rattle.records.specs.Heads.{is_root, root_head, head_fits}
use Rattle.slots.specs.declared.replica.Replica.{Replica}
use Rattle.document.specs.Tables.{Table, first, find, head_of, entries_of, fresh}
use Rattle.document.specs.Sound.{distinct, maker_holds, is_part_of, sound}
use Rattle.document.specs.Outcomes.{done, all_passed}
use Rattle.document.specs.Calls.{start}
use Rattle.views.specs.Lists.{some_only, not_none}
use Rattle.views.specs.Puts.{head_found}
use Rattle.views.specs.Sounds.{Sound, is_sound}
use Rattle.kept.specs.Accepted.{accepted, done_table}

-- the root's head is the root's
pub root_self : (n : ℕ) → is_root n (root_head n) ≡ true
unfolding is_root
root_self n = simp (eq-eqb (all n) (all n) refl, same_name_refl no_name)

-- no node is part of any set
part_none : (a : ℕ) → is_part_of 0 a ≡ true
unfolding join
part_none a = eq-eqb _ _ (or_zero_l a)

-- what a fresh table holds is the root
fresh_only : (node n f : ℕ) (r : Replica) → find f (fresh node n).replicas ≡ some r →
    r ≡ record { head = root_head n; version = 1; pending = 0 }
unfolding fresh first
fresh_only node n f r e = go (eqb 0 f) e
  where
    go : (b : Bool) → cond b (some (record { head = root_head n; version = 1; pending = 0 })) none ≡ some r →
        r ≡ record { head = root_head n; version = 1; pending = 0 }
    go true q = sym (some_only q)
    go false q = absurd (not_none q)

fresh_head : (node n f : ℕ) (h : Head) → head_of (fresh node n) f ≡ some h → h ≡ root_head n
fresh_head node n f h e =
    let r = head_found (find f (fresh node n).replicas) h e in
    sym r.2 ∙ ap (λ (x : Replica). x.head) (fresh_only node n f r.0 r.1)

pub sound_fresh : (node n : ℕ) → is_size n ≡ true → is_node n node ≡ true → Sound (fresh node n)
unfolding fresh head_fits is_version every distinct entries_of
sound_fresh node n p q =
    record {
      size = p;
      node = q;
      next_low = omega arith;
      next_high = omega arith;
      highest = omega arith;
      few_replicas = omega arith;
      few_entries = omega arith;
      heads_fit = λ f h e. of f h e (λ y. head_fits n y ≡ true) (root_self n);
      versions_fit = λ f r e. by f r e (λ y. is_version y.version ≡ true) refl;
      pendings_fit = λ f r e. by f r e (λ y. is_set n y.pending ≡ true) (lt-ltb _ _ (pow_pos n));
      entries_fit = λ x m. elim m [ ];
      root_first_law = root_self n;
      ids_unique_law = refl;
      makers_hold = λ f h e. of f h e (λ y. maker_holds y ≡ true) refl;
      own_holds = λ f h e. of f h e (λ y. has y.holders node ≡ true) (has_all n node low high);
      pendings_within =
          λ f r e. by f r e (λ y. is_part_of y.pending (without y.head.holders node) ≡ true) (part_none _);
      own_below = λ f h e o. of f h e (λ y. count y.id < 1) (omega arith);
      placed = λ f h e z. absurd (z (zero f h e));
      live_places = λ f h e z. absurd (z (zero f h e));
      not_crowded_law = λ f h e. omega arith;
      shown = λ f h e z. absurd (z (zero f h e));
      head_clocks = λ f h e. of f h e (λ y. clock_of y.stamp ≤ 0) (omega arith);
      parents = λ x m. elim m [ ];
      no_root_child = λ x m. elim m [ ];
      entry_clocks = λ x m. elim m [ ];
      keys_unique_law = refl;
    }
  where
    of : (f : ℕ) (h : Head) → head_of (fresh node n) f ≡ some h → (P : Head → Type 0) → P (root_head n) → P h
    of f h e P r = subst P (sym (fresh_head node n f h e)) r

    by : (f : ℕ) (r : Replica) → find f (fresh node n).replicas ≡ some r → (P : Replica → Type 0) →
        P (record { head = root_head n; version = 1; pending = 0 }) → P r
    by f r e P x = subst P (sym (fresh_only node n f r e)) x

    zero : (f : ℕ) (h : Head) → head_of (fresh node n) f ≡ some h → h.id ≡ 0
    zero f h e = ap (λ (y : Head). y.id) (fresh_head node n f h e)

    low : 1 ≤ node
    low = leb-true 1 node (and_true (leb 1 node) _ q).0

    high : node ≤ n
    high = leb-true node n (and_true (leb 1 node) _ q).1

-- "start a table"
pub start_sound : (l : List ℕ) (node n v : ℕ) (u : Table) (w : List ℕ) → start l node n ≡ done v u w → sound u ≡ true
unfolding start
start_sound l node n v u w e =
    let a = accepted _ _ _ v u w e in
    let b = accepted _ _ _ v u w a.1 in
    let ok = and_true (is_size n) _ (not-false _ b.0) in
    ap sound (done_table 0 v (fresh node n) u [] w (sym (all_passed _) ∙ b.1))
    ∙ is_sound (fresh node n) (sound_fresh node n ok.0 ok.1)
