-- "Nothing ever falls": the steps only add, up to `settle`: a put above what is held, joins, a new stamp, making
-- live, the steps of receive. Assumes nothing.
use Rattle.std.specs.Prelude.{◌≡◌, refl, ◌⊎◌, Bool, true, false, cond, List, [], ◌∷◌, ℕ, suc, ◌+◌, ◌*◌, ◌≤◌, ◌<◌, ltb}
use Rattle.std.proofs.Common.{ap, sym, subst, ◌∙◌, inl, inr, arith, ltb-true}
use Rattle.std.proofs.Math.Option.{Option, some, none}
use mathlib.Core.List.Memᴰ
use Rattle.numbers.specs.Nodes.{has, join}
use Rattle.records.specs.declared.head.Head.{Head}
use Rattle.slots.specs.declared.listed.Listed.{Listed}
use Rattle.document.specs.Tables.{Table, with_highest, find, head_of}
use Rattle.document.specs.Steps.{clock_at, stamp_at, joined, put, set_by, join_all, issue, with_holders}
use Rattle.document.specs.Messages.{Push}
use Rattle.document.specs.Receive.{stamps_of, step_a, with_own, make_missing, step_b, merged}
use Rattle.views.specs.Lists.{In, same?}
use Rattle.views.specs.Puts.{pending_of, version_put, pending_put, head_put_same, head_put_other, head_own}
use Rattle.views.specs.Sets.{has_join_left}
use Rattle.views.specs.Joins.{join_all_law}
use Rattle.kept.specs.ReceiveAbove.{highest_least, seen_head}
use Rattle.cluster.specs.Ranks.{rank_o, hold_o, rank, vers, Covers, leq_refl, leq_trans, join_grows}

-- u has all that t has, and the same versions and pending sets
pub record Adds (t u : Table) : Type 0 where
  pub own : u.own ≡ t.own
  pub nodes : u.nodes ≡ t.nodes
  pub highest : t.highest ≤ u.highest
  pub leq : (f : ℕ) → Covers t u f
  pub vers : (f : ℕ) → vers u f ≡ vers t f
  pub pend : (f : ℕ) → pending_of (find f u.replicas) ≡ pending_of (find f t.replicas)

pub adds_refl : (t : Table) → Adds t t
adds_refl t =
    record { own = refl; nodes = refl; highest = omega arith; leq = λ f. leq_refl f _ _; vers = λ f. refl; pend = λ f. refl }

pub adds_trans : {t u v : Table} → Adds t u → Adds u v → Adds t v
adds_trans p q =
    record {
      own = q.own ∙ p.own;
      nodes = q.nodes ∙ p.nodes;
      highest = omega arith;
      leq = λ f. leq_trans f _ _ _ _ _ _ (p.leq f) (q.leq f);
      vers = λ f. q.vers f ∙ p.vers f;
      pend = λ f. q.pend f ∙ p.pend f;
    }

-- every stamp held has a clock that was seen
abbrev pub Clocks : Table → Type 0
Clocks t = (f : ℕ) → rank t f ≤ t.highest * 256 + 256

-- h is above what is held of its file
pub record Above (t : Table) (h : Head) : Type 0 where
  pub rank : rank t h.id ≤ suc h.stamp
  pub hold : (j : ℕ) → hold_o (head_of t h.id) j ≡ true → has h.holders j ≡ true

adds_join : (e : Listed) (t : Table) → Adds t (joined e t)
adds_join e t =
    record {
      own = refl;
      nodes = refl;
      highest = omega arith;
      leq = λ f. record { rank = omega arith; hold = λ j h. h; mark = λ c n. join_grows e t.entries f c n };
      vers = λ f. refl;
      pend = λ f. refl;
    }

adds_highest : (t : Table) (m : ℕ) → t.highest ≤ m → Adds t (with_highest t m)
adds_highest t m le =
    record { own = refl; nodes = refl; highest = le; leq = λ f. leq_refl f _ _; vers = λ f. refl; pend = λ f. refl }

adds_put : (h : Head) (t : Table) → Above t h → Adds t (put h t)
adds_put h t a =
    record {
      own = refl;
      nodes = refl;
      highest = omega arith;
      leq = λ f. go f (same? f h.id);
      vers = λ f. version_put h t.replicas f;
      pend = λ f. pending_put h t.replicas f;
    }
  where
    go : (f : ℕ) → (f ≡ h.id) ⊎ (f ≡ h.id → ⊥) → Covers t (put h t) f
    go f (inl e) =
        subst (λ (g : ℕ). Covers t (put h t) g) (sym e)
        (record {
          rank = rw (head_put_same h t.replicas) a.rank;
          hold = λ j p. rw (head_put_same h t.replicas) (a.hold j p);
          mark = λ c n. omega arith;
        })
    go f (inr ne) =
        record {
          rank = rw (head_put_other h t.replicas f ne) (omega arith);
          hold = λ j p. rw (head_put_other h t.replicas f ne) p;
          mark = λ c n. omega arith;
        }

clocks_put : (h : Head) (t : Table) → Clocks t → h.stamp < t.highest * 256 + 256 → Clocks (put h t)
clocks_put h t k le f = go (same? f h.id)
  where
    go : (f ≡ h.id) ⊎ (f ≡ h.id → ⊥) → rank (put h t) f ≤ t.highest * 256 + 256
    go (inl e) = rw (e, head_put_same h t.replicas) (omega arith)
    go (inr ne) = rw (head_put_other h t.replicas f ne) (k f)

-- ---- adds, and every clock is seen still

pub record Up (t u : Table) : Type 0 where
  pub adds : Adds t u
  pub clocks : Clocks t → Clocks u

pub up_refl : (t : Table) → Up t t
up_refl t = record { adds = adds_refl t; clocks = λ k. k }

pub up_trans : {t u v : Table} → Up t u → Up u v → Up t v
up_trans p q = record { adds = adds_trans p.adds q.adds; clocks = λ k. q.clocks (p.clocks k) }

pub up_put : (h : Head) (t : Table) → Above t h → h.stamp < t.highest * 256 + 256 → Up t (put h t)
up_put h t a le = record { adds = adds_put h t a; clocks = λ k. clocks_put h t k le }

up_highest : (t : Table) (m : ℕ) → t.highest ≤ m → Up t (with_highest t m)
up_highest t m le = record { adds = adds_highest t m le; clocks = λ k f. omega (arith, k f) }

pub up_joins : (es : List Listed) (t : Table) → Up t (join_all es t)
up_joins es t =
    join_all_law (λ (u : Table). Up t u) es (λ e m u p. up_trans p (record { adds = adds_join e u; clocks = λ k. k })) t
    (up_refl t)

pub up_issue : (now : ℕ) (f : ℕ → Head) (t : Table) → t.own < 256 → Clocks t →
    (f (stamp_at now t)).stamp ≡ stamp_at now t →
    ((j : ℕ) → hold_o (head_of t (f (stamp_at now t)).id) j ≡ true → has (f (stamp_at now t)).holders j ≡ true) →
    Up t (issue now f t)
unfolding issue
up_issue now f t own k st hold =
    let h : Head = f (stamp_at now t) in
    let a : Above (with_highest t (clock_at now t)) h = record { rank = omega (arith, k h.id); hold = hold } in
    up_trans (up_highest t (clock_at now t) (omega arith))
    (up_trans (up_put h (with_highest t (clock_at now t)) a (omega arith))
    (up_joins (set_by h (head_of t h.id)) (put h (with_highest t (clock_at now t)))))

-- ---- the steps of receive, up to (e)

-- every head has a clock that was seen
abbrev pub Seen : List Head → Table → Type 0
Seen hs t = (h : Head) → In h hs → h.stamp < t.highest * 256 + 256

pub up_step_a : (p : Push) (t : Table) → Up t (step_a p t)
unfolding step_a
up_step_a p t = up_highest t _ (highest_least (stamps_of p) t.highest)

pub seen_step_a : (p : Push) (t : Table) → Seen (p.first ∷ p.above) (step_a p t)
seen_step_a p t h m = omega (arith, seen_head p t h m)

pub up_new : (h : Head) (t : Table) → head_of t h.id ≡ none → h.stamp < t.highest * 256 + 256 →
    Up t (put (with_own h t) t)
up_new h t e s =
    up_put (with_own h t) t
    (record {
      rank = rw e (omega arith);
      hold = λ j p. let z = rw e at p in absurd
          (let y : ◌≡◌ {A = ℕ} 0 1 = cc in omega arith);
    })
    s

up_missing : (o : Option Head) (h : Head) (t : Table) → head_of t h.id ≡ o → h.stamp < t.highest * 256 + 256 →
    Up t (make_missing o h t)
up_missing none h t e s = up_new h t e s
up_missing (some o) h t e s = up_refl t

pub up_step_b : (hs : List Head) (t : Table) → Seen hs t → Up t (step_b hs t)
unfolding step_b
up_step_b [] t s = up_refl t
up_step_b (h ∷ hs) t s =
    let ih = up_step_b hs t (λ x i. s x (Memᴰ.tail i)) in
    up_trans ih
    (up_missing (head_of (step_b hs t) h.id) h (step_b hs t) refl
    (omega (arith, ih.adds.highest, s h (Memᴰ.head refl))))

pub up_merged : (o : Option Head) (h : Head) (t : Table) → head_of t h.id ≡ o → h.stamp < t.highest * 256 + 256 →
    Clocks t →
    Up t (put (merged o h t) t)
up_merged none h t e s k = up_new h t e s
up_merged (some o) h t e s k = go (ltb o.stamp h.stamp) refl
  where
    e' : head_of t o.id ≡ some o
    e' = head_own h.id t.replicas o e

    go : (b : Bool) → ltb o.stamp h.stamp ≡ b →
        Up t (put (with_holders (cond b h o) (join o.holders h.holders)) t)
    go true lt =
        up_put (with_holders h (join o.holders h.holders)) t
        (record {
          rank = rw e (omega (arith, ltb-true));
          hold = λ j p. has_join_left o.holders h.holders j (rw e at p);
        })
        s
    go false lt =
        up_put (with_holders o (join o.holders h.holders)) t
        (record { rank = rw e' (omega arith); hold = λ j p. has_join_left o.holders h.holders j (rw e' at p) })
        (omega (arith, k o.id, ap rank_o e'))
