-- Every name in a table has its fifteen bytes, and has them after each step: so a table has bytes of its own, and what
-- is said of it is said of them. Assumes nothing.
use Rattle.std.specs.Prelude.{◌≡◌, refl, ◌⊎◌, Bool, true, false, cond, List, ◌++◌, ℕ, ◌+◌, ◌-◌, leb, length}
use Rattle.std.proofs.Common.{ap, sym, subst, ◌∙◌, inl, inr, arith, length-append, leb-true, eq-eqb}
use Rattle.std.proofs.Math.Option.{Option, some}
use Rattle.codec.specs.Bytes.{zeros}
use Rattle.codec.specs.Lists.{every}
use Rattle.codec.specs.Laws.{length_zeros}
use Rattle.names.specs.Names.{no_name, name_from}
use Rattle.records.specs.declared.head.Head.{Head}
use Rattle.slots.specs.declared.replica.Replica.{Replica}
use Rattle.slots.specs.declared.listed.Listed.{Listed}
use Rattle.document.specs.Tables.{Table, with_replicas, with_highest, with_next, find, head_of, fresh}
use Rattle.document.specs.Steps.{clock_at, put, joined, join_all, place_entry, strike, same_place, set_by, issue, settle}
use Rattle.document.specs.Calls.{clear}
use Rattle.document.specs.Layouts.{is_full, full_replica, full_listed}
use Rattle.document.specs.Reading.{Shaped}
use Rattle.views.specs.Lists.{In, every_in, in_every}
use Rattle.views.specs.Puts.{head_found, find_in, put_in}
use Rattle.views.specs.Joins.{join_in, join_all_law}
use Rattle.views.specs.Maps.{map_in}
use Rattle.views.specs.Settles.{settled, settled_head, settle_in}
use Rattle.views.specs.Issues.{made, set_cases}
use Rattle.kept.specs.Clears.{cleared, cleared_head, clear_map}

pub record Full (t : Table) : Type 0 where
  pub replicas : (r : Replica) → In r t.replicas → is_full r.head.name ≡ true
  pub entries : (x : Listed) → In x t.entries → is_full x.entry.name ≡ true

pub full_of : (t : Table) → Shaped t → Full t
full_of t s =
    record {
      replicas = every_in full_replica t.replicas s.replicas;
      entries = every_in full_listed t.entries s.entries;
    }

pub shaped_of : (t : Table) → Full t → Shaped t
shaped_of t s =
    record {
      replicas = in_every full_replica t.replicas s.replicas;
      entries = in_every full_listed t.entries s.entries;
    }

-- a held head
pub full_head_law : (t : Table) → Full t → (f : ℕ) (h : Head) → head_of t f ≡ some h → is_full h.name ≡ true
full_head_law t s f h e =
    let r = head_found (find f t.replicas) h e in
    ap (λ (y : Head). is_full y.name) (sym r.2) ∙ s.replicas r.0 (find_in f t.replicas r.0 r.1)

-- ---- names

pub full_from : (s : List ℕ) → is_full (name_from s) ≡ true
unfolding name_from
full_from s = go (leb (length s) 15) refl
  where
    go : (b : Bool) → leb (length s) 15 ≡ b →
        is_full (cond b (record { len = length s; bytes = s ++ zeros (15 - length s) }) no_name) ≡ true
    go true e =
        let le = leb-true (length s) 15 e in
        eq-eqb _ 15
        (length-append s (zeros (15 - length s)) ∙ ap (λ (k : ℕ). length s + k) (length_zeros (15 - length s))
        ∙ omega arith)
    go false e = refl

-- ---- steps

pub full_put : (h : Head) (t : Table) → is_full h.name ≡ true → Full t → Full (put h t)
full_put h t p s = record { replicas = λ r m. go r (put_in h t.replicas r m); entries = s.entries }
  where
    go : (r : Replica) → (r.head ≡ h) ⊎ In r t.replicas → is_full r.head.name ≡ true
    go r (inl e) = ap (λ (y : Head). is_full y.name) e ∙ p
    go r (inr i) = s.replicas r i

pub full_join : (e : Listed) (t : Table) → is_full e.entry.name ≡ true → Full t → Full (joined e t)
full_join e t p s = record { replicas = s.replicas; entries = λ x m. go x (join_in e t.entries x m) }
  where
    go : (x : Listed) → (x ≡ e) ⊎ In x t.entries → is_full x.entry.name ≡ true
    go x (inl q) = ap (λ (y : Listed). is_full y.entry.name) q ∙ p
    go x (inr i) = s.entries x i

pub full_joins : (es : List Listed) (t : Table) → ((e : Listed) → In e es → is_full e.entry.name ≡ true) → Full t →
    Full (join_all es t)
full_joins es t p s = join_all_law Full es (λ e m u k. full_join e u (p e m) k) t s

-- the entries that a state sets
pub full_set : (h : Head) (o : Option Head) → is_full h.name ≡ true →
    ((old : Head) → o ≡ some old → is_full old.name ≡ true) → (e : Listed) → In e (set_by h o) →
    is_full e.entry.name ≡ true
full_set h o p q e m = go (set_cases h o e m)
  where
    go : (e ≡ place_entry h) ⊎ ((old : Head) × (o ≡ some old) × (same_place h old ≡ false) × (e ≡ strike h old)) →
        is_full e.entry.name ≡ true
    go (inl a) = ap (λ (y : Listed). is_full y.entry.name) a ∙ p
    go (inr (old, a, b, c)) = ap (λ (y : Listed). is_full y.entry.name) c ∙ q old a

pub full_high : (t : Table) (c : ℕ) → Full t → Full (with_highest t c)
full_high t c s = record { replicas = s.replicas; entries = s.entries }

pub full_next : (t : Table) (c : ℕ) → Full t → Full (with_next t c)
full_next t c s = record { replicas = s.replicas; entries = s.entries }

pub full_issue : (now : ℕ) (f : ℕ → Head) (t : Table) → is_full (made now f t).name ≡ true → Full t → Full (issue now f t)
unfolding issue
full_issue now f t p s =
    let h : Head = made now f t in
    full_joins (set_by h (head_of t h.id)) (put h (with_highest t (clock_at now t)))
    (full_set h (head_of t h.id) p (λ o e. full_head_law t s h.id o e))
    (full_put h (with_highest t (clock_at now t)) p (full_high t (clock_at now t) s))

pub full_settle : (old t : Table) → Full t → Full (settle old t)
unfolding settle
full_settle old t s = record { replicas = λ r m. go r (settle_in old t t.replicas r m); entries = s.entries }
  where
    go : (r : Replica) → (o : Replica) × In o t.replicas × (r ≡ settled old t o) → is_full r.head.name ≡ true
    go r (o, i, e) =
        ap (λ (y : Head). is_full y.name) (ap (λ (x : Replica). x.head) e ∙ settled_head old t o) ∙ s.replicas o i

pub full_clear : (id node : ℕ) (t : Table) → Full t → Full (with_replicas t (clear id node t.replicas))
full_clear id node t s =
    record {
      replicas =
          λ r m. go r
          (map_in (cleared id node) (cleared_head id node) t.replicas r
          (subst (λ (l : List Replica). In r l) (clear_map id node t.replicas) m));
      entries = s.entries;
    }
  where
    go : (r : Replica) → (o : Replica) × In o t.replicas × (r ≡ cleared id node o) → is_full r.head.name ≡ true
    go r (o, i, e) =
        ap (λ (y : Head). is_full y.name) (ap (λ (x : Replica). x.head) e ∙ cleared_head id node o) ∙ s.replicas o i

pub full_fresh : (node n : ℕ) → Full (fresh node n)
unfolding fresh every
full_fresh node n = full_of (fresh node n) (record { replicas = refl; entries = refl })
