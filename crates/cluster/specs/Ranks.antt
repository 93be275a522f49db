-- What a table holds as numbers, 0 for absent, and the order on them: what is held, and no less. Assumes nothing.
use Rattle.std.specs.Prelude.{◌≡◌, refl, ◌⊎◌, Bool, true, false, List, ℕ, suc, ◌≤◌, ◌<◌}
use Rattle.std.proofs.Common.{ap, inl, inr, arith}
use Rattle.std.proofs.Math.Option.{Option, some, none}
use Rattle.names.specs.declared.Name.{Name}
use Rattle.numbers.specs.Nodes.{has}
use Rattle.records.specs.declared.head.Head.{Head}
use Rattle.slots.specs.declared.replica.Replica.{Replica}
use Rattle.slots.specs.declared.listed.Listed.{Listed}
use Rattle.document.specs.Tables.{Table, find, head_of?, head_of, find_entry}
use Rattle.document.specs.Steps.{join_into}
use Rattle.views.specs.Puts.{version_of, pending_of}
use Rattle.views.specs.Joins.{After, join_after}

-- not held is 0, the root 1
abbrev pub rank_o : Option Head → ℕ
rank_o none = 0
rank_o (some h) = suc h.stamp

abbrev pub hold_o : Option Head → ℕ → Bool
hold_o none j = false
hold_o (some h) j = has h.holders j

abbrev pub mark_o : Option Listed → ℕ
mark_o none = 0
mark_o (some x) = suc x.entry.stamp

abbrev pub rank : Table → ℕ → ℕ
rank t f = rank_o (head_of t f)

abbrev pub mark : Table → ℕ → ℕ → Name → ℕ
mark t d c n = mark_o (find_entry d c n t.entries)

abbrev pub vers : Table → ℕ → ℕ
vers t f = version_of (find f t.replicas)

abbrev pub pend : Table → ℕ → ℕ → Bool
pend t f j = has (pending_of (find f t.replicas)) j

-- ---- what is known of the file f in the first is known in the second

pub record Leq (f : ℕ) (a b : Option Head) (x y : List Listed) : Type 0 where
  pub rank : rank_o a ≤ rank_o b
  pub hold : (j : ℕ) → hold_o a j ≡ true → hold_o b j ≡ true
  pub mark : (c : ℕ) (n : Name) → mark_o (find_entry f c n x) ≤ mark_o (find_entry f c n y)

abbrev pub Covers : Table → Table → ℕ → Type 0
Covers t u f = Leq f (head_of t f) (head_of u f) t.entries u.entries

pub leq_refl : (f : ℕ) (a : Option Head) (x : List Listed) → Leq f a a x x
leq_refl f a x = record { rank = omega arith; hold = λ j h. h; mark = λ c n. omega arith }

pub leq_trans : (f : ℕ) (a b c : Option Head) (x y z : List Listed) → Leq f a b x y → Leq f b c y z → Leq f a c x z
leq_trans f a b c x y z p q =
    record {
      rank = omega arith;
      hold = λ j h. q.hold j (p.hold j h);
      mark = λ k n. omega (arith, p.mark k n, q.mark k n);
    }

-- ---- from a number back to what stands there

pub held : (o : Option Head) → 1 ≤ rank_o o → (h : Head) × (o ≡ some h)
held none le = absurd (omega arith)
held (some h) le = (h, refl)

pub entered : (o : Option Listed) → 1 ≤ mark_o o → (x : Listed) × (o ≡ some x)
entered none le = absurd (omega arith)
entered (some x) le = (x, refl)

pub hold_held : (o : Option Head) (j : ℕ) → hold_o o j ≡ true → 1 ≤ rank_o o
hold_held none j p = let z : ◌≡◌ {A = ℕ} 0 1 = cc in absurd (omega arith)
hold_held (some h) j p = omega arith

-- what has a version is held, and the other way round it is found
pub vers_held : (o : Option Replica) → 1 ≤ version_of o → 1 ≤ rank_o (head_of? o)
vers_held none p = absurd (omega arith)
vers_held (some r) p = omega arith

-- ---- after a join nothing falls

pub join_grows : (e : Listed) (l : List Listed) (d c : ℕ) (n : Name) →
    mark_o (find_entry d c n l) ≤ mark_o (find_entry d c n (join_into e l))
join_grows e l d c n = go (find_entry d c n l) refl
  where
    up : (z : Listed) → (a : After z (find_entry d c n (join_into e l))) →
        (a.entry ≡ z) ⊎ (z.entry.stamp < a.entry.entry.stamp) →
        suc z.entry.stamp ≤ mark_o (find_entry d c n (join_into e l))
    up z a (inl q) = omega (arith, ap mark_o a.is, ap (λ (x : Listed). x.entry.stamp) q)
    up z a (inr q) = omega (arith, ap mark_o a.is)

    go : (o : Option Listed) → find_entry d c n l ≡ o → mark_o o ≤ mark_o (find_entry d c n (join_into e l))
    go none p = omega arith
    go (some z) p = let a = join_after e l d c n z p in up z a a.how
