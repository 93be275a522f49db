-- Node sets as bytes: their nodes are in range, and one of no size has none. Assumes nothing.
use Rattle.std.specs.Prelude.{◌≡◌, refl, Bool, true, false, ℕ, zero, suc, ◌/◌, ◌%◌, ◌^◌, ◌≤◌, ◌<◌, eqb}
use Rattle.std.proofs.Common.{ap, sym, ◌∙◌, true≢false, arith, pow_mono, pow-suc, div-one, ne_eqb, ltb-true}
use Rattle.std.proofs.Math.Nat.{pow-succ', div-div-eq-div-mul}
use Rattle.numbers.specs.Nodes.{is_set, has, members}
use Rattle.numbers.specs.Laws.{has_none, has_within}
use Rattle.cluster.specs.Cluster.{Node}

-- the nodes of a set within N are 1 to N
pub in_range_law : (n s j : ℕ) → is_set n s ≡ true → has s j ≡ true → Node n j
in_range_law n s zero h e = absurd (true≢false (sym e ∙ sym (has_none s 0 (omega arith))))
in_range_law n s (suc j) h e = (omega arith, has_within n s (suc j) (ltb-true _ _ h) e)

-- the second node and those behind it are in the half
has_half : (s j : ℕ) → has s (suc (suc j)) ≡ has (s / 2) (suc j)
unfolding has
has_half s j =
    ap (λ (x : ℕ). eqb (x % 2) 1) (ap (λ (x : ℕ). s / x) (pow-succ' 2 j) ∙ sym (div-div-eq-div-mul s 2 (2 ^ j)))

-- the first node is the lowest bit
has_low : (s : ℕ) → has s 1 ≡ eqb (s % 2) 1
unfolding has
has_low s = ap (λ (x : ℕ). eqb (x % 2) 1) (div-one s)

-- a set of no size has no node
none_in : (n s j : ℕ) → members n s ≡ 0 → j ≤ n → has s j ≡ false
unfolding members
none_in n s zero e le = sym (has_none s 0 (omega arith))
none_in zero s (suc j) e le = absurd (omega arith)
none_in (suc n) s (suc zero) e le = has_low s ∙ ne_eqb (s % 2) 1 (λ z. omega arith)
none_in (suc n) s (suc (suc j)) e le = has_half s j ∙ none_in n (s / 2) (suc j) (omega arith) (omega arith)

pub empty_set : (n s j : ℕ) → n ≤ 8 → is_set n s ≡ true → members 8 s ≡ 0 → has s j ≡ false
empty_set n s j m h e = go (has s j) refl
  where
    go : (b : Bool) → has s j ≡ b → b ≡ false
    go false p = refl
    go true p = sym p ∙ none_in 8 s j e (omega (arith, has_within n s j (ltb-true _ _ h) p))

-- and is no set at all
none_at : (n s : ℕ) → s < 2 ^ n → members n s ≡ 0 → s ≡ 0
unfolding members
none_at zero s h e = omega arith
none_at (suc n) s h e =
    let half : s / 2 ≡ 0 = none_at n (s / 2) (omega (arith, pow-suc 2 n)) (omega arith) in
    omega arith

pub no_size : (n s : ℕ) → n ≤ 8 → is_set n s ≡ true → members 8 s ≡ 0 → s ≡ 0
no_size n s m h e = none_at 8 s (omega (arith, ltb-true s (2 ^ n) h, pow_mono {i = n} {j = 8} m)) e
