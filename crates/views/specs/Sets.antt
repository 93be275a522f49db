-- Node sets: two within the same nodes that have the same nodes are one; parts of a set, and what a set becomes without
-- a node. What holders and pending sets are kept by. Assumes nothing.
use Rattle.std.specs.Prelude.{◌≡◌, refl, ◌⊎◌, Bool, true, false, ◌||◌, cond, ℕ, zero, suc, ◌+◌, ◌/◌, ◌%◌, ◌^◌, ◌≤◌, ◌<◌, eqb}
use Rattle.std.proofs.Common.{ap, sym, ◌∙◌, inl, inr, true≢false, arith, pow-suc, div-one, shr-shr, pow_pos, eqb-true, eq-eqb, lt-ltb, ltb-true}
use Rattle.std.proofs.Math.Pow.{pow-lt, ones_lt}
use Rattle.std.specs.Int.Bits.{bit_xor, or_self}
use Rattle.std.proofs.lemmas.Nat.{xor_lt}
use Rattle.std.proofs.lemmas.Bool.{eqb-false}
use Rattle.numbers.specs.Nodes.{is_set, has, join, single, without, all}
use Rattle.numbers.specs.Laws.{has_none, has_join, has_without, has_without_same, has_within, has_all, is_set_join}
use Rattle.document.specs.Sound.{is_part_of}
use Rattle.views.specs.Lists.{no_both, same?}

-- ---- equal sets

bits_ext : (n a b : ℕ) → a < 2 ^ n → b < 2 ^ n → ((i : ℕ) → a / 2 ^ i % 2 ≡ b / 2 ^ i % 2) → a ≡ b
bits_ext zero a b p q h = omega arith
bits_ext (suc n) a b p q h =
    let low : a % 2 ≡ b % 2 = sym (ap (λ (x : ℕ). x % 2) (div-one a)) ∙ h 0 ∙ ap (λ (x : ℕ). x % 2) (div-one b) in
    let rest : a / 2 ≡ b / 2 =
    bits_ext n (a / 2) (b / 2) (omega (arith, pow-suc 2 n)) (omega (arith, pow-suc 2 n))
    (λ i. half a i ∙ h (1 + i) ∙ sym (half b i)) in
    omega arith
  where
    half : (x i : ℕ) → x / 2 / 2 ^ i % 2 ≡ x / 2 ^ (1 + i) % 2
    half x i = ap (λ (y : ℕ). y % 2) (shr-shr x 1 i)

bit_same : (x y : ℕ) → x < 2 → y < 2 → eqb x 1 ≡ eqb y 1 → x ≡ y
bit_same x y p q e = go (eqb y 1) refl
  where
    go : (b : Bool) → eqb y 1 ≡ b → x ≡ y
    go true h = eqb-true x 1 (e ∙ h) ∙ sym (eqb-true y 1 h)
    go false h = omega (arith, eqb-false x 1 (e ∙ h), eqb-false y 1 h)

-- two sets within n nodes that have the same nodes are one
pub set_ext : (n a b : ℕ) → is_set n a ≡ true → is_set n b ≡ true → ((i : ℕ) → has a i ≡ has b i) → a ≡ b
unfolding has
set_ext n a b p q h =
    bits_ext n a b (ltb-true _ _ p) (ltb-true _ _ q)
    (λ i. bit_same (a / 2 ^ i % 2) (b / 2 ^ i % 2) (omega arith) (omega arith) (h (suc i)))

-- ---- parts

-- a set is part of another exactly if it has no other nodes
pub part_has : (a b i : ℕ) → is_part_of a b ≡ true → has a i ≡ true → has b i ≡ true
part_has a b i p h =
    ap (λ (s : ℕ). has s i) (sym (eqb-true (join a b) b p)) ∙ has_join a b i ∙ ap (λ (x : Bool). x || has b i) h

pub has_part : (n a b : ℕ) → is_set n a ≡ true → is_set n b ≡ true → ((i : ℕ) → has a i ≡ true → has b i ≡ true) →
    is_part_of a b ≡ true
has_part n a b p q h =
    eq-eqb (join a b) b
    (set_ext n (join a b) b (is_set_join n a b p q) q (λ i. has_join a b i ∙ or_same (has a i) (has b i) (h i)))
  where
    or_same : (x y : Bool) → (x ≡ true → y ≡ true) → (x || y) ≡ y
    or_same true y k = sym (k refl)
    or_same false y k = refl

pub part_refl : (a : ℕ) → is_part_of a a ≡ true
unfolding join
part_refl a = eq-eqb _ _ (or_self a)

-- ---- without a node

single_lt : (n i : ℕ) → i ≤ n → single i < 2 ^ n
unfolding single
single_lt n zero h = pow_pos n
single_lt n (suc i) h = pow-lt h

pub is_set_single : (n i : ℕ) → i ≤ n → is_set n (single i) ≡ true
is_set_single n i h = lt-ltb _ _ (single_lt n i h)

pub is_set_without : (n s i : ℕ) → is_set n s ≡ true → is_set n (without s i) ≡ true
unfolding without
is_set_without n s i p = go (has s i) refl
  where
    go : (b : Bool) → has s i ≡ b → is_set n (cond b (bit_xor s (single i)) s) ≡ true
    go true h = lt-ltb _ _ (xor_lt n s (single i) (ltb-true _ _ p) (single_lt n i (has_within n s i (ltb-true _ _ p) h)))
    go false h = p

-- what a set without a node has, the set has
pub without_has : (s i j : ℕ) → has (without s i) j ≡ true → has s j ≡ true
without_has s i j h = go (same? i j)
  where
    go : (i ≡ j) ⊎ (i ≡ j → ⊥) → has s j ≡ true
    go (inl e) = absurd (no_both _ h (ap (λ (k : ℕ). has (without s k) j) e ∙ has_without_same s j))
    go (inr ne) = sym (has_without s i j ne) ∙ h

pub part_without : (n a b i : ℕ) → is_set n a ≡ true → is_set n b ≡ true → is_part_of a b ≡ true →
    is_part_of (without a i) b ≡ true
part_without n a b i p q h =
    has_part n (without a i) b (is_set_without n a i p) q (λ j e. part_has a b j h (without_has a i j e))

-- ---- more nodes

pub has_join_left : (a b i : ℕ) → has a i ≡ true → has (join a b) i ≡ true
has_join_left a b i h = has_join a b i ∙ ap (λ (x : Bool). x || has b i) h

pub has_join_right : (a b i : ℕ) → has b i ≡ true → has (join a b) i ≡ true
has_join_right a b i h = has_join a b i ∙ go (has a i) (has b i) h
  where
    go : (x y : Bool) → y ≡ true → (x || y) ≡ true
    go true y p = refl
    go false y p = p

-- all nodes and some more are all nodes
pub join_all_nodes : (n s : ℕ) → is_set n s ≡ true → join (all n) s ≡ all n
join_all_nodes n s p =
    set_ext n (join (all n) s) (all n) (is_set_join n (all n) s whole p) whole
    (λ i. has_join (all n) s i ∙ absorbed i)
  where
    whole : is_set n (all n) ≡ true
    whole = lt-ltb _ _ (ones_lt n)

    or_same : (x y : Bool) → (y ≡ true → x ≡ true) → (x || y) ≡ x
    or_same true y k = refl
    or_same false true k = absurd (true≢false (sym (k refl)))
    or_same false false k = refl

    absorbed : (i : ℕ) → (has (all n) i || has s i) ≡ has (all n) i
    absorbed i = or_same (has (all n) i) (has s i) (λ e. has_all n i (least i e) (has_within n s i (ltb-true _ _ p) e))
      where
        least : (k : ℕ) → has s k ≡ true → 1 ≤ k
        least zero e = absurd (no_both _ e (sym (has_none s 0 (omega arith))))
        least (suc k) e = omega arith
