-- Laws of nodes, ids and stamps: which nodes are in a set that was joined or had one taken out, how the code's shifts meet
-- the definitions, the parts of an id and of a stamp, and the order of stamps. Assumes nothing.
use Rattle.std.specs.Prelude.{◌≡◌, refl, Bool, true, false, ◌||◌, cond, ℕ, zero, suc, ◌+◌, ◌*◌, ◌-◌, ◌/◌, ◌%◌, ◌^◌, ◌≤◌, ◌<◌, max, eqb, leb}
use Rattle.std.proofs.Common.{ap, sym, ◌∙◌, true≢false, arith, mul-div_cancel, pow-suc, one-mul, div-lt_iff_lt-mul, lit<, pow_pos, pow_mono, pow-add, shl_exact, eqb-true, eq-eqb, ne_eqb, lt-ltb, le-ltb, ltb-true, leb-true}
use Rattle.std.proofs.Math.Bool.{or-true}
use Rattle.std.proofs.Math.Nat.{div_self, div-eq_of_lt}
use Rattle.std.proofs.Math.Decide.{dec_lt}
use Rattle.std.proofs.Math.Pow.{pow-lt, high, ones_split, ones_lt}
use Rattle.std.proofs.lemmas.Nat.{or_shr, or_lt, xor_shr}
use Rattle.std.specs.Int.Bits.{or_step, bit_xor, xor_step, differ}
use Rattle.std.specs.Int.RustNames.{count_ones}
use lib.Count.{ones_step}
use Rattle.codec.specs.Lists.{and_true}
use Rattle.numbers.specs.Clocks.{new_clock}
use Rattle.numbers.specs.Ids.{id_of, maker, count, stamp_of, clock_of, issuer, is_made, is_id}
use Rattle.numbers.specs.Nodes.{has, single, all, join, without, is_set, is_size, is_node, members}

-- ---- "Node: 1 to N, N at most 8."

pub size_most : (n : ℕ) → is_size n ≡ true → n ≤ 8
size_most n e = leb-true n 8 (and_true (leb 1 n) _ e).1

pub node_most : (n i : ℕ) → is_node n i ≡ true → i ≤ n
node_most n i e = leb-true i n (and_true (leb 1 i) _ e).1

pub node_small : (n i : ℕ) → is_size n ≡ true → is_node n i ≡ true → (1 ≤ i) × (i ≤ 8)
node_small n i p q = (leb-true 1 i (and_true (leb 1 i) _ q).0, omega (arith, size_most n p, node_most n i q))

-- an id that a node made is an id
pub made_id : (n id : ℕ) → is_made n id ≡ true → is_id n id ≡ true
unfolding is_id
made_id n id e = ap (λ (b : Bool). eqb id 0 || b) e ∙ or-true (eqb id 0)

-- ---- as the code has them

pub has_none : (s i : ℕ) → i < 1 → false ≡ has s i
unfolding has
has_none s zero h = refl
has_none s (suc i) h = absurd (omega arith)

pub has_at : (s i : ℕ) → 1 ≤ i → eqb (s / 2 ^ (i - 1) % 2) 1 ≡ has s i
unfolding has
has_at s zero h = absurd (omega arith)
has_at s (suc i) h = ap (λ (k : ℕ). eqb (s / 2 ^ k % 2) 1) {x = suc i - 1} {y = i} (omega arith)

-- a set within k bits has no node above k
pub has_above : (k s i : ℕ) → s < 2 ^ k → k < i → false ≡ has s i
unfolding has
has_above k s zero h l = absurd (omega arith)
has_above k s (suc i) h l =
    let small : s / 2 ^ i ≡ 0 = div-eq_of_lt (omega (arith, pow_mono {i = k} {j = i} (omega arith))) in
    sym (ne_eqb (s / 2 ^ i % 2) 1 (λ e. omega arith))

pub single_none : (i : ℕ) → i < 1 → 0 ≡ single i
unfolding single
single_none zero h = refl
single_none (suc i) h = absurd (omega arith)

pub single_at : (i : ℕ) → 1 ≤ i → i ≤ 8 → 1 * 2 ^ (i - 1) % 256 ≡ single i
unfolding single
single_at zero h l = absurd (omega arith)
single_at (suc i) h l =
    ap (λ (k : ℕ). 1 * 2 ^ k % 256) {x = suc i - 1} {y = i} (omega arith) ∙ shl_exact {a = 1} 1 i 8 (lit< tt) (omega arith)
    ∙ one-mul (2 ^ i)

pub is_set_law : (n s : ℕ) → eqb (s / 2 ^ n) 0 ≡ is_set n s
is_set_law n s = go (dec_lt s (2 ^ n))
  where
    go : Dec (s < 2 ^ n) → eqb (s / 2 ^ n) 0 ≡ is_set n s
    go (yes l) = eq-eqb _ _ (div-eq_of_lt l) ∙ sym (lt-ltb s (2 ^ n) l)
    go (no g) =
        ne_eqb (s / 2 ^ n) 0 (λ z. g (omega (arith, (div-lt_iff_lt-mul {x = s} {y = 1} (pow_pos n)).0 (omega arith))))
        ∙ sym (le-ltb s (2 ^ n) (omega arith))

pub all_none : (n : ℕ) → n < 1 → 0 ≡ all n
all_none zero h = refl
all_none (suc n) h = absurd (omega arith)

pub all_shifted : (n : ℕ) → n ≤ 8 → 255 / 2 ^ (8 - n) ≡ all n
all_shifted n h =
    let split : 255 ≡ (2 ^ n - 1) * 2 ^ (8 - n) + (2 ^ (8 - n) - 1) =
    ap (λ (k : ℕ). 2 ^ k - 1) {x = 8} {y = n + (8 - n)} (omega arith) ∙ ones_split n (8 - n) in
    ap (λ (x : ℕ). x / 2 ^ (8 - n)) split ∙ high (2 ^ n - 1) (8 - n) (ones_lt (8 - n))

-- the nodes of a byte are 1 to 8
pub has_within : (k s i : ℕ) → s < 2 ^ k → has s i ≡ true → i ≤ k
has_within k s i h e = go (dec_lt k i)
  where
    go : Dec (k < i) → i ≤ k
    go (yes l) = let z : ◌≡◌ {A = Bool} true false = sym e ∙ sym (has_above k s i h l) in absurd (true≢false z)
    go (no g) = omega arith

pub size_bits : (a b c d e f g h : ℕ) → a + (b + (c + (d + (e + (f + (g + h)))))) ≡ a + (b + (c + (d + (e + (f + (g + (h + 0)))))))
size_bits a b c d e f g h = omega arith

-- std's count of the bits that are set, and this one
pub ones_members : (n s : ℕ) → s < 2 ^ n → count_ones s ≡ members n s
unfolding members count_ones
ones_members zero s h = ap count_ones {x = s} {y = 0} (omega arith)
ones_members (suc n) s h =
    ones_step s ∙ ap (λ (k : ℕ). s % 2 + k) (ones_members n (s / 2) (omega (arith, rw pow-suc at h)))

-- a byte has no other nodes than 1 to 8
pub has_outside : (s i : ℕ) → s < 256 → (1 ≤ i → i ≤ 8 → ⊥) → has s i ≡ false
has_outside s i h o = go (dec_lt i 1)
  where
    go : Dec (i < 1) → has s i ≡ false
    go (yes l) = sym (has_none s i l)
    go (no g) = sym (has_above 8 s i h (omega (arith, o)))

-- ---- which nodes are in a set

max_bits : (x y q : ℕ) → x < 2 → y < 2 → eqb ((q * 2 + max x y) % 2) 1 ≡ (eqb x 1 || eqb y 1)
max_bits zero zero q a b = ne_eqb ((q * 2 + max 0 0) % 2) 1 (λ z. omega arith)
max_bits zero (suc zero) q a b = eq-eqb ((q * 2 + max 0 1) % 2) 1 (omega arith)
max_bits zero (suc (suc y)) q a b = absurd (omega arith)
max_bits (suc zero) y q a b = eq-eqb ((q * 2 + max 1 y) % 2) 1 (omega arith)
max_bits (suc (suc x)) y q a b = absurd (omega arith)

pub has_join : (a b i : ℕ) → has (join a b) i ≡ (has a i || has b i)
unfolding has join
has_join a b zero = refl
has_join a b (suc i) =
    rw (or_shr a b i, or_step (a / 2 ^ i) (b / 2 ^ i)) (max_bits (a / 2 ^ i % 2) (b / 2 ^ i % 2) _ (omega arith) (omega arith))

pub has_single : (i : ℕ) → 1 ≤ i → has (single i) i ≡ true
unfolding has single
has_single zero h = absurd (omega arith)
has_single (suc i) h = rw (div_self (pow_pos i))

differ_zero : (x : ℕ) → differ x 0 ≡ x
differ_zero zero = refl
differ_zero (suc x) = refl

differ_lt : (x y : ℕ) → x < 2 → y < 2 → differ x y < 2
differ_lt zero y h l = l
differ_lt (suc x) zero h l = h
differ_lt (suc x) (suc y) h l = differ_lt x y (omega arith) (omega arith)

low_bit : (q d : ℕ) → d < 2 → (q * 2 + d) % 2 ≡ d
low_bit q d h = omega arith

-- the bit of node j in a set, turned over where another has it
bit_turned : (a b j : ℕ) → bit_xor a b / 2 ^ j % 2 ≡ differ (a / 2 ^ j % 2) (b / 2 ^ j % 2)
bit_turned a b j =
    rw (xor_shr a b j, xor_step (a / 2 ^ j) (b / 2 ^ j))
    (low_bit _ _ (differ_lt (a / 2 ^ j % 2) (b / 2 ^ j % 2) (omega arith) (omega arith)))

-- a node taken out is out, and the others stay
pub has_without_same : (s i : ℕ) → has (without s i) i ≡ false
unfolding has without single
has_without_same s zero = refl
has_without_same s (suc i) = go (eqb (s / 2 ^ i % 2) 1) refl
  where
    go : (b : Bool) → eqb (s / 2 ^ i % 2) 1 ≡ b → eqb (cond b (bit_xor s (2 ^ i)) s / 2 ^ i % 2) 1 ≡ false
    go true e = rw (bit_turned s (2 ^ i) i, eqb-true (s / 2 ^ i % 2) 1 e, div_self (pow_pos i))
    go false e = e

-- one bit stands at one place
other_bit : (i j : ℕ) → (i ≡ j → ⊥) → 2 ^ i / 2 ^ j % 2 ≡ 0
other_bit i j ne = go (dec_lt i j)
  where
    up : j < i → 2 ^ i / 2 ^ j ≡ 2 ^ (i - j - 1) * 2
    up lt =
        ap (λ (k : ℕ). 2 ^ k / 2 ^ j) {x = i} {y = suc (i - j - 1) + j} (omega arith)
        ∙ ap (λ (k : ℕ). k / 2 ^ j) (pow-add 2 (suc (i - j - 1)) j)
        ∙ mul-div_cancel (2 ^ suc (i - j - 1)) (pow_pos j) ∙ pow-suc 2 (i - j - 1)

    go : Dec (i < j) → 2 ^ i / 2 ^ j % 2 ≡ 0
    go (yes lt) = rw (div-eq_of_lt (pow-lt lt))
    go (no nl) = rw (up (omega (arith, ne, nl))) (omega arith)

pub has_without : (s i j : ℕ) → (i ≡ j → ⊥) → has (without s i) j ≡ has s j
unfolding has without single
has_without s i zero h = refl
has_without s zero (suc j) h = refl
has_without s (suc i) (suc j) h = go (eqb (s / 2 ^ i % 2) 1)
  where
    go : (b : Bool) → eqb (cond b (bit_xor s (2 ^ i)) s / 2 ^ j % 2) 1 ≡ eqb (s / 2 ^ j % 2) 1
    go true = rw (bit_turned s (2 ^ i) j, other_bit i j (λ e. h (ap suc e)), differ_zero (s / 2 ^ j % 2))
    go false = refl

-- what is within N nodes stays so
pub is_set_join : (n a b : ℕ) → is_set n a ≡ true → is_set n b ≡ true → is_set n (join a b) ≡ true
unfolding join
is_set_join n a b p q = lt-ltb _ _ (or_lt n a b (ltb-true _ _ p) (ltb-true _ _ q))

-- the set of all has each node
pub has_all : (n i : ℕ) → 1 ≤ i → i ≤ n → has (all n) i ≡ true
unfolding has
has_all n zero l h = absurd (omega arith)
has_all n (suc i) l h =
    let m : ℕ = n - suc i in
    let split : 2 ^ n - 1 ≡ (2 ^ suc m - 1) * 2 ^ i + (2 ^ i - 1) =
    ap (λ (k : ℕ). 2 ^ k - 1) {x = n} {y = suc m + i} (omega arith) ∙ ones_split (suc m) i in
    let shifted : (2 ^ n - 1) / 2 ^ i ≡ 2 ^ suc m - 1 = ap (λ (x : ℕ). x / 2 ^ i) split ∙ high (2 ^ suc m - 1) i (ones_lt i) in
    eq-eqb ((2 ^ n - 1) / 2 ^ i % 2) 1 (rw shifted (omega (arith, pow-suc 2 m, pow_pos m)))

-- ---- ids and stamps: their parts, and the order of stamps

pub maker_of : (node c : ℕ) → c < 16777216 → maker (id_of node c) ≡ node
maker_of node c h = omega arith

pub count_of : (node c : ℕ) → c < 16777216 → count (id_of node c) ≡ c
count_of node c h = omega arith

pub clock_of_law : (clock node : ℕ) → node < 256 → clock_of (stamp_of clock node) ≡ clock
clock_of_law clock node h = omega arith

pub issuer_of : (clock node : ℕ) → node < 256 → issuer (stamp_of clock node) ≡ node
issuer_of clock node h = omega arith

-- a later clock makes the greater stamp, whoever issued it; at one clock the greater node does
pub later_clock : (c d i j : ℕ) → c < d → i < 256 → stamp_of c i < stamp_of d j
later_clock c d i j h l = omega arith

pub same_clock : (c i j : ℕ) → i < j → stamp_of c i < stamp_of c j
same_clock c i j h = omega arith

-- a new stamp is above every stamp of a clock that was seen
pub new_above : (now highest node s : ℕ) → clock_of s ≤ highest → s < stamp_of (new_clock now highest) node
new_above now highest node s h = omega arith
