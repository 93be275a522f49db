-- Nodes and node sets, under the sentences of document 01 that they come from. What the contracts of `numbers::nodes`
-- cite, and what every rule about holders and pending sets is stated with. Definitions only. Assumes nothing.
use Rattle.std.specs.Prelude.{Bool, false, ◌&&◌, cond, ℕ, zero, suc, ◌+◌, ◌-◌, ◌/◌, ◌%◌, ◌^◌, eqb, leb, ltb}
use Rattle.std.specs.Int.Bits.{bit_or, bit_xor}

-- x is low to high
abbrev pub is_within : ℕ → ℕ → ℕ → Bool
is_within low x high = leb low x && leb x high

-- "A name service for 1 to 8 nodes."
abbrev pub is_size : ℕ → Bool
is_size n = is_within 1 n 8

-- "Node: 1 to N"
abbrev pub is_node : ℕ → ℕ → Bool
is_node n i = is_within 1 i n

-- "Node set: one byte, bit i-1 for node i": whether node i is in the set s
unfoldable pub has : ℕ → ℕ → Bool
has s zero = false
has s (suc i) = eqb (s / 2 ^ i % 2) 1

-- "no bit above N"
abbrev pub is_set : ℕ → ℕ → Bool
is_set n s = ltb s (2 ^ n)

-- the set of node i alone
unfoldable pub single : ℕ → ℕ
single zero = 0
single (suc i) = 2 ^ i

-- the set of all nodes
abbrev pub all : ℕ → ℕ
all n = 2 ^ n - 1

-- two sets joined
unfoldable pub join : ℕ → ℕ → ℕ
join a b = bit_or a b

-- a set without node i: its bit is turned over where it stands
unfoldable pub without : ℕ → ℕ → ℕ
without s i = cond (has s i) (bit_xor s (single i)) s

-- how many nodes are in the set: those of the least n bits
unfoldable pub members : ℕ → ℕ → ℕ
members zero s = 0
members (suc n) s = s % 2 + members n (s / 2)

abbrev pub size : ℕ → ℕ
size s = members 8 s
