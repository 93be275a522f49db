-- Ids, stamps and versions, under the sentences of document 01 that they come from. What the contracts of `numbers::ids`
-- cite. Definitions only. Assumes nothing.
use Rattle.std.specs.Prelude.{Bool, ◌&&◌, ◌||◌, ℕ, ◌+◌, ◌*◌, ◌/◌, ◌%◌, ◌^◌, eqb, leb, ltb}
use Rattle.numbers.specs.Nodes.{is_node}

-- "Id: maker node * 16777216 + count"
abbrev pub id_of : ℕ → ℕ → ℕ
id_of node count = node * 16777216 + count

abbrev pub maker : ℕ → ℕ
maker id = id / 16777216

abbrev pub count : ℕ → ℕ
count id = id % 16777216

-- "count 1 to 16777215": an id that a node made
unfoldable pub is_made : ℕ → ℕ → Bool
is_made n id = is_node n (maker id) && leb 1 (count id)

-- "The root is 0."
unfoldable pub is_id : ℕ → ℕ → Bool
is_id n id = eqb id 0 || is_made n id

-- "Stamp: clock * 256 + issuing node"
abbrev pub stamp_of : ℕ → ℕ → ℕ
stamp_of clock node = clock * 256 + node

abbrev pub clock_of : ℕ → ℕ
clock_of stamp = stamp / 256

abbrev pub issuer : ℕ → ℕ
issuer stamp = stamp % 256

-- "clock 1 to 2^40-1 .. Only the root's is 0.": a stamp that a node issued
unfoldable pub is_stamp : ℕ → ℕ → Bool
is_stamp n s = leb 1 (clock_of s) && (ltb (clock_of s) (2 ^ 40) && is_node n (issuer s))

-- "A version is 1 to 2^32-1."
unfoldable pub is_version : ℕ → Bool
is_version v = leb 1 v && ltb v (2 ^ 32)
