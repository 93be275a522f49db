-- The fresh table's bytes, as they are written over zeros, and the refusals of `start`: what the contracts of
-- `service::start` cite. Assumes nothing.
use Rattle.std.specs.Prelude.{◌≡◌, refl, Bool, true, false, ltb, ◌&&◌, List, [], ◌∷◌, ◌++◌, ℕ, zero, suc, ◌+◌, ◌-◌, ◌≤◌, ◌<◌, eqb, length, drop, get_or, set}
use Rattle.std.proofs.Common.{ap, sym, ltb-true, ltb-false, ◌∙◌, append_assoc, append-nil, add-one, arith, length-append, drop_of_length-le, drop-cons}
use Rattle.std.proofs.lemmas.List.{set_at}
use Rattle.codec.specs.Bytes.{splice, zeros}
use Rattle.codec.specs.Laws.{splice_splice, length_zeros, zeros_add, drop_zeros}
use Rattle.numbers.specs.Nodes.{is_size, is_node}
use Rattle.records.specs.declared.head.Head.{Head}
use Rattle.records.specs.Heads.{root_head}
use Rattle.slots.specs.declared.table_header.TableHeader.{TableHeader}
use Rattle.slots.specs.declared.replica.Replica.{Replica}
use Rattle.slots.specs.TableHeaders.{table_header_bytes, length_table_header_bytes}
use Rattle.slots.specs.Replicas.{replica_bytes, length_replica_bytes}
use Rattle.slots.specs.Listings.{listed_bytes}
use Rattle.document.specs.Tables.{fresh, rows, padded, table_bytes}
use Rattle.document.specs.Outcomes.{refused, done, judged}
use Rattle.document.specs.Calls.{start}

-- ---- zeros, written one by one

-- one more, in front of what follows
zeros_last : (n : ℕ) (r : List ℕ) → zeros n ++ (0 ∷ r) ≡ zeros (suc n) ++ r
zeros_last zero r = refl
zeros_last (suc n) r = ap (λ (l : List ℕ). 0 ∷ l) (zeros_last n r)

-- a turn of the loop that writes them one by one, and its end
pub zeros_step : (l : List ℕ) (i : ℕ) → i < length l → set (zeros i ++ drop i l) i 0 ≡ zeros (i + 1) ++ drop (i + 1) l
zeros_step l i h =
    ap (λ (r : List ℕ). set (zeros i ++ r) i 0) (drop-cons l i 0 h)
    ∙ set_at (zeros i) (get_or l i 0) (drop (suc i) l) 0 i (length_zeros i)
    ∙ zeros_last i (drop (suc i) l)
    ∙ ap (λ (k : ℕ). zeros k ++ drop k l) (sym (add-one i))

pub zeros_end : (l : List ℕ) (i : ℕ) → i ≤ length l → length l ≤ i → zeros i ++ drop i l ≡ zeros (length l)
zeros_end l i h k =
    let same : i ≡ length l = omega arith in
    ap (λ (r : List ℕ). zeros i ++ r) (drop_of_length-le l k) ∙ append-nil (zeros i) ∙ ap zeros same

-- .. and where each byte is zero
all_zero : (l : List ℕ) → ((k : ℕ) → k < length l → get_or l k 0 ≡ 0) → l ≡ zeros (length l)
all_zero [] h = refl
all_zero (x ∷ xs) h =
    ap (λ (y : ℕ). y ∷ xs) (h 0 (omega arith)) ∙ ap (λ (r : List ℕ). 0 ∷ r) (all_zero xs (λ k q. h (suc k) (omega (arith, q))))

pub zeros_filled : (old new : List ℕ) → length new ≡ length old → ((k d : ℕ) → 0 ≤ k → k < length old - 1 → get_or new k d ≡ 0) →
    (0 < length old → (d : ℕ) → get_or new (length old - 1) d ≡ 0) → new ≡ zeros (length old)
zeros_filled old new e f g = all_zero new (λ k q. go k q (ltb k (length old - 1)) refl) ∙ ap zeros e
  where
    go : (k : ℕ) → k < length new → (b : Bool) → ltb k (length old - 1) ≡ b → get_or new k 0 ≡ 0
    go k q true p = f k 0 (omega arith) (ltb-true k (length old - 1) p)
    go k q false p =
        let last : k ≡ length old - 1 = omega (arith, ltb-false k (length old - 1) p, e, q) in
        ap (λ (i : ℕ). get_or new i 0) last ∙ g (omega (arith, e, q)) 0

-- ---- parts written over zeros

-- a header, one part of slots that are used, and one of none, each filled up with zeros
filled : (h r e : List ℕ) (k p q : ℕ) → k ≡ length h + p + q → length r ≤ p → e ≡ [] →
    splice (zeros k) 0 (h ++ r) ≡ h ++ (padded p r ++ padded q e)
unfolding splice
filled h r e k p q f m n =
    let size : length (h ++ r) ≡ length h + length r = length-append h r in
    let none : length e ≡ 0 = ap length n in
    let free : k - (0 + length (h ++ r)) ≡ (p - length r) + (q - length e) = omega arith in
    ap (λ (z : List ℕ). (h ++ r) ++ z)
    (drop_zeros k (0 + length (h ++ r)) ∙ ap zeros free ∙ zeros_add (p - length r) (q - length e))
    ∙ append_assoc h r _
    ∙ ap (λ (z : List ℕ). h ++ z) (sym (append_assoc r (zeros (p - length r)) (zeros (q - length e))))
    ∙ ap (λ (z : List ℕ). h ++ (padded p r ++ (z ++ zeros (q - length e)))) (sym n)

-- one row, and none
one_row : (r : Replica) → rows replica_bytes (r ∷ []) ≡ replica_bytes r
unfolding rows
one_row r = append-nil (replica_bytes r)

no_row : rows listed_bytes [] ≡ []
unfolding rows
no_row = refl

-- the header and the root, written over as many zeros as a table has bytes
pub fresh_bytes : (l : List ℕ) (node n : ℕ) (h : Head) → length l ≡ 13344 → h ≡ root_head n →
    splice (splice (zeros (length l)) 0 (table_header_bytes (record { own = node; nodes = n; next = 1; highest = 0 })))
    32 (replica_bytes (record { head = h; version = 1; pending = 0 }))
    ≡ table_bytes (fresh node n)
unfolding table_bytes fresh
fresh_bytes l node n h e p =
    let header : TableHeader = record { own = node; nodes = n; next = 1; highest = 0 } in
    let root : Replica = record { head = root_head n; version = 1; pending = 0 } in
    let row : List ℕ = rows replica_bytes (root ∷ []) in
    let size : length row ≡ 48 = ap length (one_row root) ∙ length_replica_bytes root in
    ap
    (λ (g : Head).
    splice (splice (zeros (length l)) 0 (table_header_bytes header)) 32
    (replica_bytes (record { head = g; version = 1; pending = 0 })))
    p
    ∙ ap (splice (splice (zeros (length l)) 0 (table_header_bytes header)) 32) (sym (one_row root))
    ∙ splice_splice (zeros (length l)) 0 (table_header_bytes header) 32 row (length_table_header_bytes header)
    (omega (arith, length_zeros (length l)))
    ∙ filled (table_header_bytes header) row (rows listed_bytes []) (length l) 3072 10240
    (omega (arith, length_table_header_bytes header)) (omega arith) no_row

-- ---- the numbers that pass, and the refusals

module _ (l : List ℕ) (node n : ℕ) where
  pub start_1 : eqb (length l) 13344 ≡ false → start l node n ≡ refused 1
  unfolding start judged
  start_1 p = simp p

  pub start_2 : eqb (length l) 13344 ≡ true → (is_size n && is_node n node) ≡ false → start l node n ≡ refused 2
  unfolding start judged
  start_2 p q = simp (p, q)

  pub start_done : eqb (length l) 13344 ≡ true → (is_size n && is_node n node) ≡ true →
      start l node n ≡ done 0 (fresh node n) []
  unfolding start judged
  start_done p q = simp (p, q)
