-- The live entries of a directory over slots, one slot after the other, as they are counted and written; and the call
-- `list` of what is held, refusal by refusal. What the contracts of `service::list` cite. Assumes nothing.
use Rattle.std.specs.Prelude.{◌≡◌, refl, Bool, true, false, ◌&&◌, cond, List, [], ◌∷◌, ◌++◌, ℕ, zero, suc, ◌+◌, ◌*◌, ◌-◌, ◌≤◌, ◌<◌, eqb}
use Rattle.std.proofs.Common.{ap, sym, ◌∙◌, add-zero, add-suc, zero-add, suc-add, arith, length-append}
use Rattle.std.proofs.Math.Option.{some, none}
use Rattle.std.proofs.Math.ListN.{length}
use borrow.Author.Tests.{lt-ltb, le-ltb}
use Rattle.codec.specs.Bytes.{splice}
use Rattle.records.specs.declared.head.Head.{Head}
use Rattle.records.specs.declared.entry.Entry.{Entry}
use Rattle.records.specs.Entries.{entry_at, entry_bytes, length_entry_bytes}
use Rattle.slots.specs.declared.listed.Listed.{Listed}
use Rattle.slots.specs.Listings.{listed_fields}
use Rattle.document.specs.Tables.{Table, head_of, rows, slots_from, entry_slot, entry_in, entries_used, table_of}
use Rattle.document.specs.Sound.{is_live, is_directory}
use Rattle.document.specs.Outcomes.{refused, done, judged}
use Rattle.document.specs.Calls.{is_shown, listing, list_in}
use Rattle.document.specs.Rows.{rows_written}
use Rattle.changes.specs.Looking.{is_shown_in}
use Rattle.table.specs.Slots.{count_slots}

-- what slot s adds to the list
unfoldable pub shown_at : List ℕ → ℕ → ℕ → List Entry
shown_at l d s = cond (is_shown_in d (entry_in l s)) ((entry_in l s).entry ∷ []) []

-- what the first n slots show
abbrev pub shown_in : List ℕ → ℕ → ℕ → List Entry
shown_in l d n = listing d (slots_from (entry_in l) 0 n)

-- ---- one slot more

slots_add : {A : Type 0} (g : ℕ → A) (s a b : ℕ) → slots_from g s (a + b) ≡ slots_from g s a ++ slots_from g (s + a) b
unfolding slots_from
slots_add g s zero b = rw (zero-add, add-zero)
slots_add g s (suc a) b =
    rw (suc-add, add-suc, ← suc-add)
    (ap (λ r. g s ∷ r) (slots_add g (suc s) a b))

listing_append : (d : ℕ) (xs ys : List Listed) → listing d (xs ++ ys) ≡ listing d xs ++ listing d ys
unfolding listing
listing_append d [] ys = refl
listing_append d (x ∷ xs) ys = go (eqb x.directory d && is_shown x) (listing_append d xs ys)
  where
    go : (b : Bool) → listing d (xs ++ ys) ≡ listing d xs ++ listing d ys →
        cond b (x.entry ∷ listing d (xs ++ ys)) (listing d (xs ++ ys))
        ≡ cond b (x.entry ∷ listing d xs) (listing d xs) ++ listing d ys
    go true e = ap (λ (r : List Entry). x.entry ∷ r) e
    go false e = e

shown_add : (l : List ℕ) (d a b : ℕ) → shown_in l d (a + b) ≡ shown_in l d a ++ listing d (slots_from (entry_in l) a b)
shown_add l d a b =
    ap (listing d) (slots_add (entry_in l) 0 a b)
    ∙ listing_append d (slots_from (entry_in l) 0 a) (slots_from (entry_in l) (0 + a) b)
    ∙ ap (λ (s : ℕ). shown_in l d a ++ listing d (slots_from (entry_in l) s b)) (zero-add a)

pub shown_more : (l : List ℕ) (d i : ℕ) → shown_in l d (i + 1) ≡ shown_in l d i ++ shown_at l d i
unfolding listing slots_from shown_at
shown_more l d i = shown_add l d i 1

pub shown_none : (l : List ℕ) (d : ℕ) → shown_in l d 0 ≡ []
unfolding listing slots_from
shown_none l d = refl

pub length_more : (l : List ℕ) (d i : ℕ) →
    length (shown_in l d (i + 1)) ≡ length (shown_in l d i) + length (shown_at l d i)
length_more l d i = ap length (shown_more l d i) ∙ length-append (shown_in l d i) (shown_at l d i)

-- fewer slots show no more
pub length_fewer : (l : List ℕ) (d i k : ℕ) → i ≤ k → length (shown_in l d i) ≤ length (shown_in l d k)
length_fewer l d i k h =
    let rest = listing d (slots_from (entry_in l) i (k - i)) in
    omega (
      arith,
      ap (λ (n : ℕ). length (shown_in l d n)) {x = i + (k - i)} {y = k} (omega arith),
      ap length (shown_add l d i (k - i)),
      length-append (shown_in l d i) rest,
    )

-- how many are shown is how many slots pass, and no more than there are
shown_count : (l : List ℕ) (d s n : ℕ) →
    count_slots (λ (i : ℕ). is_shown_in d (entry_in l i)) s n ≡ length (listing d (slots_from (entry_in l) s n))
unfolding listing slots_from count_slots
shown_count l d s zero = refl
shown_count l d s (suc n) = go (is_shown_in d (entry_in l s)) _ _ (shown_count l d (suc s) n)
  where
    go : (b : Bool) (m : ℕ) (es : List Entry) → m ≡ length es →
        cond b (suc m) m ≡ length (cond b ((entry_in l s).entry ∷ es) es)
    go true m es e = ap suc e
    go false m es e = e

count_most : (f : ℕ → Bool) (s n : ℕ) → count_slots f s n ≤ n
unfolding count_slots
count_most f s zero = omega arith
count_most f s (suc n) = go (f s) _ (count_most f (suc s) n)
  where
    go : (b : Bool) (m : ℕ) → m ≤ n → cond b (suc m) m ≤ suc n
    go true m h = omega arith
    go false m h = omega arith

pub shown_most : (l : List ℕ) (d k : ℕ) {r : ℕ} → r ≡ count_slots (λ (i : ℕ). is_shown_in d (entry_in l i)) 0 k →
    (r ≡ length (shown_in l d k)) × (r ≤ k)
shown_most l d k e = (e ∙ shown_count l d 0 k, omega (arith, e, count_most (λ (i : ℕ). is_shown_in d (entry_in l i)) 0 k))

-- a slot that is not shown, and one that is
pub not_shown : (l : List ℕ) (d s : ℕ) → is_shown_in d (entry_in l s) ≡ false → shown_at l d s ≡ []
unfolding shown_at
not_shown l d s e = ap (λ (b : Bool). cond b ((entry_in l s).entry ∷ []) []) e

pub is_shown_law : (l : List ℕ) (d s : ℕ) → is_shown_in d (entry_in l s) ≡ true → shown_at l d s ≡ entry_at l (entry_slot s) ∷ []
unfolding shown_at
is_shown_law l d s e =
    ap (λ (b : Bool). cond b ((entry_in l s).entry ∷ []) []) e
    ∙ ap (λ (x : Listed). x.entry ∷ []) (listed_fields l (entry_slot s))

-- ---- as records, one behind the other

-- what was written of i slots, and then of the next
pub written_more : (out l : List ℕ) (d i : ℕ) → 32 * length (shown_in l d (i + 1)) ≤ length out →
    splice (splice out 0 (rows entry_bytes (shown_in l d i))) (32 * length (shown_in l d i))
    (rows entry_bytes (shown_at l d i))
    ≡ splice out 0 (rows entry_bytes (shown_in l d (i + 1)))
written_more out l d i h =
    let before = shown_in l d i in
    let here = shown_at l d i in
    ap (λ (o : ℕ). splice (splice out 0 (rows entry_bytes before)) o (rows entry_bytes here))
    (sym (zero-add (32 * length before)))
    ∙ rows_written entry_bytes 32 length_entry_bytes out 0 before here (omega (arith, length_more l d i))
    ∙ ap (λ (es : List Entry). splice out 0 (rows entry_bytes es)) (sym (shown_more l d i))

-- ---- the call, of what is not held, and of what is: refusal by refusal

pub list_not_held : (id room : ℕ) (t : Table) → head_of t id ≡ none → list_in id room t ≡ refused 6
unfolding list_in judged
list_not_held id room t e = simp e

module _ (id room : ℕ) (t : Table) (h : Head) (held : head_of t id ≡ some h) where
  pub list_small : is_directory h ≡ true → room < 32 * length (listing id t.entries) →
      list_in id room t ≡ refused 3
  unfolding list_in judged
  list_small d s = simp (held, d, lt-ltb room (32 * length (listing id t.entries)) s)

  pub list_dead_file : is_directory h ≡ false → is_live h ≡ false → list_in id room t ≡ refused 7
  unfolding list_in judged
  list_dead_file d v = simp (held, d, v)

  pub list_file : is_directory h ≡ false → is_live h ≡ true → list_in id room t ≡ refused 8
  unfolding list_in judged
  list_file d v = simp (held, d, v)

  pub list_dead : is_directory h ≡ true → 32 * length (listing id t.entries) ≤ room → is_live h ≡ false →
      list_in id room t ≡ refused 7
  unfolding list_in judged
  list_dead d s v = simp (held, d, le-ltb room (32 * length (listing id t.entries)) s, v)

  pub list_done : is_directory h ≡ true → 32 * length (listing id t.entries) ≤ room → is_live h ≡ true →
      list_in id room t ≡ done (length (listing id t.entries)) t (rows entry_bytes (listing id t.entries))
  unfolding list_in judged
  list_done d s v = simp (held, d, le-ltb room (32 * length (listing id t.entries)) s, v)

-- what is shown of the table that bytes are, over the slots that they use
pub shown_of : (l : List ℕ) (id k : ℕ) → k ≡ entries_used l → listing id (table_of l).entries ≡ shown_in l id k
unfolding table_of
shown_of l id k e = ap (shown_in l id) (sym e)
