-- The bytes of a working copy, and the table that they are. Between the steps of a call the table need not be sound (a
-- new replica has version 0 until the end); what stays is that its bytes can be read back. Assumes nothing.
use Rattle.std.specs.Prelude.{◌≡◌, refl, Bool, true, false, is_ok, List, [], ◌∷◌, ◌++◌, ℕ, zero, suc, ◌+◌, ◌*◌, ◌^◌, ◌≤◌, ◌<◌, eqb, length, drop}
use Rattle.std.specs.Prelude.{Result, Ok, Err, IsErr, is_some, MatchOption, Option as Slot, Some, None}
use Rattle.std.proofs.Math.Option.{Option, some, none}
use Rattle.std.proofs.Common.{ap, sym, subst, ◌∙◌, arith, eqb-true}
use mathlib.Core.List.Memᴰ
use Rattle.std.proofs.lemmas.Bool.{eqb-false}
use Rattle.codec.specs.Bytes.{chunk, le, Bytes}
use Rattle.codec.specs.Laws.{u64_halves, length_chunk, u32_below}
use Rattle.codec.specs.Lists.{and_true}
use Rattle.records.specs.Heads.{HeadFit, head_fields}
use Rattle.records.specs.Entries.{EntryFit, entry_fields}
use Rattle.slots.specs.TableHeaders.{TableHeaderFit, table_header_of, table_round, table_fields}
use Rattle.slots.specs.Replicas.{ReplicaFit, replica_bytes, replica_of, replica_round, replica_fields}
use Rattle.slots.specs.Listings.{ListedFit, listed_bytes, listed_of, listed_round, listed_fields}
use Rattle.document.specs.Tables.{Table, header_of, rows, slots_from, table_bytes, table_of, table_in_range, replica_slot, entry_slot, replica_in, entry_in, replicas_used, entries_used}
use Rattle.document.specs.Rows.{Layout, row_slot, other_rows, length_slots}
use Rattle.document.specs.Layouts.{replica_layout, listed_layout}
use Rattle.document.specs.Reading.{parts_ext, header_at, replicas_at, entries_at, replicas_used_law, entries_used_law, length_table_bytes, bytes_of_table, few_replicas, few_entries}
use Rattle.document.specs.Sound.{sound_bytes}
use Rattle.views.specs.Lists.{In}
use Rattle.table.specs.Ranges.{range_length}

-- every element has the property
pub data Each {A : Type 0} (P : A → Type 0) : List A → Type 0 where
  end : Each P []
  more : {x : A} {xs : List A} → P x → Each P xs → Each P (x ∷ xs)

pub each_in : {A : Type 0} (P : A → Type 0) (xs : List A) → ((x : A) → In x xs → P x) → Each P xs
each_in P [] f = end
each_in P (x ∷ xs) f = more {x = x} (f x (Memᴰ.head refl)) (each_in P xs (λ y i. f y (Memᴰ.tail i)))

pub each_slot : {A : Type 0} (P : A → Type 0) (g : ℕ → A) (s n : ℕ) → ((i : ℕ) → i < s + n → P (g i)) → Each P (slots_from g s n)
unfolding slots_from
each_slot P g s zero h = end
each_slot P g s (suc n) h = more (h s (omega arith)) (each_slot P g (suc s) n (λ i k. h i (omega arith)))

-- ---- what fits its fields is read back as it was written

pub record Wide (t : Table) : Type 0 where
  pub header : TableHeaderFit (header_of t)
  pub few_replicas : length t.replicas ≤ 64
  pub replicas : Each ReplicaFit t.replicas
  pub few_entries : length t.entries ≤ 256
  pub entries : Each ListedFit t.entries

-- slots that hold records which are read back
slots_read : {A : Type 0} (L : Layout A) (P : A → Type 0) → ((x : A) → P x → L.of (L.bytes x) ≡ x) →
    (l r : List ℕ) (b s : ℕ) (xs : List A) → Each P xs →
    drop (b + L.width * s) l ≡ rows L.bytes xs ++ r →
    slots_from (λ (i : ℕ). L.of (chunk l (b + L.width * i) L.width)) s (length xs) ≡ xs
unfolding slots_from
slots_read L P round l r b s [] end e = refl
slots_read L P round l r b s (x ∷ xs) (more p ps) e =
    cc (
      ap L.of (row_slot L l r (b + L.width * s) x xs e) ∙ round x p,
      slots_read L P round l r b (suc s) xs ps (other_rows L l r b s x xs e),
    )

pub wide_read : (t : Table) → Wide t → table_of (table_bytes t) ≡ t
unfolding table_of
wide_read t w =
    parts_ext (ap table_header_of (header_at t) ∙ table_round (header_of t) w.header)
    (ap (slots_from (replica_in (table_bytes t)) 0) (replicas_used_law t w.few_replicas)
    ∙ slots_read (replica_layout 0 (omega arith)) ReplicaFit replica_round (table_bytes t) _ 32 0 t.replicas
    w.replicas (replicas_at t))
    (ap (slots_from (entry_in (table_bytes t)) 0) (entries_used_law t w.few_replicas w.few_entries)
    ∙ slots_read (listed_layout 0 (omega arith)) ListedFit listed_round (table_bytes t) _ 3104 0 t.entries
    w.entries (entries_at t w.few_replicas))

-- ---- what is read from bytes fits its fields

u64_below : (l : List ℕ) (o : ℕ) → Bytes l → o + 8 ≤ length l → le (chunk l o 8) < 2 ^ 64
u64_below l o b h = omega (arith, u64_halves l o h, u32_below l o b, u32_below l (o + 4) b)

module _ (l : List ℕ) (b : Bytes l) where
  replica_below : (o : ℕ) → o + 48 ≤ length l → ReplicaFit (replica_of (chunk l o 48))
  replica_below o h =
      subst ReplicaFit (sym (replica_fields l o))
      (record {
        head =
            subst HeadFit (sym (head_fields l o))
            (record {
              id = u32_below l (o + 4) b;
              stamp = u64_below l (o + 8) b (omega arith);
              directory = u32_below l (o + 20) b;
              bytes = length_chunk l (o + 24 + 1) 15 (omega arith);
            });
        version = u32_below l (o + 40) b;
      })

  listed_below : (o : ℕ) → o + 40 ≤ length l → ListedFit (listed_of (chunk l o 40))
  listed_below o h =
      subst ListedFit (sym (listed_fields l o))
      (record {
        entry =
            subst EntryFit (sym (entry_fields l o))
            (record {
              child = u32_below l (o + 4) b;
              stamp = u64_below l (o + 8) b (omega arith);
              bytes = length_chunk l (o + 16 + 1) 15 (omega arith);
            });
        directory = u32_below l (o + 32) b;
      })

  header_below : 32 ≤ length l → TableHeaderFit (table_header_of (chunk l 0 32))
  header_below h =
      subst TableHeaderFit (sym (table_fields l 0))
      (record { next = u32_below l 4 b; highest = u64_below l 8 b (omega arith) })

  pub wide_of : length l ≡ 13344 → Wide (table_of l)
  unfolding table_of
  wide_of size =
      let few : replicas_used l ≤ 64 = few_replicas l in
      let most : entries_used l ≤ 256 = few_entries l in
      record {
        header = header_below (omega arith);
        few_replicas = omega (arith, length_slots (replica_in l) 0 (replicas_used l));
        replicas = each_slot ReplicaFit (replica_in l) 0 (replicas_used l) (λ i k. replica_below (replica_slot i) (omega arith));
        few_entries = omega (arith, length_slots (entry_in l) 0 (entries_used l));
        entries = each_slot ListedFit (entry_in l) 0 (entries_used l) (λ i k. listed_below (entry_slot i) (omega arith));
      }

-- ---- bytes and their table

-- l is the bytes of t, and t is what stands in l
pub record Is (l : List ℕ) (t : Table) : Type 0 where
  pub size : length l ≡ 13344
  pub bytes : l ≡ table_bytes t
  pub table : table_of l ≡ t

abbrev pub Stands : List ℕ → Type 0
Stands l = Is l (table_of l)

pub stands : {l : List ℕ} {t : Table} → Is l t → Stands l
stands {l} {t} k = record { size = k.size; bytes = k.bytes ∙ ap table_bytes (sym k.table); table = refl }

-- bytes that are the same stand for the same
pub moved : {a l : List ℕ} {t : Table} → Is a t → l ≡ a → Is l t
moved {a} {l} {t} k e = subst (λ (z : List ℕ). Is z t) (sym e) k

pub never : {P : Type 0} → false ≡ true → P
never e = let z : ◌≡◌ {A = ℕ} 0 1 = cc in absurd (omega arith)

-- an error is no success
pub err_not_ok : {T E : Type 0} (r : Result T E) → IsErr r → is_ok r ≡ false
err_not_ok (Ok x) e = never e
err_not_ok (Err x) e = refl

-- what was looked up, or that there is none
pub looked_some : {A : Type 0} (o : Slot A) {m : Option A} → MatchOption o (m ≡ none) (λ x. m ≡ some x) → is_some o ≡ true →
    (x : A) × (m ≡ some x)
looked_some (Some x) k e = (x, k)
looked_some None k e = never e

pub looked_none : {A : Type 0} (o : Slot A) {m : Option A} → MatchOption o (m ≡ none) (λ x. m ≡ some x) → is_some o ≡ false →
    m ≡ none
looked_none (Some x) k e = never (sym e)
looked_none None k e = k

-- a sound table stands
pub sound_stands : (l : List ℕ) → sound_bytes l ≡ true → Bytes l → Stands l
unfolding sound_bytes
sound_stands l s b =
    let inside = (and_true (table_in_range l) _ s).0 in
    record { size = range_length l inside; bytes = sym (bytes_of_table l inside b); table = refl }

-- what is written stands, if it fits
pub wide_is : {l : List ℕ} {t : Table} → Wide t → l ≡ table_bytes t → Is l t
wide_is {l} {t} w e =
    record {
      size = ap length e ∙ length_table_bytes t w.few_replicas w.few_entries;
      bytes = e;
      table = ap table_of e ∙ wide_read t w;
    }

-- ---- what stands in a slot

-- a slot's bytes, among the rows of slots from s on
slot_row : {A : Type 0} (L : Layout A) (g : ℕ → A) (l r : List ℕ) (b s n i : ℕ) →
    drop (b + L.width * s) l ≡ rows L.bytes (slots_from g s n) ++ r → s ≤ i → i < s + n →
    chunk l (b + L.width * i) L.width ≡ L.bytes (g i)
unfolding slots_from
slot_row L g l r b s zero i e low high = absurd (omega arith)
slot_row L g l r b s (suc n) i e low high =
    go (eqb s i) refl
    (λ low. slot_row L g l r b (suc s) n i (other_rows L l r b s (g s) (slots_from g (suc s) n) e) low (omega arith))
  where
    go : (z : Bool) → eqb s i ≡ z → (suc s ≤ i → chunk l (b + L.width * i) L.width ≡ L.bytes (g i)) →
        chunk l (b + L.width * i) L.width ≡ L.bytes (g i)
    go true q ih =
        let same : s ≡ i = eqb-true s i q in
        subst (λ (k : ℕ). chunk l (b + L.width * k) L.width ≡ L.bytes (g k)) same
        (row_slot L l r (b + L.width * s) (g s) (slots_from g (suc s) n) e)
    go false q ih =
        let other = eqb-false s i q in
        ih (omega arith)

-- how many slots are used
pub replicas_held : (l : List ℕ) → length (table_of l).replicas ≡ replicas_used l
unfolding table_of
replicas_held l = length_slots (replica_in l) 0 (replicas_used l)

pub entries_held : (l : List ℕ) → length (table_of l).entries ≡ entries_used l
unfolding table_of
entries_held l = length_slots (entry_in l) 0 (entries_used l)

module _ {l : List ℕ} (k : Stands l) where
  pub replica_bytes_law : (i : ℕ) → i < replicas_used l → chunk l (replica_slot i) 48 ≡ replica_bytes (replica_in l i)
  unfolding table_of
  replica_bytes_law i h =
      slot_row (replica_layout 0 (omega arith)) (replica_in l) l _ 32 0 (replicas_used l) i
      (ap (drop 32) k.bytes ∙ replicas_at (table_of l)) (omega arith) (omega arith)

  pub listed_bytes_law : (i : ℕ) → i < entries_used l → chunk l (entry_slot i) 40 ≡ listed_bytes (entry_in l i)
  unfolding table_of
  listed_bytes_law i h =
      slot_row (listed_layout 0 (omega arith)) (entry_in l) l _ 3104 0 (entries_used l) i
      (ap (drop 3104) k.bytes ∙ entries_at (table_of l) (omega (arith, replicas_held l, few_replicas l))) (omega arith)
      (omega arith)
