-- The judgement in the order of reading is document 01's: both say of the same records, by place, the same things
-- (`Fine`), for every byte string. Assumes nothing.
use Rattle.std.specs.Prelude.{◌≡◌, Bool, ◌&&◌, ◌||◌, cond, List, ◌∷◌, eqb, leb, ltb, length}
use Rattle.std.proofs.Math.Path.{refl}
use Rattle.std.proofs.Common.{ap, sym, ◌∙◌, zero-add, eqb-true, ne_eqb, leb-true}
use Rattle.std.proofs.Math.Bool.{true, false, not}
use Rattle.std.proofs.Math.Option.{some, none}
use Prim.Native.Nat.{ℕ, zero, suc, ◌+◌, ◌*◌, ◌-◌, ◌≤◌, ◌<◌, max}
use native.Mathlib.Omega.{arith}
use Rattle.codec.specs.Bytes.{chunk, marked_at, zero_at}
use Rattle.codec.specs.Lists.{and_stop, and_true, both_ways, and_both}
use Rattle.numbers.specs.Nodes.{has, is_node, is_within}
use Rattle.numbers.specs.Ids.{is_version}
use Rattle.records.specs.declared.head.Head.{Head}
use Rattle.records.specs.declared.entry.Entry.{Entry}
use Rattle.records.specs.Heads.{head_of, is_root, is_ordinary, head_fits, head_in_range, root_is}
use Rattle.records.specs.Entries.{entry_in_range}
use Rattle.messages.specs.declared.push_header.PushHeader.{PushHeader}
use Rattle.messages.specs.PushHeaders.{push_mark, push_at, push_fits, push_in_range}
use Rattle.document.specs.Layouts.{head_range_fits}
use Rattle.document.specs.ReadingMessages.{head_in}
use Rattle.document.specs.Rows.{length_slots}
use Rattle.document.specs.Tables.{slots_from, every_slot}
use Rattle.document.specs.Sound.{is_live, is_directory, is_root_id, distinct}
use Rattle.document.specs.Messages.{head_spot, entry_spot, message_of, message_in_range, chained, same_head_id, same_child_name, is_empty, hangs_together, read_push}
use Rattle.table.specs.Slots.{every_slots, slots_get}
use Rattle.table.specs.Rules.{new_slot, distinct_slots}
use Rattle.pushes.specs.Judging.{is_push, in_order, entry_in, header_fine, held_by, linked, top_fine, first_fine, id_new, head_fine, ends_at_root, child_new, entry_fine}

-- ---- slots, one by one

pub slots_all : (f : ℕ → Bool) (s n : ℕ) → ((i : ℕ) → s ≤ i → i < s + n → f i ≡ true) → every_slot f s n ≡ true
unfolding every_slot
slots_all f s zero h = refl
slots_all f s (suc n) h =
    and_both (h s (omega arith) (omega arith)) (slots_all f (suc s) n (λ i a b. h i (omega arith) (omega arith)))

-- no two of the slots are the same
module _ {A : Type 0} (same : A → A → Bool) (g : ℕ → A) where
  pub pairs_apart : (n : ℕ) → distinct same (slots_from g 0 n) ≡ true →
      (i j : ℕ) → i < j → j < n → not (same (g i) (g j)) ≡ true
  pairs_apart n e i j l m =
      let all = slots_get (new_slot same g (0 + n)) 0 n (sym (distinct_slots same g 0 n) ∙ e) i (omega arith) (omega
      arith) in
      slots_get (λ (k : ℕ). not (same (g i) (g k))) (i + 1) (0 + n - (i + 1)) all j (omega arith) (omega arith)

  pub apart_pairs : (n : ℕ) → ((i j : ℕ) → i < j → j < n → not (same (g i) (g j)) ≡ true) →
      distinct same (slots_from g 0 n) ≡ true
  apart_pairs n h =
      distinct_slots same g 0 n
      ∙ slots_all (new_slot same g (0 + n)) 0 n
      (λ i a b. slots_all (λ (k : ℕ). not (same (g i) (g k))) (i + 1) (0 + n - (i + 1))
      (λ j c d. h i j (omega arith) (omega arith)))

-- the chain, link by link, and its end
and_links : (a b c d x y : Bool) → (a && (b && (c && (d && (x && y))))) ≡ (((a && (b && (c && d))) && x) && y)
and_links true true true true x y = refl
and_links true true true false x y = refl
and_links true true false d x y = refl
and_links true false c d x y = refl
and_links false b c d x y = refl

abbrev ended : Head → Bool
ended h = eqb h.directory 0 && eqb h.depth 1

chain_links : (g : ℕ → Head) (s n : ℕ) →
    chained (g s) (slots_from g (suc s) n)
    ≡ (every_slot (λ (i : ℕ). linked (g (i - 1)) (g i)) (suc s) n && ended (g (s + n)))
unfolding chained slots_from every_slot linked
chain_links g s zero = ap (λ (k : ℕ). ended (g k)) {x = s} {y = s + 0} (omega arith)
chain_links g s (suc n) =
    let h = g s in
    let p = g (suc s) in
    let rest = every_slot (λ (i : ℕ). linked (g (i - 1)) (g i)) (suc (suc s)) n in
    ap
    (λ (b : Bool).
    eqb h.directory p.id
    && (eqb h.depth (p.depth + 1) && (is_directory p && ((not (is_live h) || is_live p) && b))))
    (chain_links g (suc s) n)
    ∙ and_links (eqb h.directory p.id) (eqb h.depth (p.depth + 1)) (is_directory p)
    (not (is_live h) || is_live p) rest (ended (g (suc s + n)))
    ∙ ap (λ (k : ℕ). (linked (g k) p && rest) && ended (g (suc s + n))) {x = s} {y = suc s - 1} (omega arith)
    ∙ ap (λ (k : ℕ). (linked (g (suc s - 1)) p && rest) && ended (g k)) {x = suc s + n} {y = s + suc n} (omega arith)

-- ---- what both judgements say of a message

pub record Fine (n : ℕ) (l : List ℕ) : Type 0 where
  pub header : header_fine n l ≡ true
  pub ranges : (i : ℕ) → i < (push_at l 0).heads → head_in_range n (chunk l (head_spot i) 40) ≡ true
  pub held : (i : ℕ) → i < (push_at l 0).heads → held_by (push_at l 0).sender (head_in l i) ≡ true
  pub top : top_fine (head_in l 0) (push_at l 0) ≡ true
  pub links : (i : ℕ) → 1 ≤ i → i < (push_at l 0).heads → linked (head_in l (i - 1)) (head_in l i) ≡ true
  pub ids : (i j : ℕ) → i < j → j < (push_at l 0).heads → not (same_head_id (head_in l i) (head_in l j)) ≡ true
  pub ends : ends_at_root (head_in l 0) (head_in l ((push_at l 0).heads - 1)) ≡ true
  pub entries : (i : ℕ) → i < (push_at l 0).entries →
      entry_in_range n (chunk l (entry_spot (push_at l 0).heads i) 32) ≡ true
  pub children : (i : ℕ) → i < (push_at l 0).entries →
      not (eqb (entry_in (push_at l 0).heads l i).child 0) ≡ true
  pub names : (i j : ℕ) → i < j → j < (push_at l 0).entries →
      not (same_child_name (entry_in (push_at l 0).heads l i) (entry_in (push_at l 0).heads l j)) ≡ true

-- what a header in range says of the message: its counts, and that they are all of it
pub record Sized (n : ℕ) (l : List ℕ) : Type 0 where
  pub one : 1 ≤ (push_at l 0).heads
  pub most : (push_at l 0).heads ≤ 16
  pub few : (push_at l 0).entries ≤ 32
  pub size : length l ≡ 16 + 40 * (push_at l 0).heads + 32 * (push_at l 0).entries

counts : (n : ℕ) (h : PushHeader) → push_fits n h ≡ true → (1 ≤ h.heads) × (h.heads ≤ 16) × (h.entries ≤ 32)
unfolding push_fits
counts n h e =
    let sender = and_true (is_node n h.sender) _ e in
    let addressee = and_true (is_node n h.addressee) _ sender.1 in
    let version = and_true (is_version h.version) _ addressee.1 in
    let heads = and_true (is_within 1 h.heads 16) _ version.1 in
    let within = and_true (leb 1 h.heads) _ heads.0 in
    (leb-true 1 h.heads within.0, leb-true h.heads 16 within.1, leb-true h.entries 32 heads.1)

pub sized : (n : ℕ) (l : List ℕ) → header_fine n l ≡ true → Sized n l
unfolding header_fine push_in_range
sized n l e =
    let h = push_at l 0 in
    let c = chunk l 0 16 in
    let least = and_true (leb 16 (length l)) _ e in
    let range = and_true (push_in_range n c) _ least.1 in
    let apart = and_true (not (eqb h.sender h.addressee)) _ range.1 in
    let fits = and_true (zero_at c 10 6) _ (and_true (marked_at c 0 push_mark) _ range.0).1 in
    let k = counts n h fits.1 in
    record { one = k.0; most = k.1; few = k.2; size = eqb-true (length l) _ apart.1 }

-- ---- in the order of reading

-- the first, and those above it
from_first : (P : ℕ → Type 0) (k : ℕ) → P 0 → ((i : ℕ) → 1 ≤ i → i < k → P i) → (i : ℕ) → i < k → P i
from_first P k z f zero l = z
from_first P k z f (suc i) l = f (suc i) (omega arith) l

abbrev HeadParts : ℕ → ℕ → List ℕ → ℕ → Type 0
HeadParts n sender l i =
    (head_in_range n (chunk l (head_spot i) 40) ≡ true) × (held_by sender (head_in l i) ≡ true)
    × (linked (head_in l (i - 1)) (head_in l i) ≡ true) × (id_new l i ≡ true)

head_parts_law : (n sender : ℕ) (l : List ℕ) (i : ℕ) → head_fine n sender l i ≡ true → HeadParts n sender l i
unfolding head_fine
head_parts_law n sender l i e =
    let range = and_true (head_in_range n (chunk l (head_spot i) 40)) _ e in
    let held = and_true (held_by sender (head_in l i)) _ range.1 in
    let link = and_true (linked (head_in l (i - 1)) (head_in l i)) _ held.1 in
    (range.0, held.0, link.0, link.1)

abbrev EntryParts : ℕ → ℕ → List ℕ → ℕ → Type 0
EntryParts n k l i =
    (entry_in_range n (chunk l (entry_spot k i) 32) ≡ true) × (not (eqb (entry_in k l i).child 0) ≡ true)
    × (child_new k l i ≡ true)

entry_parts_law : (n k : ℕ) (l : List ℕ) (i : ℕ) → entry_fine n k l i ≡ true → EntryParts n k l i
unfolding entry_fine
entry_parts_law n k l i e =
    let range = and_true (entry_in_range n (chunk l (entry_spot k i) 32)) _ e in
    let child = and_true (not (eqb (entry_in k l i).child 0)) _ range.1 in
    (range.0, child.0, child.1)

module _ (n : ℕ) (l : List ℕ) where
  order_fine : in_order n l ≡ true → Fine n l
  unfolding first_fine
  order_fine e =
      let h = push_at l 0 in
      let header = and_true (header_fine n l) _ e in
      let first = and_true (first_fine n h l) _ header.1 in
      let rest = and_true (every_slot (head_fine n h.sender l) 1 (h.heads - 1)) _ first.1 in
      let last = and_true (ends_at_root (head_in l 0) (head_in l (h.heads - 1))) _ rest.1 in
      let range = and_true (head_in_range n (chunk l (head_spot 0) 40)) _ first.0 in
      let held = and_true (held_by h.sender (head_in l 0)) _ range.1 in
      let each : (i : ℕ) → 1 ≤ i → i < h.heads → HeadParts n h.sender l i =
      λ i a b.
      head_parts_law n h.sender l i (slots_get (head_fine n h.sender l) 1 (h.heads - 1) rest.0 i a (omega arith))
      in
      let entry : (i : ℕ) → i < h.entries → EntryParts n h.heads l i =
      λ i b.
      entry_parts_law n h.heads l i
      (slots_get (entry_fine n h.heads l) 0 h.entries last.1 i (omega arith) (omega arith)) in
      record {
        header = header.0;
        ranges =
            from_first (λ i. head_in_range n (chunk l (head_spot i) 40) ≡ true) h.heads range.0 (λ i a b. (each i a
            b).0);
        held =
            from_first (λ i. held_by h.sender (head_in l i) ≡ true) h.heads held.0 (λ i a b. (each i a b).1);
        top = held.1;
        links = λ i a b. (each i a b).2;
        ids = λ i j a b.
            slots_get (λ (k : ℕ). not (same_head_id (head_in l k) (head_in l j))) 0 j (each j (omega arith) b).3 i
            (omega arith) (omega arith);
        ends = last.0;
        entries = λ i b. (entry i b).0;
        children = λ i b. (entry i b).1;
        names = λ i j a b.
            slots_get (λ (k : ℕ). not (same_child_name (entry_in h.heads l k) (entry_in h.heads l j))) 0 j
            (entry j b).2 i (omega arith) (omega arith);
      }

  fine_order : Fine n l → in_order n l ≡ true
  unfolding first_fine head_fine entry_fine
  fine_order f =
      let h = push_at l 0 in
      let size = sized n l f.header in
      let first = and_both (f.ranges 0 size.one) (and_both (f.held 0 size.one) f.top) in
      let above =
      slots_all (head_fine n h.sender l) 1 (h.heads - 1)
      (λ i a b.
      let k : i < h.heads = omega (arith, size.one) in
      and_both (f.ranges i k)
      (and_both (f.held i k)
      (and_both (f.links i a k)
      (slots_all (λ (j : ℕ). not (same_head_id (head_in l j) (head_in l i))) 0 i
      (λ j c d. f.ids j i (omega arith) k))))) in
      let entries =
      slots_all (entry_fine n h.heads l) 0 h.entries
      (λ i a b.
      let k : i < h.entries = omega arith in
      and_both (f.entries i k)
      (and_both (f.children i k)
      (slots_all (λ (j : ℕ). not (same_child_name (entry_in h.heads l j) (entry_in h.heads l i))) 0 i
      (λ j c d. f.names j i (omega arith) k)))) in
      and_both f.header (and_both first (and_both above (and_both f.ends entries)))

-- ---- document 01's

first_slots : {A : Type 0} (g : ℕ → A) (k : ℕ) → 1 ≤ k → g 0 ∷ slots_from g 1 (k - 1) ≡ slots_from g 0 k
unfolding slots_from
first_slots g k h = ap (slots_from g 0) {x = suc (k - 1)} {y = k} (omega arith)

no_slots : (f : ℕ → Entry) (k : ℕ) → is_empty (slots_from f 0 k) ≡ eqb k 0
unfolding slots_from
no_slots f zero = refl
no_slots f (suc k) = sym (ne_eqb (suc k) 0 (λ e. omega arith))

-- that a message hangs together, over its records by place
abbrev hangs_by : PushHeader → List ℕ → Bool
hangs_by h l =
    (eqb h.heads (max 1 (head_in l 0).depth)
    && (is_root_id (head_in l 0) || chained (head_in l 0) (slots_from (head_in l) 1 (h.heads - 1))))
    && (distinct same_head_id (slots_from (head_in l) 0 h.heads)
    && (every_slot (λ (i : ℕ). held_by h.sender (head_in l i)) 0 h.heads
    && (has (head_in l 0).holders h.addressee
    && (distinct same_child_name (slots_from (entry_in h.heads l) 0 h.entries)
    && (every_slot (λ (i : ℕ). not (eqb (entry_in h.heads l i).child 0)) 0 h.entries
    && (eqb h.entries 0 || (is_directory (head_in l 0) && ltb (head_in l 0).depth 16)))))))

hangs_by_law : (l : List ℕ) → 1 ≤ (push_at l 0).heads → hangs_together (message_of l) ≡ hangs_by (push_at l 0) l
unfolding hangs_together message_of
hangs_by_law l o =
    let h = push_at l 0 in
    let count : suc (length (slots_from (head_in l) 1 (h.heads - 1))) ≡ h.heads =
    ap suc (length_slots (head_in l) 1 (h.heads - 1)) ∙ omega (arith, o) in
    rw (
      count,
      first_slots (head_in l) h.heads o,
      every_slots (held_by h.sender) (head_in l) 0 h.heads,
      every_slots (λ (e : Entry). not (eqb e.child 0)) (entry_in h.heads l) 0 h.entries,
      no_slots (entry_in h.heads l) h.entries,
    )

-- the root's head has depth 0
root_depth : (n : ℕ) (c : List ℕ) → head_in_range n c ≡ true → is_root_id (head_of c) ≡ true → (head_of c).depth ≡ 0
unfolding head_fits
root_depth n c e z =
    ap (λ (h : Head). h.depth)
    (root_is n (head_of c) (ap (λ (b : Bool). cond b (is_root n (head_of c)) (is_ordinary n (head_of c))) (sym z) ∙
    head_range_fits n c e))

-- the chain of k heads: the root's alone, or link by link up to the root
module _ (n k : ℕ) (l : List ℕ) (count : k ≡ max 1 (head_in l 0).depth)
    (range : head_in_range n (chunk l (head_spot 0) 40) ≡ true) where
  abbrev is_linked : ℕ → Bool
  is_linked i = linked (head_in l (i - 1)) (head_in l i)

  abbrev has_chain : Bool → Bool
  has_chain b = b || chained (head_in l 0) (slots_from (head_in l) 1 (k - 1))

  links_of : chained (head_in l 0) (slots_from (head_in l) 1 (k - 1))
      ≡ (every_slot is_linked 1 (k - 1) && ended (head_in l (k - 1)))
  links_of =
      chain_links (head_in l) 0 (k - 1)
      ∙ ap (λ (i : ℕ). every_slot is_linked 1 (k - 1) && ended (head_in l i)) (zero-add (k - 1))

  chain_fine : has_chain (is_root_id (head_in l 0)) ≡ true →
      ((i : ℕ) → 1 ≤ i → i < k → is_linked i ≡ true) × (ends_at_root (head_in l 0) (head_in l (k - 1)) ≡ true)
  unfolding ends_at_root
  chain_fine e = go (is_root_id (head_in l 0)) refl e
    where
      go : (b : Bool) → is_root_id (head_in l 0) ≡ b → has_chain b ≡ true →
          ((i : ℕ) → 1 ≤ i → i < k → is_linked i ≡ true) × ((b || ended (head_in l (k - 1))) ≡ true)
      go true z h = let d = root_depth n (chunk l (head_spot 0) 40) range z in (
        λ i a b. absurd (omega (
          arith,
          count,
          d,
        )),
        refl,
      )
      go false z h =
          let p = and_true (every_slot is_linked 1 (k - 1)) _ (sym links_of ∙ h) in
          (λ i a b. slots_get is_linked 1 (k - 1) p.0 i a (omega arith), p.1)

  fine_chain : ((i : ℕ) → 1 ≤ i → i < k → is_linked i ≡ true) →
      ends_at_root (head_in l 0) (head_in l (k - 1)) ≡ true → has_chain (is_root_id (head_in l 0)) ≡ true
  unfolding ends_at_root
  fine_chain f e = go (is_root_id (head_in l 0)) e
    where
      go : (b : Bool) → (b || ended (head_in l (k - 1))) ≡ true → has_chain b ≡ true
      go true h = refl
      go false h =
          links_of ∙ and_both (slots_all is_linked 1 (k - 1) (λ i a b. f i a (omega (arith, count)))) h

-- what each place of the two says
abbrev head_range : ℕ → List ℕ → ℕ → Bool
head_range n l i = head_in_range n (chunk l (head_spot i) 40)

abbrev entry_range : ℕ → ℕ → List ℕ → ℕ → Bool
entry_range n k l i = entry_in_range n (chunk l (entry_spot k i) 32)

abbrev not_root : ℕ → List ℕ → ℕ → Bool
not_root k l i = not (eqb (entry_in k l i).child 0)

module _ (n : ℕ) (l : List ℕ) where
  push_fine : is_push n l ≡ true → Fine n l
  unfolding message_in_range header_fine top_fine
  push_fine e =
      let h = push_at l 0 in
      let k = h.heads in
      let judged = and_true (message_in_range n l) _ e in
      let least = and_true (leb 16 (length l)) _ judged.0 in
      let header = and_true (push_in_range n (chunk l 0 16)) _ least.1 in
      let apart = and_true (not (eqb h.sender h.addressee)) _ header.1 in
      let size = and_true (eqb (length l) (entry_spot k h.entries)) _ apart.1 in
      let ranges = and_true (every_slot (head_range n l) 0 k) _ size.1 in
      let top = and_both least.0 (and_both header.0 (and_both apart.0 size.0)) in
      let one = (sized n l top).one in
      let whole =
      and_true
      (eqb k (max 1 (head_in l 0).depth)
      && (is_root_id (head_in l 0) || chained (head_in l 0) (slots_from (head_in l) 1 (k - 1))))
      _ (sym (hangs_by_law l one) ∙ judged.1) in
      let count = and_true (eqb k (max 1 (head_in l 0).depth)) _ whole.0 in
      let ids = and_true (distinct same_head_id (slots_from (head_in l) 0 k)) _ whole.1 in
      let held = and_true (every_slot (λ (i : ℕ). held_by h.sender (head_in l i)) 0 k) _ ids.1 in
      let to = and_true (has (head_in l 0).holders h.addressee) _ held.1 in
      let names = and_true (distinct same_child_name (slots_from (entry_in k l) 0 h.entries)) _ to.1 in
      let children = and_true (every_slot (not_root k l) 0 h.entries) _ names.1 in
      let each : (f : ℕ → Bool) (m : ℕ) → every_slot f 0 m ≡ true → (i : ℕ) → i < m → f i ≡ true =
      λ f m e i b. slots_get f 0 m e i (omega arith) (omega arith) in
      let chain = chain_fine n k l (eqb-true _ _ count.0) (each (head_range n l) k ranges.0 0 one) count.1 in
      record {
        header = top;
        ranges = each (head_range n l) k ranges.0;
        held = each (λ (i : ℕ). held_by h.sender (head_in l i)) k held.0;
        top = and_both count.0 (and_both to.0 children.1);
        links = chain.0;
        ids = pairs_apart same_head_id (head_in l) k ids.0;
        ends = chain.1;
        entries = each (entry_range n k l) h.entries ranges.1;
        children = each (not_root k l) h.entries children.0;
        names = pairs_apart same_child_name (entry_in k l) h.entries names.0;
      }

  fine_push : Fine n l → is_push n l ≡ true
  unfolding message_in_range header_fine top_fine
  fine_push f =
      let h = push_at l 0 in
      let k = h.heads in
      let size = sized n l f.header in
      let least = and_true (leb 16 (length l)) _ f.header in
      let header = and_true (push_in_range n (chunk l 0 16)) _ least.1 in
      let apart = and_true (not (eqb h.sender h.addressee)) _ header.1 in
      let count = and_true (eqb k (max 1 (head_in l 0).depth)) _ f.top in
      let to = and_true (has (head_in l 0).holders h.addressee) _ count.1 in
      let each : (g : ℕ → Bool) (m : ℕ) → ((i : ℕ) → i < m → g i ≡ true) → every_slot g 0 m ≡ true =
      λ g m e. slots_all g 0 m (λ i a b. e i (omega arith)) in
      let range =
      and_both least.0
      (and_both header.0
      (and_both apart.0
      (and_both apart.1
      (and_both (each (head_range n l) k f.ranges) (each (entry_range n k l) h.entries f.entries))))) in
      let chain = fine_chain n k l (eqb-true _ _ count.0) (f.ranges 0 size.one) f.links f.ends in
      let together =
      and_both (and_both count.0 chain)
      (and_both (apart_pairs same_head_id (head_in l) k f.ids)
      (and_both (each (λ (i : ℕ). held_by h.sender (head_in l i)) k f.held)
      (and_both to.0
      (and_both (apart_pairs same_child_name (entry_in k l) h.entries f.names)
      (and_both (each (not_root k l) h.entries f.children) to.1))))) in
      and_both range (hangs_by_law l size.one ∙ together)

  -- the two judgements are one
  pub in_order_law : in_order n l ≡ is_push n l
  in_order_law =
      both_ways (in_order n l) (is_push n l) (λ e. fine_push (order_fine n l e)) (λ e. fine_order n l (push_fine e))

  -- what is read is what was found fine
  pub read_push_law : read_push n l ≡ cond (is_push n l) (some (message_of l)) none
  unfolding read_push
  read_push_law = refl

-- ---- over the header that was read

abbrev pub order_by : ℕ → List ℕ → PushHeader → Bool
order_by n l h =
    header_fine n l
    && (first_fine n h l
    && (every_slot (head_fine n h.sender l) 1 (h.heads - 1)
    && (ends_at_root (head_in l 0) (head_in l (h.heads - 1)) && every_slot (entry_fine n h.heads l) 0 h.entries)))

pub push_tests : (n : ℕ) (l : List ℕ) (h : PushHeader) → h ≡ push_at l 0 → order_by n l h ≡ is_push n l
push_tests n l h e = ap (order_by n l) e ∙ in_order_law n l

-- what has no fine header is no push
pub no_header : (n : ℕ) (l : List ℕ) → header_fine n l ≡ false → is_push n l ≡ false
no_header n l e = sym (push_tests n l (push_at l 0) refl) ∙ sym (and_stop (header_fine n l) _ e)

pub sized_by : (n : ℕ) (l : List ℕ) (h : PushHeader) → h ≡ push_at l 0 → header_fine n l ≡ true →
    (1 ≤ h.heads) × (h.heads ≤ 16) × (h.entries ≤ 32) × (length l ≡ 16 + 40 * h.heads + 32 * h.entries)
sized_by n l h e f =
    let s = sized n l f in
    let heads : h.heads ≡ (push_at l 0).heads = ap (λ (p : PushHeader). p.heads) e in
    let entries : h.entries ≡ (push_at l 0).entries = ap (λ (p : PushHeader). p.entries) e in
    (omega (arith, s.one), omega (arith, s.most), omega (arith, s.few), omega (arith, s.size))
