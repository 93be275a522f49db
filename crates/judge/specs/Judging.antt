-- Line 13 of the refusals as the code decides it, head by head and entry by entry of the message, and that this is the
-- definition's: what the contracts of this crate cite. Assumes nothing.
use Rattle.std.specs.Prelude.{◌≡◌, refl, Bool, true, false, ◌&&◌, ◌||◌, not, List, [], ◌∷◌, ◌++◌, map, ℕ, suc, ◌+◌, ◌*◌, ◌-◌, ◌≤◌, eqb, leb, length}
use Rattle.std.proofs.Common.{ap, sym, subst, ◌∙◌, arith, eqb-true, leb-true}
use Rattle.std.proofs.Math.Option.{some}
use Rattle.codec.specs.Bytes.{chunk, marked_at, zero_at}
use Rattle.codec.specs.Lists.{every, and_true}
use Rattle.numbers.specs.Nodes.{is_within, is_node}
use Rattle.numbers.specs.Ids.{is_version}
use Rattle.numbers.specs.Laws.{size_most}
use Rattle.records.specs.declared.head.Head.{Head}
use Rattle.records.specs.declared.entry.Entry.{Entry}
use Rattle.records.specs.Entries.{entry_at}
use Rattle.messages.specs.declared.push_header.PushHeader.{PushHeader}
use Rattle.messages.specs.PushHeaders.{push_mark, push_at, push_fits, push_in_range}
use Rattle.slots.specs.declared.listed.Listed.{Listed}
use Rattle.document.specs.Tables.{Table, head_of, find_entry, entry_of?, every_slot, table_of}
use Rattle.document.specs.Sound.{is_directory, sound_bytes}
use Rattle.document.specs.Steps.{same_place, at_odds, odd_join, odd_all}
use Rattle.document.specs.Messages.{Push, entry_spot, message_of, message_in_range, read_push}
use Rattle.document.specs.Receive.{step_a, step_c, taken, listed_in, joined_in, set_if_made, set_above, set_if_taken, set_in, joins, odd_head, is_stray, odd}
use Rattle.document.specs.ReadingMessages.{heads_of, read_some, head_in}
use Rattle.table.specs.Slots.{every_slots}
use Rattle.views.specs.Sounds.{Sound, sound_table}
use Rattle.kept.specs.MessageFacts.{MessageSays, message_says}
use Rattle.kept.specs.ReceiveAbove.{steady_B}
use Rattle.steps.specs.Message.{Sized}
use Rattle.judge.specs.Apart.{none_odd, odd_apart}
use Rattle.judge.specs.Keys.{joins_distinct}

-- ---- on tables

-- a directory's place and depth are those that the table has for it
abbrev pub is_steady : Head → Head → Bool
is_steady h o = not (is_directory o && not (same_place o h && eqb o.depth h.depth))

-- the head is not at odds with the table
abbrev pub head_agrees : Table → Head → Bool
head_agrees t h = not (odd_head h (head_of t h.id) || is_stray t h)

-- (a) to (c) leave the entries
taken_entries : (p : Push) (t : Table) → (taken p t).entries ≡ t.entries
unfolding taken step_c step_a
taken_entries p t = (steady_B p.above (step_a p t)).entries

-- the joins of a receive are judged against the table as it stood before the call
pub joins_judged : (p : Push) (t : Table) → Sound t → MessageSays t.nodes p →
    odd_all (joins p t) (taken p t) ≡ not (none_odd t (joins p t))
joins_judged p t s m =
    odd_apart (joins p t) (taken p t) (joins_distinct p t s m)
    ∙ ap (λ (l : List Listed). not (every (λ (e : Listed).
    not (at_odds e (entry_of? (find_entry e.directory e.entry.child e.entry.name l)))) (joins p t)))
    (taken_entries p t)

-- what each head above sets, if it is not held, and the pushed replica, if it is not held or its state is taken
abbrev pub made_agrees : Table → Head → Bool
made_agrees t h = none_odd t (set_if_made (head_of t h.id) h)

abbrev pub first_agrees : Table → Head → Bool
first_agrees t h = none_odd t (set_if_taken (head_of t h.id) h)

every_append : {A : Type 0} (f : A → Bool) (xs ys : List A) → every f (xs ++ ys) ≡ (every f xs && every f ys)
unfolding every
every_append f [] ys = refl
every_append f (x ∷ xs) ys = ap (λ (b : Bool). f x && b) (every_append f xs ys) ∙ and_assoc (f x) _ _
  where
    and_assoc : (a b c : Bool) → (a && (b && c)) ≡ ((a && b) && c)
    and_assoc true b c = refl
    and_assoc false b c = refl

every_above : (t : Table) (hs : List Head) → none_odd t (set_above t hs) ≡ every (made_agrees t) hs
unfolding set_above every
every_above t [] = refl
every_above t (h ∷ hs) =
    every_append _ (set_above t hs) (set_if_made (head_of t h.id) h)
    ∙ ap (λ (b : Bool). b && made_agrees t h) (every_above t hs) ∙ and_swap (every (made_agrees t) hs) (made_agrees t h)
  where
    and_swap : (a b : Bool) → (a && b) ≡ (b && a)
    and_swap true true = refl
    and_swap true false = refl
    and_swap false true = refl
    and_swap false false = refl

not_both : (a b : Bool) → (not a || not b) ≡ not (a && b)
not_both true b = refl
not_both false b = refl

-- line 13, part by part
pub odd_parts : (p : Push) (t : Table) → Sound t → MessageSays t.nodes p →
    odd p t ≡ not (every (head_agrees t) (heads_of p) && (none_odd t (joined_in p)
    && (every (made_agrees t) p.above && first_agrees t p.first)))
unfolding odd
odd_parts p t s m =
    ap (λ (b : Bool). not (every (head_agrees t) (heads_of p)) || b)
    (joins_judged p t s m
    ∙ ap not (every_append _ (joined_in p) (set_in t p)
    ∙ ap (λ (b : Bool). none_odd t (joined_in p) && b)
    (every_append _ (set_above t p.above) (set_if_taken (head_of t p.first.id) p.first)
    ∙ ap (λ (b : Bool). b && first_agrees t p.first) (every_above t p.above))))
    ∙ not_both (every (head_agrees t) (heads_of p)) _

-- ---- in bytes: a message l with that many heads and entries

abbrev pub heads_agree : Table → List ℕ → ℕ → Bool
heads_agree t l heads = every_slot (λ (j : ℕ). head_agrees t (head_in l j)) 0 heads

-- those of directory d
abbrev pub entries_agree : Table → List ℕ → ℕ → ℕ → ℕ → Bool
entries_agree t l d heads entries =
    every_slot (λ (j : ℕ). not (odd_join (listed_in d (entry_at l (entry_spot heads j))) t)) 0 entries

abbrev pub above_agree : Table → List ℕ → ℕ → Bool
above_agree t l heads = every_slot (λ (j : ℕ). made_agrees t (head_in l j)) 1 (heads - 1)

-- what the counts of a well-formed message say
pub record Counted (l : List ℕ) (heads entries : ℕ) : Type 0 where
  pub some_heads : 1 ≤ heads
  pub few_heads : heads ≤ 16
  pub few_entries : entries ≤ 32
  pub size : length l ≡ 16 + 40 * heads + 32 * entries

counts : (n : ℕ) (l : List ℕ) (p : Push) → read_push n l ≡ some p → Counted l (push_at l 0).heads (push_at l 0).entries
unfolding read_push message_in_range push_in_range push_fits
counts n l p e =
    let c : List ℕ = chunk l 0 16 in
    let h : PushHeader = push_at l 0 in
    let range = (and_true (message_in_range n l) _ (read_some _ e).0).0 in
    let inside = and_true (push_in_range n c) _ (and_true (leb 16 (length l)) _ range).1 in
    let fits = (and_true (zero_at c 10 6) _ (and_true (marked_at c 0 push_mark) _ inside.0).1).1 in
    let sender = (and_true (is_node n h.sender) _ fits).1 in
    let addressee = (and_true (is_node n h.addressee) _ sender).1 in
    let counts = and_true (is_within 1 h.heads 16) _ (and_true (is_version h.version) _ addressee).1 in
    let heads = and_true (leb 1 h.heads) _ counts.0 in
    let size = (and_true (not (eqb h.sender h.addressee)) _ inside.1).1 in
    record {
      some_heads = leb-true 1 h.heads heads.0;
      few_heads = leb-true h.heads 16 heads.1;
      few_entries = leb-true h.entries 32 counts.1;
      size = eqb-true (length l) _ (and_true (eqb (length l) (entry_spot h.heads h.entries)) _ size).0;
    }

pub counted : (n : ℕ) (l : List ℕ) (h : PushHeader) (p : Push) → read_push n l ≡ some p → h ≡ push_at l 0 →
    Counted l h.heads h.entries
counted n l h p r e = subst (λ (z : PushHeader). Counted l z.heads z.entries) (sym e) (counts n l p r)

pub counted_least : (n : ℕ) (l : List ℕ) (p : Push) → read_push n l ≡ some p → 16 ≤ length l
counted_least n l p r = omega (arith, (counts n l p r).size)

pub counted_sized : (n : ℕ) (l : List ℕ) (p : Push) → read_push n l ≡ some p → Sized l
counted_sized n l p r = let c = counts n l p r in record { size = c.size; one = c.some_heads }

every_map : {A B : Type 0} (f : B → Bool) (g : A → B) (l : List A) → every f (map g l) ≡ every (λ x. f (g x)) l
unfolding every
every_map f g [] = refl
every_map f g (x ∷ xs) = ap (λ (b : Bool). f (g x) && b) (every_map f g xs)

-- the tests of the code, with the header and the first head that it has read, are those of the definition
pub odd_judged : (b l : List ℕ) (h : PushHeader) (f : Head) → sound_bytes b ≡ true →
    read_push (table_of b).nodes l ≡ some (message_of l) → h ≡ push_at l 0 → f ≡ head_in l 0 →
    odd (message_of l) (table_of b)
    ≡ not (heads_agree (table_of b) l h.heads && (entries_agree (table_of b) l f.id h.heads h.entries
    && (above_agree (table_of b) l h.heads && first_agrees (table_of b) f)))
unfolding message_of every_slot every
odd_judged b l h f s r e g =
    odd_parts (message_of l) t sound says ∙ cc (heads, entries, above)
    ∙ ap (λ (z : PushHeader). tests z (head_in l 0)) (sym e) ∙ ap (tests h) (sym g)
  where
    t : Table
    t = table_of b

    tests : PushHeader → Head → Bool
    tests z y =
        not (heads_agree t l z.heads && (entries_agree t l y.id z.heads z.entries
        && (above_agree t l z.heads && first_agrees t y)))

    sound : Sound t
    sound = sound_table b s

    says : MessageSays t.nodes (message_of l)
    says = message_says t.nodes l (message_of l) (size_most t.nodes sound.size) r

    one : suc ((push_at l 0).heads - 1) ≡ (push_at l 0).heads
    one = omega (arith, (counts t.nodes l (message_of l) r).some_heads)

    heads : every (head_agrees t) (heads_of (message_of l)) ≡ heads_agree t l (push_at l 0).heads
    heads =
        ap (λ (z : Bool). head_agrees t (head_in l 0) && z) (every_slots (head_agrees t) (head_in l) 1 ((push_at l 0).heads - 1))
        ∙ ap (heads_agree t l) one

    entries : none_odd t (joined_in (message_of l))
        ≡ entries_agree t l (head_in l 0).id (push_at l 0).heads (push_at l 0).entries
    entries =
        every_map (λ (x : Listed). not (odd_join x t)) (listed_in (head_in l 0).id) (message_of l).entries
        ∙ every_slots (λ (x : Entry). not (odd_join (listed_in (head_in l 0).id x) t))
        (λ (j : ℕ). entry_at l (entry_spot (push_at l 0).heads j)) 0 (push_at l 0).entries

    above : every (made_agrees t) (message_of l).above ≡ above_agree t l (push_at l 0).heads
    above = every_slots (made_agrees t) (head_in l) 1 ((push_at l 0).heads - 1)
