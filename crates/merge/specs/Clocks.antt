-- Step (a) of a receive, as the code takes it: the heads' clocks, then the entries'. Assumes nothing.
use Rattle.std.specs.Prelude.{◌≡◌, refl, List, [], ◌∷◌, ◌++◌, map, ℕ, zero, suc, ◌+◌, ◌-◌, ◌^◌, ◌≤◌, ◌<◌, max}
use Rattle.std.proofs.Common.{ap, sym, subst, ◌∙◌, arith}
use Rattle.std.specs.List.{range_with_len, fold, FoldsTo}
use Rattle.std.proofs.iter.Yields.{nat_range_steps}
use Rattle.std.proofs.lemmas.Iterator.{YieldsList-from_range}
use Rattle.std.proofs.lemmas.Iterator.Consumers.{fold_from_yields_List}
use Rattle.std.specs.Fn.{Called}
use Rattle.std.specs.Iterator.{Drains}
use Rattle.std.specs.declared.ops.Range.{Range}
use denote.Param.Members.{Mut}
use Rattle.codec.specs.Bytes.{splice, Bytes}
use Rattle.numbers.specs.Ids.{clock_of}
use Rattle.records.specs.declared.head.Head.{Head}
use Rattle.records.specs.declared.entry.Entry.{Entry}
use Rattle.slots.specs.declared.table_header.TableHeader.{TableHeader}
use Rattle.slots.specs.TableHeaders.{table_header_bytes}
use Rattle.document.specs.Tables.{Table, slots_from, header_of, table_of, with_highest}
use Rattle.document.specs.Messages.{message_of}
use Rattle.document.specs.Receive.{highest, stamps_of, step_a}
use Rattle.document.specs.ReadingMessages.{head_in}
use Rattle.steps.specs.Standing.{Is, Stands, stands, moved, wide_of}
use Rattle.steps.specs.States.{header_written, Housed}
use Rattle.steps.specs.Room.{Room}
use Rattle.merge.specs.Working.{Works, room_high}
use Rattle.merge.specs.Turns.{slots_next, slots_end, slots_map}
use Rattle.merge.specs.Message.{heads_in, entry_in, entries_in}

abbrev pub head_stamp : List ℕ → ℕ → ℕ
head_stamp l i = (head_in l i).stamp

abbrev pub entry_stamp : List ℕ → ℕ → ℕ
entry_stamp l i = (entry_in l i).stamp

-- ---- turn by turn

pub high_start : (g : ℕ → ℕ) (n c : ℕ) → highest c (slots_from g 0 (n - 0)) ≡ highest c (slots_from g 0 n)
high_start g n c = let less : n - 0 ≡ n = omega arith in ap (λ (k : ℕ). highest c (slots_from g 0 k)) less

pub high_next : (g : ℕ → ℕ) (n i c s d : ℕ) → i < n → s ≡ g i → d ≡ max c (clock_of s) →
    highest d (slots_from g (i + 1) (n - (i + 1))) ≡ highest c (slots_from g i (n - i))
unfolding highest
high_next g n i c s d h e f =
    ap (λ (z : ℕ). highest z (slots_from g (i + 1) (n - (i + 1)))) (f ∙ ap (λ (z : ℕ). max c (clock_of z)) e)
    ∙ ap (highest c) (sym (slots_next g n i h))

pub high_end : (g : ℕ → ℕ) (n i c : ℕ) → n ≤ i → highest c (slots_from g i (n - i)) ≡ c
unfolding highest
high_end g n i c h = ap (highest c) (slots_end g n i h)

-- as a fold over the numbers of a range comes to it
high_range : (g : ℕ → ℕ) (s n c : ℕ) → fold (λ c i. max c (clock_of (g i))) c (range_with_len s n) ≡ highest c (slots_from g s n)
unfolding highest slots_from
high_range g s zero c = refl
high_range g s (suc n) c =
    ap (λ (j : ℕ). fold (λ c i. max c (clock_of (g i))) (max c (clock_of (g s))) (range_with_len j n)) {x = s + 1} {y = suc s} (omega arith)
    ∙ high_range g (suc s) n (max c (clock_of (g s)))

pub high_ran : {F : Type 0} {p : Mut F (ℕ × (ℕ × Unit {0})) ℕ} (g : ℕ → ℕ) (s : Range ℕ) (f : F) (c r n : ℕ) →
    (xs : List ℕ) × (q : F) × Drains nat_range_steps s xs
    × FoldsTo {P = F × ℕ} (λ a x b. Called p a.0 (a.1, (x, tt)) b.1 b.0) (f, c) xs (q, r) →
    s.end - s.start ≡ n →
    ((a x b : ℕ) (q : F) → Called p f (a, (x, tt)) b q → (q ≡ f) × (b ≡ max a (clock_of (g x)))) →
    r ≡ highest c (slots_from g s.start n)
high_ran {p = p} g s f c r n ran e is =
    fold_from_yields_List p (λ c i. max c (clock_of (g i))) c r ran (YieldsList-from_range s.start s.end n refl e) is
    ∙ high_range g s.start n c

-- ---- all clocks of the message

high_append : (ss rs : List ℕ) (c : ℕ) → highest c (ss ++ rs) ≡ highest (highest c ss) rs
unfolding highest
high_append [] rs c = refl
high_append (s ∷ ss) rs c = high_append ss rs (max c (clock_of s))

heads_stamps : (l : List ℕ) → 1 ≤ heads_in l →
    map (λ (h : Head). h.stamp) ((message_of l).first ∷ (message_of l).above) ≡ slots_from (head_stamp l) 0 (heads_in l)
unfolding message_of
heads_stamps l one =
    let less : heads_in l - 0 ≡ heads_in l = omega arith in
    ap (map (λ (h : Head). h.stamp))
    (sym (slots_next (head_in l) (heads_in l) 0 one) ∙ ap (slots_from (head_in l) 0) less)
    ∙ slots_map (λ (h : Head). h.stamp) (head_in l) 0 (heads_in l)

entries_stamps : (l : List ℕ) →
    map (λ (e : Entry). e.stamp) (message_of l).entries ≡ slots_from (entry_stamp l) 0 (entries_in l)
unfolding message_of
entries_stamps l = slots_map (λ (e : Entry). e.stamp) (entry_in l) 0 (entries_in l)

pub high_all : (l : List ℕ) (c d : ℕ) → 1 ≤ heads_in l → d ≡ highest c (slots_from (head_stamp l) 0 (heads_in l)) →
    highest d (slots_from (entry_stamp l) 0 (entries_in l)) ≡ highest c (stamps_of (message_of l))
high_all l c d one e =
    ap (λ (z : ℕ). highest z (slots_from (entry_stamp l) 0 (entries_in l))) e
    ∙ sym (high_append (slots_from (head_stamp l) 0 (heads_in l)) (slots_from (entry_stamp l) 0 (entries_in l)) c)
    ∙ ap (λ (ss : List ℕ). highest c (ss ++ slots_from (entry_stamp l) 0 (entries_in l))) (sym (heads_stamps l one))
    ∙ ap (λ (ss : List ℕ). highest c (map (λ (h : Head). h.stamp) ((message_of l).first ∷ (message_of l).above) ++ ss))
    (sym (entries_stamps l))

-- the header that is written
pub clocks_taken : (m : List ℕ) {l : List ℕ} → Stands l → Bytes l → (h : TableHeader) (c : ℕ) →
    h ≡ header_of (table_of l) →
    c ≡ highest h.highest (stamps_of (message_of m)) → c < 2 ^ 64 →
    Is (splice l 0 (table_header_bytes (record { own = h.own; nodes = h.nodes; next = h.next; highest = c })))
    (step_a (message_of m) (table_of l))
unfolding step_a
clocks_taken m {l} k b h c e f fits =
    let t : Table = table_of l in
    let w = wide_of l b k.size in
    let d = highest t.highest (stamps_of (message_of m)) in
    let same : c ≡ d = f ∙ ap (λ (z : TableHeader). highest z.highest (stamps_of (message_of m))) e in
    moved (header_written k b (with_highest t d) refl refl (record { next = w.header.next; highest = omega arith }))
    (ap (λ (z : TableHeader). splice l 0
    (table_header_bytes (record { own = z.own; nodes = z.nodes; next = z.next; highest = c }))) e
    ∙ ap (λ (z : ℕ). splice l 0
    (table_header_bytes (record { own = t.own; nodes = t.nodes; next = t.next; highest = z }))) same)

-- nothing else is touched
pub clocks_works : (m : List ℕ) {l l' : List ℕ} → Works l → Is l' (step_a (message_of m) (table_of l)) → Works l'
unfolding step_a
clocks_works m {l} {l'} w k =
    record {
      stands = stands k;
      room = subst Room (sym k.table) (room_high (table_of l) _ w.room);
      housed = subst Housed (sym k.table) w.housed;
    }
