-- Steps (a) to (f) of a receive, one after the other, on the bytes of a sound table and of a message that is well formed
-- and not at odds with it. Assumes nothing.
use Rattle.std.specs.Prelude.{◌≡◌, refl, ◌⊎◌, Bool, true, false, not, List, [], ◌∷◌, map, ℕ, ◌^◌, ◌≤◌, ◌<◌, max, eqb, ltb, leb, length}
use Rattle.std.proofs.Common.{ap, sym, subst, ◌∙◌, inl, inr, arith, eqb-true, leb-true, ltb-true}
use Rattle.std.proofs.Math.Option.{some}
use mathlib.Core.List.Memᴰ
use Rattle.codec.specs.Bytes.{chunk, Bytes, marked_at, zero_at}
use Rattle.codec.specs.Lists.{and_true}
use Rattle.numbers.specs.Nodes.{is_node, is_within}
use Rattle.numbers.specs.Ids.{clock_of, is_stamp, is_id, is_version}
use Rattle.numbers.specs.Laws.{node_small, size_most}
use Rattle.records.specs.declared.head.Head.{Head}
use Rattle.records.specs.declared.entry.Entry.{Entry}
use Rattle.records.specs.Heads.{head_fits}
use Rattle.records.specs.Entries.{entry_fits}
use Rattle.records.specs.Ordinary.{ordinary_is, root_fits}
use Rattle.messages.specs.PushHeaders.{push_mark, push_of, push_fits, push_in_range}
use Rattle.document.specs.Tables.{Table, find, table_of}
use Rattle.document.specs.Sound.{sound_bytes}
use Rattle.document.specs.Steps.{join_all, too_many}
use Rattle.document.specs.Messages.{Push, entry_spot, message_of, message_in_range, read_push}
use Rattle.document.specs.Receive.{highest, stamps_of, step_a, taken, joins, step_c, step_f, odd}
use Rattle.document.specs.ReadingMessages.{read_some}
use Rattle.document.specs.Reading.{sound_length}
use Rattle.views.specs.Lists.{In, same?}
use Rattle.views.specs.Puts.{head_found}
use Rattle.views.specs.Joins.{join_all_same}
use Rattle.views.specs.Sounds.{Sound, Shown, sound_table}
use Rattle.kept.specs.Firm.{Base, base_of}
use Rattle.kept.specs.MessageFacts.{MessageSays, TableAgrees, message_says, table_agrees}
use Rattle.kept.specs.ReceiveAbove.{steady_B}
use Rattle.kept.specs.ReceiveFirst.{after_C}
use Rattle.kept.specs.ReceiveJoins.{fine_joins, after_E, shown_E}
use Rattle.steps.specs.Standing.{sound_stands}
use Rattle.steps.specs.Room.{Room, sound_room}
use Rattle.steps.specs.Grown.{Grown}
use Rattle.steps.specs.States.{Held, Made, many_all, Housed, made_past}
use Rattle.merge.specs.Working.{Works, Owns, AllHeld, made_works, made_full, made_is, made_as}
use Rattle.merge.specs.Message.{Sized, heads_in, entries_in}
use Rattle.merge.specs.Keeping.{stepped, past_mends, grown_stepped}
use Rattle.merge.specs.Live.{base_housed}

-- ---- what the call has seen to before

pub record Merges (old l m : List ℕ) (now : ℕ) : Type 0 where
  pub copy : l ≡ old
  pub sound : sound_bytes old ≡ true
  pub push : read_push (table_of old).nodes m ≡ some (message_of m)
  pub agrees : odd (message_of m) (table_of old) ≡ false
  pub early : now < 2 ^ 40

-- ---- a message in range

sized : (n : ℕ) (m : List ℕ) → message_in_range n m ≡ true → Sized m
unfolding message_in_range push_in_range push_fits
sized n m e =
    let least = and_true (leb 16 (length m)) _ e in
    let header = and_true (push_in_range n (chunk m 0 16)) _ least.1 in
    let apart = and_true (not (eqb (push_of (chunk m 0 16)).sender (push_of (chunk m 0 16)).addressee)) _
    header.1 in
    let size = and_true (eqb (length m) (entry_spot (heads_in m) (entries_in m))) _ apart.1 in
    let marked = and_true (marked_at (chunk m 0 16) 0 push_mark) _ header.0 in
    let blank = and_true (zero_at (chunk m 0 16) 10 6) _ marked.1 in
    let sender = and_true (is_node n (push_of (chunk m 0 16)).sender) _ blank.1 in
    let addressee = and_true (is_node n (push_of (chunk m 0 16)).addressee) _ sender.1 in
    let version = and_true (is_version (push_of (chunk m 0 16)).version) _ addressee.1 in
    let heads = and_true (is_within 1 (heads_in m) 16) _ version.1 in
    record {
      size = eqb-true (length m) _ size.0;
      one = leb-true 1 (heads_in m) (and_true (leb 1 (heads_in m)) _ heads.0).0;
    }

-- its clocks are before their end
clock_early : (n s : ℕ) → is_stamp n s ≡ true → clock_of s < 2 ^ 40
unfolding is_stamp
clock_early n s e =
    ltb-true (clock_of s) (2 ^ 40) (and_true (ltb (clock_of s) (2 ^ 40)) _ (and_true (leb 1 (clock_of s)) _ e).1).0

head_early : (n : ℕ) (h : Head) → head_fits n h ≡ true → clock_of h.stamp < 2 ^ 40
head_early n h e = go (same? h.id 0)
  where
    go : (h.id ≡ 0) ⊎ (h.id ≡ 0 → ⊥) → clock_of h.stamp < 2 ^ 40
    go (inl z) = subst (λ (x : Head). clock_of x.stamp < 2 ^ 40) (sym (root_fits n h e z)) (omega arith)
    go (inr z) = clock_early n h.stamp (ordinary_is n h z e).stamp

entry_early : (n : ℕ) (e : Entry) → entry_fits n e ≡ true → clock_of e.stamp < 2 ^ 40
unfolding entry_fits
entry_early n e k =
    let live = and_true (leb e.live 1) _ k in
    let child = and_true (is_id n e.child) _ live.1 in
    clock_early n e.stamp (and_true (is_stamp n e.stamp) _ child.1).0

highest_early : (ss : List ℕ) (c : ℕ) → c < 2 ^ 40 → ((s : ℕ) → In s ss → clock_of s < 2 ^ 40) → highest c ss < 2 ^ 40
unfolding highest
highest_early [] c h f = h
highest_early (s ∷ ss) c h f =
    highest_early ss (max c (clock_of s)) (omega (arith, f s (Memᴰ.head refl))) (λ x i. f x (Memᴰ.tail i))

stamps_early : (n : ℕ) (p : Push) → MessageSays n p → (s : ℕ) → In s (stamps_of p) → clock_of s < 2 ^ 40
stamps_early n p k s i = go (Memᴰ.append_cases (map (λ (h : Head). h.stamp) (p.first ∷ p.above)) i)
  where
    is : (x : ℕ) → x ≡ s → clock_of x < 2 ^ 40 → clock_of s < 2 ^ 40
    is x q h = subst (λ (y : ℕ). clock_of y < 2 ^ 40) q h

    head : (h : Head) → (h ≡ p.first) ⊎ In h p.above → clock_of h.stamp < 2 ^ 40
    head h (inl q) =
        subst (λ (x : Head). clock_of x.stamp < 2 ^ 40) (sym q) (head_early n p.first k.first.fits)
    head h (inr j) = head_early n h (k.heads h j).fits

    go : In s (map (λ (h : Head). h.stamp) (p.first ∷ p.above)) ⊎ In s (map (λ (e : Entry). e.stamp) p.entries) →
        clock_of s < 2 ^ 40
    go (inl j) =
        let r = Memᴰ.of_map (λ (h : Head). h.stamp) (p.first ∷ p.above) j in
        is r.0.stamp r.2 (head r.0 (Memᴰ.cases_cons r.1))
    go (inr j) =
        let r = Memᴰ.of_map (λ (e : Entry). e.stamp) p.entries j in
        is r.0.stamp r.2 (entry_early n r.0 (k.entries r.0 r.1).fits)

-- ---- the steps, one after the other

module _ {old l m : List ℕ} {now : ℕ} (k : Merges old l m now) (bytes : Bytes l) where
  abbrev t : Table
  t = table_of old

  abbrev p : Push
  p = message_of m

  whole : Sound t
  whole = sound_table old k.sound

  base : Base t
  base = base_of t whole

  own_node : (1 ≤ t.own) × (t.own ≤ 8)
  own_node = node_small t.nodes t.own whole.size whole.node

  few : t.nodes ≤ 8
  few = size_most t.nodes whole.size

  says : MessageSays t.nodes p
  says = message_says t.nodes m p few k.push

  agree : TableAgrees p t
  agree = table_agrees p t k.agrees

  same : table_of l ≡ t
  same = ap table_of k.copy

  pub merge_works : Works l
  merge_works =
      record {
        stands = sound_stands l (ap sound_bytes k.copy ∙ k.sound) bytes;
        room = subst Room (sym same) (sound_room t whole);
        housed = subst Housed (sym same) (base_housed t base);
      }

  pub merge_own : (table_of l).own ≤ 8
  merge_own = subst (λ (u : Table). u.own ≤ 8) (sym same) own_node.1

  pub merge_owns : Owns l
  merge_owns = record { works = merge_works; own = merge_own }

  pub merge_sized : Sized m
  unfolding read_push
  merge_sized = sized t.nodes m (and_true (message_in_range t.nodes m) _ (read_some _ k.push).0).0

  pub merge_long : 13344 ≤ length old
  merge_long = sound_length old k.sound

  abbrev C : Table
  C = taken p t

  abbrev E : Table
  E = join_all (joins p t) (taken p t)

  abbrev done : Table
  done = stepped now p t

  past_E : too_many E ≡ true → too_many done ≡ true
  unfolding stepped
  past_E e = past_mends now E.replicas E e

  -- (a) to (c)
  module _ {r : Bool} {l1 : List ℕ} (a : Made r l1 (taken (message_of m) (table_of l))) where
    heads : Made r l1 C
    heads = made_is (ap (taken p) same) a

    pub heads_full : r ≡ false → {l' : List ℕ} → Made false l' (stepped now (message_of m) (table_of old))
    heads_full e = made_full (past_E (many_all (joins p t) C (made_past heads e)))

    module _ (e : r ≡ true) where
      first : Made true l1 C
      first = made_as e heads

      is_C : table_of l1 ≡ C
      is_C = (first.bytes refl).table

      pub heads_works : Works l1
      heads_works = made_works first (base_housed C (after_C p t base says agree))

      pub heads_held : AllHeld (joins (message_of m) (table_of old)) (table_of l1)
      heads_held x i =
          let q = (fine_joins p t base says agree x i).parent in
          let f = head_found (find x.directory C.replicas) q.head q.held in
          subst (λ (u : Table). Held u x.directory) (sym is_C) (f.0, f.1)

      -- (d) and (e)
      module _ {s : Bool} {l2 : List ℕ}
          (b : Made s l2 (join_all (joins (message_of m) (table_of old)) (table_of l1))) where
        entries : Made s l2 E
        entries = made_is (ap (join_all (joins p t)) is_C) b

        pub entries_full : s ≡ false → {l' : List ℕ} → Made false l' (stepped now (message_of m) (table_of old))
        entries_full f = made_full (past_E (made_past entries f))

        module _ (f : s ≡ true) where
          second : Made true l2 E
          second = made_as f entries

          is_E : table_of l2 ≡ E
          is_E = (second.bytes refl).table

          base_E : Base E
          base_E = after_E p t base says agree

          highest_E : E.highest ≤ 2 ^ 40
          unfolding taken step_c step_a
          highest_E =
              let c = highest_early (stamps_of p) t.highest whole.highest (stamps_early t.nodes p says) in
              omega (arith, c, (join_all_same (joins p t) C).highest, (steady_B p.above (step_a p t)).highest)

          pub entries_works : Works l2
          entries_works = made_works second (base_housed E base_E)

          pub entries_base : Base (table_of l2)
          entries_base = subst Base (sym is_E) base_E

          pub entries_shown : Shown (table_of l2)
          entries_shown = subst Shown (sym is_E) (shown_E p t base says agree whole.shown)

          pub entries_clock : (table_of l2).highest ≤ 2 ^ 40
          entries_clock = subst (λ (u : Table). u.highest ≤ 2 ^ 40) (sym is_E) highest_E

          -- (f)
          module _ {z : Bool} {l3 : List ℕ} (c : Made z l3 (step_f now (table_of l2).replicas (table_of l2))) where
            pub merge_made : Made z l3 (stepped now (message_of m) (table_of old))
            unfolding stepped
            merge_made = made_is (ap (λ (u : Table). step_f now u.replicas u) is_E) c

            pub merge_grown : z ≡ true → Grown (table_of old) (table_of l3)
            merge_grown g = subst (Grown t) (sym (merge_made.bytes g).table) (grown_stepped now p t)
