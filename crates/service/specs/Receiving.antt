-- Receive: the refusals, and what is done with the copy: its table, and the acknowledgement in the output.
-- Assumes nothing.
use Rattle.std.specs.Prelude.{◌≡◌, Bool, cond, ℕ, ◌≤◌, ◌<◌, ltb, length, Err}
use Rattle.std.proofs.Math.Path.{refl, ap, sym}
use Rattle.std.proofs.Common.{subst, ◌∙◌, arith, lt-ltb, le-ltb}
use Rattle.std.proofs.Math.Bool.{true, false, not}
use Rattle.std.proofs.Math.Option.{Option, some, none}
use mathlib.Core.List.{List, [], ◌∷◌}
use Rattle.std.proofs.Math.Dec.{eqb}
use Rattle.codec.specs.Bytes.{splice, u8_at, u32_at}
use Rattle.messages.specs.declared.push_header.PushHeader.{PushHeader}
use Rattle.messages.specs.Acknowledgements.{ack_bytes}
use Rattle.messages.specs.PushHeaders.{push_at, push_fields}
use Rattle.records.specs.declared.head.Head.{Head}
use Rattle.records.specs.Heads.{head_fields}
use Rattle.document.specs.Tables.{Table, table_of}
use Rattle.document.specs.Sound.{sound_bytes}
use Rattle.document.specs.Steps.{too_many, past_end}
use Rattle.document.specs.Messages.{Push, read_push, message_of}
use Rattle.document.specs.Receive.{received, odd, ack_for}
use Rattle.document.specs.Outcomes.{Outcome, refused, done, judged, number_of, value_of, table_after, output_after, all_passed}
use Rattle.document.specs.Calls.{when, is_now, if_push, take_in, receive_in, receive}
use Rattle.document.specs.Reading.{own_at}
use Rattle.pushes.specs.Judging.{is_push}
use Rattle.pushes.specs.Reading.{read_push_law}
use Rattle.judge.specs.Judging.{counted}
use Rattle.steps.specs.Standing.{stands}
use Rattle.steps.specs.Grown.{Grown}
use Rattle.steps.specs.States.{Made, made_past, made_within}
use Rattle.merge.specs.Keeping.{stepped, received_stepped, many_stepped}
use Rattle.merge.specs.Merging.{Merges}
use Rattle.answers.specs.declared.refusal.Refusal.{Refusal}
use Rattle.answers.specs.Refusals.{code}
use Rattle.answers.specs.Answers.{Answer, Answered, number, answers_refused, answers_instead, is_sound}
use Rattle.changes.specs.Finishing.{Ends, ended, skip, stop}
use Rattle.changes.specs.Killing.{not_now, is_now_law}

-- ---- the copy: 16, 17, and the table

abbrev pub merged_in : ℕ → Table → Push → Outcome
merged_in now t p =
    judged (when 16 (too_many (received now p t)) ∷ when 17 (past_end (received now p t)) ∷ []) (done 16 (received now p t) [])

-- what is merged into a copy
pub merging : {l c m : List ℕ} {now : ℕ} → Merges l l m now → c ≡ l → Merges l c m now
merging k e = record { copy = e; sound = k.sound; push = k.push; agrees = k.agrees; early = k.early }

module _ {l c m : List ℕ} {now : ℕ} (k : Merges l c m now) {b : Bool} {c' : List ℕ}
    (w : Made b c' (stepped now (message_of m) (table_of l))) where
  abbrev p : Push
  p = message_of m

  abbrev t : Table
  t = table_of l

  pub merge_full : b ≡ false → merged_in now t p ≡ refused 16
  merge_full e = stop 16 (too_many (received now p t)) _ _ (many_stepped now p t ∙ made_past w e)

  pub merge_ends : b ≡ true → (b ≡ true → Grown t (table_of c')) → Ends l c'
  merge_ends e g = record { sound = k.sound; copy = stands (w.bytes e); grown = g e }

  pub merge_last : b ≡ true → ended 16 t (table_of c') ≡ merged_in now t p
  merge_last e =
      ap (ended 16 t) (w.bytes e).table
      ∙ ap (λ (u : Table). judged (when 17 (past_end u) ∷ []) (done 16 u [])) (sym (received_stepped now p t))
      ∙ sym (skip 16 (too_many (received now p t)) _ _ (many_stepped now p t ∙ made_within w e))

-- ---- with the acknowledgement

-- an outcome with what it writes
abbrev pub writing : List ℕ → Outcome → Outcome
writing w (refused k) = refused k
writing w (done v t x) = done v t w

abbrev pub acked : ℕ → Table → Push → Outcome
acked now t p = writing (ack_bytes (ack_for p)) (merged_in now t p)

number_writing : (w : List ℕ) (o : Outcome) → number_of (writing w o) ≡ number_of o
number_writing w (refused k) = refl
number_writing w (done v t x) = refl

value_writing : (w : List ℕ) (o : Outcome) → value_of (writing w o) ≡ value_of o
value_writing w (refused k) = refl
value_writing w (done v t x) = refl

answer_writing : (w : List ℕ) (o : Outcome) (r : Answer) → Answered o r → Answered (writing w o) r
answer_writing w o r q =
    record { number = q.number ∙ sym (number_writing w o); value = q.value ∙ sym (value_writing w o) }

table_writing : (w l : List ℕ) (o : Outcome) → table_after (writing w o) l ≡ table_after o l
table_writing w l (refused k) = refl
table_writing w l (done v t x) = refl

-- what is refused writes nothing, what is done writes it
module _ (now : ℕ) (t : Table) (p : Push) (out : List ℕ) where
  judged_both : (a b : Bool) (u : Table) → (w : List ℕ) →
      judged (when 16 a ∷ when 17 b ∷ []) (done 16 u w) ≡ writing w (judged (when 16 a ∷ when 17 b ∷ []) (done 16 u []))
  unfolding judged
  judged_both true b u w = refl
  judged_both false true u w = refl
  judged_both false false u w = refl

  none_written : (number_of (merged_in now t p) ≡ 0 → ⊥) → output_after (acked now t p) out ≡ out
  unfolding judged
  none_written n = go (too_many (received now p t)) (past_end (received now p t)) n
    where
      go : (a b : Bool) → (number_of (judged (when 16 a ∷ when 17 b ∷ []) (done 16 (received now p t) [])) ≡ 0 → ⊥) →
          output_after (writing (ack_bytes (ack_for p)) (judged (when 16 a ∷ when 17 b ∷ []) (done 16 (received now p t) []))) out ≡ out
      go true b n = refl
      go false true n = refl
      go false false n = absurd (n refl)

  all_written : number_of (merged_in now t p) ≡ 0 → output_after (acked now t p) out ≡ splice out 0 (ack_bytes (ack_for p))
  unfolding judged
  all_written e = go (too_many (received now p t)) (past_end (received now p t)) e
    where
      go : (a b : Bool) → number_of (judged (when 16 a ∷ when 17 b ∷ []) (done 16 (received now p t) [])) ≡ 0 →
          output_after (writing (ack_bytes (ack_for p)) (judged (when 16 a ∷ when 17 b ∷ []) (done 16 (received now p t) []))) out
          ≡ splice out 0 (ack_bytes (ack_for p))
      go true b e = absurd (omega (arith, e))
      go false true e = absurd (omega (arith, e))
      go false false e = refl

-- answer, table and output
pub record Received (o : Outcome) (r : Answer) (l l' out out' : List ℕ) : Type 0 where
  pub answer : Answered o r
  pub table : l' ≡ table_after o l
  pub output : out' ≡ output_after o out

pub refuses_all : (r : Refusal) {o : Outcome} (l out : List ℕ) → o ≡ refused (code r) → Received o (Err r) l l out out
refuses_all r l out e =
    record {
      answer = answers_refused r e;
      table = ap (λ (o : Outcome). table_after o l) (sym e);
      output = ap (λ (o : Outcome). output_after o out) (sym e);
    }

module _ (now : ℕ) (t : Table) (p : Push) where
  taken_refused : {r : Answer} (l out : List ℕ) {l' : List ℕ} → Answered (merged_in now t p) r × (l' ≡ table_after (merged_in now t p) l) →
      (number r ≡ 0 → ⊥) → Received (acked now t p) r l l' out out
  taken_refused {r} l out q n =
      record {
        answer = answer_writing (ack_bytes (ack_for p)) (merged_in now t p) r q.0;
        table = q.1 ∙ sym (table_writing (ack_bytes (ack_for p)) l (merged_in now t p));
        output = sym (none_written now t p out (λ e. n (q.0.number ∙ e)));
      }

  taken_done : {r : Answer} (l out : List ℕ) {l' out' : List ℕ} → Answered (merged_in now t p) r × (l' ≡ table_after (merged_in now t p) l) →
      number r ≡ 0 → out' ≡ splice out 0 (ack_bytes (ack_for p)) → Received (acked now t p) r l l' out out'
  taken_done {r} l out q n e =
      record {
        answer = answer_writing (ack_bytes (ack_for p)) (merged_in now t p) r q.0;
        table = q.1 ∙ sym (table_writing (ack_bytes (ack_for p)) l (merged_in now t p));
        output = e ∙ sym (all_written now t p out (sym q.0.number ∙ n));
      }

-- ---- 5 and 13

module _ (now : ℕ) (t : Table) (p : Push) where
  take_5 : eqb p.addressee t.own ≡ false → take_in now t p ≡ refused 5
  unfolding take_in
  take_5 e = stop 5 (not (eqb p.addressee t.own)) _ _ (ap not e)

  take_13 : eqb p.addressee t.own ≡ true → odd p t ≡ true → take_in now t p ≡ refused 13
  unfolding take_in
  take_13 e f = skip 5 (not (eqb p.addressee t.own)) _ _ (ap not e) ∙ stop 13 (odd p t) _ _ f

  take_acked : eqb p.addressee t.own ≡ true → odd p t ≡ false → take_in now t p ≡ acked now t p
  unfolding take_in
  take_acked e f =
      skip 5 (not (eqb p.addressee t.own)) _ _ (ap not e) ∙ skip 13 (odd p t) _ _ f
      ∙ judged_both now t p [] (too_many (received now p t)) (past_end (received now p t)) (received now p t) (ack_bytes (ack_for p))

-- ---- as the code has it

pub record Receives (l : List ℕ) (now : ℕ) (m : List ℕ) (room : ℕ) : Type 0 where
  pub sound : sound_bytes l ≡ true
  pub early : now ≤ 1099511627775
  pub fits : 16 ≤ room
  pub push : is_push (table_of l).nodes m ≡ true

module _ {l : List ℕ} {now : ℕ} {m : List ℕ} {space : ℕ} (k : Receives l now m space) where
  pub is_read : read_push (table_of l).nodes m ≡ some (message_of m)
  is_read = read_push_law (table_of l).nodes m ∙ ap (λ (b : Bool). cond b (some (message_of m)) none) k.push

  -- it has one head at least
  pub long_enough : 56 ≤ length m
  long_enough =
      let c = counted (table_of l).nodes m (push_at m 0) (message_of m) is_read refl in
      omega (arith, c.some_heads, c.size)

  -- whom it is for
  pub addressed : {a o : ℕ} → a ≡ u8_at m 3 → o ≡ u8_at l 2 → (b : Bool) → eqb a o ≡ b → eqb (message_of m).addressee (table_of l).own ≡ b
  unfolding message_of
  addressed {a} {o} e f b q =
      ap (λ (z : ℕ). eqb z (table_of l).own) (ap (λ (h : PushHeader). h.addressee) (push_fields m 0) ∙ sym e)
      ∙ ap (eqb a) (sym (f ∙ own_at l)) ∙ q

  -- "5", "13"
  pub other_node : eqb (message_of m).addressee (table_of l).own ≡ false → take_in now (table_of l) (message_of m) ≡ refused 5
  other_node e = take_5 now (table_of l) (message_of m) e

  module _ (mine : eqb (message_of m).addressee (table_of l).own ≡ true) where
    pub at_odds_law : odd (message_of m) (table_of l) ≡ true → take_in now (table_of l) (message_of m) ≡ refused 13
    at_odds_law e = take_13 now (table_of l) (message_of m) mine e

    module _ (even : odd (message_of m) (table_of l) ≡ false) where
      pub merges : Merges l l m now
      merges = record { copy = refl; sound = k.sound; push = is_read; agrees = even; early = omega (arith, k.early) }

      -- the copy was refused, or it came back and the acknowledgement is written
      pub take_refused : {r : Answer} (out : List ℕ) {l' : List ℕ} →
          Answered (merged_in now (table_of l) (message_of m)) r × (l' ≡ table_after (merged_in now (table_of l) (message_of m)) l) →
          (number r ≡ 0 → ⊥) → Received (take_in now (table_of l) (message_of m)) r l l' out out
      take_refused {r} out {l'} q n =
          subst (λ (o : Outcome). Received o r l l' out out) (sym (take_acked now (table_of l) (message_of m) mine even))
          (taken_refused now (table_of l) (message_of m) l out q n)

      pub take_done : {r : Answer} (out : List ℕ) {l' out' : List ℕ} →
          Answered (merged_in now (table_of l) (message_of m)) r × (l' ≡ table_after (merged_in now (table_of l) (message_of m)) l) →
          number r ≡ 0 → out' ≡ splice out 0 (ack_bytes (ack_for (message_of m))) →
          Received (take_in now (table_of l) (message_of m)) r l l' out out'
      take_done {r} out {l'} {out'} q n e =
          subst (λ (o : Outcome). Received o r l l' out out') (sym (take_acked now (table_of l) (message_of m) mine even))
          (taken_done now (table_of l) (message_of m) l out q n e)

-- the acknowledgement, as the code makes it
pub ack_is : (m : List ℕ) {h : PushHeader} {i : ℕ} → h ≡ push_at m 0 → i ≡ u32_at m 20 →
    record { sender = h.addressee; addressee = h.sender; version = h.version; id = i } ≡ ack_for (message_of m)
unfolding message_of
ack_is m {h} {i} e f =
    ap (λ (z : PushHeader). record { sender = z.addressee; addressee = z.sender; version = z.version; id = i }) e
    ∙ ap (λ (z : ℕ). record { sender = (push_at m 0).addressee; addressee = (push_at m 0).sender; version = (push_at m 0).version; id = z })
    (f ∙ sym (ap (λ (h : Head). h.id) (head_fields m 16)))

-- ---- 2, 3, 4

module _ (now : ℕ) (m : List ℕ) (space : ℕ) (t : Table) where
  receive_2 : 1099511627775 < now → receive_in now m space t ≡ refused 2
  unfolding receive_in
  receive_2 h = stop 2 (not (is_now now)) _ _ (not_now now h)

  receive_3 : now ≤ 1099511627775 → space < 16 → receive_in now m space t ≡ refused 3
  unfolding receive_in
  receive_3 e h = skip 2 (not (is_now now)) _ _ (is_now_law now e) ∙ stop 3 (ltb space 16) _ _ (lt-ltb space 16 h)

  receive_rest : now ≤ 1099511627775 → 16 ≤ space → receive_in now m space t ≡ if_push (read_push t.nodes m) (take_in now t)
  unfolding receive_in
  receive_rest e h =
      skip 2 (not (is_now now)) _ _ (is_now_law now e) ∙ skip 3 (ltb space 16) _ _ (le-ltb space 16 h)
      ∙ all_passed (if_push (read_push t.nodes m) (take_in now t))

module _ (l : List ℕ) (now : ℕ) (m : List ℕ) (space : ℕ) (s : sound_bytes l ≡ true) where
  here : receive l now m space ≡ receive_in now m space (table_of l)
  here = is_sound l (receive_in now m space) s

  pub call_2 : 1099511627775 < now → receive l now m space ≡ refused 2
  call_2 h = here ∙ receive_2 now m space (table_of l) h

  pub call_3 : now ≤ 1099511627775 → space < 16 → receive l now m space ≡ refused 3
  call_3 e h = here ∙ receive_3 now m space (table_of l) e h

  pub call_4 : now ≤ 1099511627775 → 16 ≤ space → is_push (table_of l).nodes m ≡ false → receive l now m space ≡ refused 4
  call_4 e h q =
      here ∙ receive_rest now m space (table_of l) e h
      ∙ ap (λ (o : Option Push). if_push o (take_in now (table_of l)))
      (read_push_law (table_of l).nodes m ∙ ap (λ (b : Bool). cond b (some (message_of m)) none) q)

  pub call_takes : (k : Receives l now m space) → receive l now m space ≡ take_in now (table_of l) (message_of m)
  call_takes k =
      here ∙ receive_rest now m space (table_of l) k.early k.fits
      ∙ ap (λ (o : Option Push). if_push o (take_in now (table_of l))) (is_read k)

-- the record that the code needs
pub receives : (l : List ℕ) (now : ℕ) (m : List ℕ) (space : ℕ) → sound_bytes l ≡ true → now ≤ 1099511627775 → 16 ≤ space →
    is_push (table_of l).nodes m ≡ true → Receives l now m space
receives l now m space s e f p = record { sound = s; early = e; fits = f; push = p }

-- the three parts of the call's contract
pub refused_parts : (r : Refusal) {o : Outcome} (l out : List ℕ) → o ≡ refused (code r) →
    Answered o (Err r) × (l ≡ table_after o l) × (out ≡ output_after o out)
refused_parts r l out e =
    (answers_refused r e, ap (λ (o : Outcome). table_after o l) (sym e), ap (λ (o : Outcome). output_after o out) (sym e))

pub received_parts : {o q : Outcome} {r : Answer} (l out : List ℕ) {l' out' : List ℕ} → o ≡ q → Received q r l l' out out' →
    Answered o r × (l' ≡ table_after o l) × (out' ≡ output_after o out)
received_parts l out e k = (
  answers_instead (sym e) k.answer,
  k.table ∙ ap (λ (o : Outcome). table_after o l) (sym e),
  k.output ∙ ap (λ (o : Outcome). output_after o out) (sym e),
)
