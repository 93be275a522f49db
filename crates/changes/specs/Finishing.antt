-- The end of a call that works on a copy: what it answers from the table before and the copy. Assumes nothing.
use Rattle.std.specs.Prelude.{◌≡◌, refl, Bool, true, false, ◌||◌, not, cond, List, [], ◌∷◌, ℕ, ◌^◌, ◌≤◌, ◌<◌, ltb, leb, length}
use Rattle.std.proofs.Common.{ap, sym, subst, ◌∙◌, arith, lt-ltb, le-ltb, le-leb}
use Rattle.std.proofs.lemmas.Bool.{lt-leb}
use Rattle.codec.specs.Bytes.{splice, Bytes}
use Rattle.names.specs.Names.{splice_whole}
use Rattle.records.specs.declared.head.Head.{Head}
use Rattle.document.specs.Tables.{Table, head_of, table_of, table_bytes}
use Rattle.document.specs.Sound.{sound_bytes, ids_unique}
use Rattle.document.specs.Steps.{put, set_by, settle, too_many, past_end}
use Rattle.document.specs.Outcomes.{Outcome, refused, done, Refusal, judged, all_passed}
use Rattle.document.specs.Calls.{when}
use Rattle.views.specs.Settles.{settle_highest, settle_next}
use Rattle.views.specs.Joins.{join_all_law}
use Rattle.views.specs.Sounds.{sound_table}
use Rattle.steps.specs.Standing.{Is, Stands, stands, sound_stands, never}
use Rattle.steps.specs.Grown.{Grown, grown_put, grown_joined}
use Rattle.steps.specs.Room.{many_settle}
use Rattle.steps.specs.Settling.{Settles, all_numbered}
use Rattle.steps.specs.States.{Ready, Made, stated, made_past, made_within}

-- ---- refusals, one by one

pub skip : (k : ℕ) (b : Bool) (rs : List Refusal) (o : Outcome) → b ≡ false → judged (when k b ∷ rs) o ≡ judged rs o
unfolding judged
skip k b rs o e = ap (λ (z : Bool). cond z (refused k) (judged rs o)) e

pub stop : (k : ℕ) (b : Bool) (rs : List Refusal) (o : Outcome) → b ≡ true → judged (when k b ∷ rs) o ≡ refused k
unfolding judged
stop k b rs o e = ap (λ (z : Bool). cond z (refused k) (judged rs o)) e

-- ---- "17", and the end

-- what a call comes to that has room: t is the table before, u the copy
abbrev pub ended : ℕ → Table → Table → Outcome
ended v t u = judged (when 17 (past_end (settle t u)) ∷ []) (done v (settle t u) [])

-- "16", and then the end
abbrev pub changed : ℕ → Head → Table → Table → Outcome
changed v h t u =
    judged (when 16 (too_many (settle t (stated h u))) ∷ when 17 (past_end (settle t (stated h u))) ∷ [])
    (done v (settle t (stated h u)) [])

pub record Ends (l c : List ℕ) : Type 0 where
  pub sound : sound_bytes l ≡ true
  pub copy : Stands c
  pub grown : Grown (table_of l) (table_of c)

pub record Changes (l c : List ℕ) (h : Head) : Type 0 where
  pub sound : sound_bytes l ≡ true
  pub ready : Ready c h
  pub grown : Grown (table_of l) (table_of c)

-- ids are unique in a sound table
pub unique_ids : (l : List ℕ) → sound_bytes l ≡ true → ids_unique (table_of l) ≡ true
unique_ids l s = (sound_table l s).ids_unique_law

pub settles : {l c : List ℕ} → Bytes l → Ends l c → Settles l c
settles {l} {c} b k =
    record { before = sound_stands l k.sound b; after = k.copy; unique = unique_ids l k.sound; grown = k.grown }

-- the clock, the count, or a version is past its end
past_clock : (t u : Table) → 1099511627775 < u.highest → past_end (settle t u) ≡ true
unfolding past_end
past_clock t u h =
    ap (λ (c : ℕ). leb (2 ^ 40) c || (not (all_numbered (settle t u)) || ltb 16777216 (settle t u).next)) (settle_highest t u)
    ∙ ap (λ (b : Bool). b || (not (all_numbered (settle t u)) || ltb 16777216 (settle t u).next)) (le-leb (2 ^ 40) u.highest (omega arith))

past_count : (t u : Table) → 16777216 < u.next → past_end (settle t u) ≡ true
unfolding past_end
past_count t u h =
    go (leb (2 ^ 40) (settle t u).highest) (not (all_numbered (settle t u)))
    (ap (ltb 16777216) (settle_next t u) ∙ lt-ltb 16777216 u.next h)
  where
    go : (a b : Bool) {d : Bool} → d ≡ true → (a || (b || d)) ≡ true
    go true b e = refl
    go false true e = refl
    go false false e = e

past_version : (t u : Table) → all_numbered (settle t u) ≡ false → past_end (settle t u) ≡ true
unfolding past_end
past_version t u h =
    go (leb (2 ^ 40) (settle t u).highest) (all_numbered (settle t u)) (ltb 16777216 (settle t u).next) h
  where
    go : (a b d : Bool) → b ≡ false → (a || (not b || d)) ≡ true
    go true b d e = refl
    go false true d e = never (sym e)
    go false false d e = refl

not_past : (t u : Table) → u.highest ≤ 1099511627775 → u.next ≤ 16777216 → all_numbered (settle t u) ≡ true →
    past_end (settle t u) ≡ false
unfolding past_end
not_past t u h n v =
    ap (λ (c : ℕ). leb (2 ^ 40) c || (not (all_numbered (settle t u)) || ltb 16777216 (settle t u).next)) (settle_highest t u)
    ∙ ap (λ (b : Bool). b || (not (all_numbered (settle t u)) || ltb 16777216 (settle t u).next)) (lt-leb (2 ^ 40) u.highest (omega arith))
    ∙ ap (λ (b : Bool). not b || ltb 16777216 (settle t u).next) v
    ∙ ap (ltb 16777216) (settle_next t u) ∙ le-ltb 16777216 u.next n

module _ (v : ℕ) (t u : Table) where
  past : past_end (settle t u) ≡ true → ended v t u ≡ refused 17
  past e = stop 17 (past_end (settle t u)) [] (done v (settle t u) []) e

  pub end_clock : 1099511627775 < u.highest → ended v t u ≡ refused 17
  end_clock h = past (past_clock t u h)

  pub end_count : 16777216 < u.next → ended v t u ≡ refused 17
  end_count h = past (past_count t u h)

  pub end_version : all_numbered (settle t u) ≡ false → ended v t u ≡ refused 17
  end_version h = past (past_version t u h)

  pub end_done : u.highest ≤ 1099511627775 → u.next ≤ 16777216 → all_numbered (settle t u) ≡ true →
      ended v t u ≡ done v (settle t u) []
  end_done h n e =
      skip 17 (past_end (settle t u)) [] (done v (settle t u) []) (not_past t u h n e) ∙ all_passed (done v (settle t u) [])

-- the copy comes back
pub came_back : (l c : List ℕ) {t : Table} → length l ≡ 13344 → Is c t → splice l 0 c ≡ table_bytes t
came_back l c size k = splice_whole l c (k.size ∙ sym size) ∙ k.bytes

-- ---- a state set, and then the end

pub grown_stated : (old t : Table) (h : Head) → Grown old t → Grown old (stated h t)
grown_stated old t h g =
    join_all_law (Grown old) (set_by h (head_of t h.id)) (λ e m u k. grown_joined old u e k) (put h t) (grown_put old t h g)

module _ (v : ℕ) (h : Head) (t u : Table) where
  pub change_full : too_many (stated h u) ≡ true → changed v h t u ≡ refused 16
  change_full e =
      stop 16 (too_many (settle t (stated h u))) _ (done v (settle t (stated h u)) []) (many_settle t (stated h u) ∙ e)

  pub change_ends : too_many (stated h u) ≡ false → changed v h t u ≡ ended v t (stated h u)
  change_ends e =
      skip 16 (too_many (settle t (stated h u))) _ (done v (settle t (stated h u)) []) (many_settle t (stated h u) ∙ e)

module _ (v : ℕ) {l c : List ℕ} {h : Head} (k : Changes l c h) {b : Bool} {c' : List ℕ} (m : Made b c' (stated h (table_of c))) where
  pub change_refused : b ≡ false → changed v h (table_of l) (table_of c) ≡ refused 16
  change_refused e = change_full v h (table_of l) (table_of c) (made_past m e)

  pub change_next : b ≡ true → Ends l c'
  change_next e =
      let i = m.bytes e in
      record {
        sound = k.sound;
        copy = stands i;
        grown = subst (λ (z : Table). Grown (table_of l) z) (sym i.table) (grown_stated (table_of l) (table_of c) h k.grown);
      }

  pub change_last : b ≡ true → ended v (table_of l) (table_of c') ≡ changed v h (table_of l) (table_of c)
  change_last e =
      ap (ended v (table_of l)) (m.bytes e).table ∙ sym (change_ends v h (table_of l) (table_of c) (made_within m e))
