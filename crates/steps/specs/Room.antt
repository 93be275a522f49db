-- "16: the outcome needs more than 64 replicas, 256 entries, or 32 in a directory": a step that finds no room leads to
-- such an outcome, whatever follows it, since steps only add; and one that finds room does not. Assumes nothing.
use Rattle.std.specs.Prelude.{◌≡◌, refl, Bool, true, false, ◌||◌, not, cond, List, [], ◌∷◌, ℕ, suc, ◌+◌, ◌≤◌, ◌<◌, eqb, ltb, length}
use Rattle.std.proofs.Common.{ap, sym, subst, ◌∙◌, arith, length-append, eqb-true, eq-eqb, lt-ltb, le-ltb, ltb-true, ltb-false, leb-true, le-leb}
use Rattle.std.proofs.Math.Option.{Option, some, none}
use Rattle.codec.specs.Lists.{every, and_true}
use Rattle.records.specs.declared.head.Head.{Head}
use Rattle.slots.specs.declared.replica.Replica.{Replica}
use Rattle.slots.specs.declared.listed.Listed.{Listed}
use Rattle.document.specs.Tables.{Table, first, has_id, find, head_of?, entry_of?, entries_of}
use Rattle.document.specs.Sound.{is_held, not_crowded, same_key}
use Rattle.document.specs.Steps.{put_head, put, renewed, joined, settle, settle_all, raised, unchanged, too_many}
use Rattle.views.specs.Settles.{settle_length}
use Rattle.views.specs.Joins.{extra, join_size, one_more, crowd_join}
use Rattle.views.specs.Puts.{put_length_held, head_member}
use Rattle.views.specs.Sounds.{Sound}
use Rattle.steps.specs.Standing.{Each, end, more, never, each_in}
use Rattle.steps.specs.Putting.{has_slot, new_replica, put_none}
use Rattle.steps.specs.Joining.{is_room, is_listed, has_room}

-- ---- a table within its limits

-- how many entries a directory has
abbrev pub crowd : Table → ℕ → ℕ
crowd t d = length (entries_of d t.entries)

pub record Room (t : Table) : Type 0 where
  pub few_replicas : length t.replicas ≤ 64
  pub few_entries : length t.entries ≤ 256
  pub crowds : Each (λ (r : Replica). crowd t r.head.id ≤ 32) t.replicas

each_crowd : (t : Table) (rs : List Replica) → every (not_crowded t) rs ≡ true →
    Each (λ (r : Replica). crowd t r.head.id ≤ 32) rs
unfolding every
each_crowd t [] e = end
each_crowd t (r ∷ rs) e =
    let p = and_true (not_crowded t r) _ e in
    more {x = r} (leb-true _ _ p.0) (each_crowd t rs p.1)

crowd_each : (t : Table) (rs : List Replica) → Each (λ (r : Replica). crowd t r.head.id ≤ 32) rs →
    every (not_crowded t) rs ≡ true
unfolding every
crowd_each t [] end = refl
crowd_each t (r ∷ rs) (more p ps) = simp (le-leb _ _ p, crowd_each t rs ps)

pub room_of : (t : Table) → too_many t ≡ false → Room t
unfolding too_many
room_of t e = go (ltb 64 (length t.replicas)) (ltb 256 (length t.entries)) (every (not_crowded t) t.replicas) refl refl refl e
  where
    go : (a b d : Bool) → ltb 64 (length t.replicas) ≡ a → ltb 256 (length t.entries) ≡ b →
        every (not_crowded t) t.replicas ≡ d → (a || (b || not d)) ≡ false → Room t
    go true b d p q r e = never (sym e)
    go false true d p q r e = never (sym e)
    go false false false p q r e = never (sym e)
    go false false true p q r e =
        record {
          few_replicas = ltb-false _ _ p;
          few_entries = ltb-false _ _ q;
          crowds = each_crowd t t.replicas r;
        }

pub of_room : (t : Table) → Room t → too_many t ≡ false
unfolding too_many
of_room t k =
    simp (le-ltb 64 (length t.replicas) k.few_replicas, le-ltb 256 (length t.entries) k.few_entries, crowd_each t t.replicas k.crowds)

-- what is not within its limits is past them
pub not_room : (t : Table) → (Room t → ⊥) → too_many t ≡ true
not_room t n = go (too_many t) refl
  where
    go : (b : Bool) → too_many t ≡ b → b ≡ true
    go true e = refl
    go false e = absurd (n (room_of t e))

-- a sound table is within them
pub sound_room : (t : Table) → Sound t → Room t
sound_room t s =
    record {
      few_replicas = s.few_replicas;
      few_entries = s.few_entries;
      crowds = each_in _ t.replicas
          (λ r i. s.not_crowded_law r.head.id r.head (head_member t.replicas s.ids_unique_law r i));
    }

pub each_map : {A : Type 0} (P Q : A → Type 0) → ((x : A) → P x → Q x) → (xs : List A) → Each P xs → Each Q xs
each_map P Q f [] end = end
each_map P Q f (x ∷ xs) (more p ps) = more {x = x} (f x p) (each_map P Q f xs ps)

-- what holds of each holds of the one that is found
pub each_found : (P : Replica → Type 0) (id : ℕ) (rs : List Replica) (r : Replica) → Each P rs → find id rs ≡ some r → P r × (r.head.id ≡ id)
unfolding first
each_found P id [] r end e = let z : ◌≡◌ {A = ℕ} 0 1 = cc in absurd (omega arith)
each_found P id (x ∷ xs) r (more p ps) e = go (has_id id x) refl e (each_found P id xs r ps)
  where
    go : (b : Bool) → has_id id x ≡ b → cond b (some x) (find id xs) ≡ some r → (find id xs ≡ some r → P r × (r.head.id ≡ id)) →
        P r × (r.head.id ≡ id)
    go true q f ih = let same : x ≡ r = cc in subst (λ (z : Replica). P z × (z.head.id ≡ id)) same (p, eqb-true _ _ q)
    go false q f ih = ih f

-- ---- a join only adds, so what is past a limit stays past it

pub many_joined : (x : Listed) (t : Table) → too_many t ≡ true → too_many (joined x t) ≡ true
many_joined x t e = not_room (joined x t) (λ k. never (sym (of_room t (back k)) ∙ e))
  where
    back : Room (joined x t) → Room t
    back k =
        record {
          few_replicas = k.few_replicas;
          few_entries = omega (arith, k.few_entries, join_size x t.entries);
          crowds =
              each_map _ _ (λ r p. omega (arith, p, crowd_join x t.entries r.head.id)) t.replicas k.crowds;
        }

-- and there is room for an entry exactly if the outcome is within the limits
module _ (x : Listed) (t : Table) (k : Room t) where
  -- its key stands in the table, or there is room for one more
  room_there : (o : Option Listed) → first (same_key x) t.entries ≡ o →
      (is_listed (entry_of? o) || is_room x.directory t) ≡ true → Room (joined x t)
  room_there (some y) e h =
      record {
        few_replicas = k.few_replicas;
        few_entries = omega (arith, k.few_entries, join_size x t.entries ∙ ap (λ (o : Option Listed). length t.entries + extra o) e);
        crowds =
            each_map _ _
            (λ r p. omega (
              arith,
              p,
              crowd_join x t.entries r.head.id ∙ ap (λ (o : Option Listed). crowd t r.head.id + one_more x o r.head.id) e,
            ))
            t.replicas k.crowds;
      }
  room_there none e h =
      let free = and_true (ltb (length t.entries) 256) _ h in
      let few = ltb-true (length t.entries) 256 free.0 in
      let least = ltb-true (crowd t x.directory) 32 free.1 in
      record {
        few_replicas = k.few_replicas;
        few_entries = omega (arith, few, join_size x t.entries ∙ ap (λ (o : Option Listed). length t.entries + extra o) e);
        crowds =
            each_map _ _
            (λ r p. one r p (eqb x.directory r.head.id) refl least
            (crowd_join x t.entries r.head.id ∙ ap (λ (o : Option Listed). crowd t r.head.id + one_more x o r.head.id) e))
            t.replicas k.crowds;
      }
    where
      one : (r : Replica) → crowd t r.head.id ≤ 32 → (b : Bool) → eqb x.directory r.head.id ≡ b →
          crowd t x.directory < 32 →
          crowd (joined x t) r.head.id ≡ crowd t r.head.id + cond (eqb x.directory r.head.id) 1 0 →
          crowd (joined x t) r.head.id ≤ 32
      one r p true q least e =
          let same : crowd t x.directory ≡ crowd t r.head.id = ap (crowd t) (eqb-true x.directory r.head.id q) in
          let now : crowd (joined x t) r.head.id ≡ crowd t r.head.id + 1 =
          e ∙ ap (λ (b : Bool). crowd t r.head.id + cond b 1 0) q in
          omega (arith, least, same, now)
      one r p false q least e =
          let now : crowd (joined x t) r.head.id ≡ crowd t r.head.id + 0 =
          e ∙ ap (λ (b : Bool). crowd t r.head.id + cond b 1 0) q in
          omega (arith, p, now)

  -- there is none: the outcome is past a limit, where the directory is held
  full_there : (o : Option Listed) → first (same_key x) t.entries ≡ o →
      (is_listed (entry_of? o) || is_room x.directory t) ≡ false → (r : Replica) → find x.directory t.replicas ≡ some r →
      Room (joined x t) → ⊥
  full_there (some y) e h r f u = never (sym h)
  full_there none e h r f u =
      let size = join_size x t.entries ∙ ap (λ (o : Option Listed). length t.entries + extra o) e in
      let p = each_found (λ (r : Replica). crowd (joined x t) r.head.id ≤ 32) x.directory t.replicas r u.crowds f in
      let more = crowd_join x t.entries x.directory ∙ ap (λ (o : Option Listed). crowd t x.directory + one_more x o x.directory) e
      ∙ ap (λ (b : Bool). crowd t x.directory + cond b 1 0) (eq-eqb x.directory x.directory refl) in
      let least : crowd (joined x t) x.directory ≤ 32 = subst (λ (d : ℕ). crowd (joined x t) d ≤ 32) p.1 p.0 in
      let few : length t.entries < 256 = omega (arith, size, u.few_entries) in
      let one : crowd t x.directory < 32 = omega (arith, more, least) in
      never (sym h ∙ simp (lt-ltb _ _ few, lt-ltb _ _ one))

  pub room_joined : (r : Replica) → find x.directory t.replicas ≡ some r → has_room x t ≡ not (too_many (joined x t))
  room_joined r f = go (has_room x t) refl
    where
      go : (b : Bool) → has_room x t ≡ b → b ≡ not (too_many (joined x t))
      go true q = ap not (sym (of_room (joined x t) (room_there (first (same_key x) t.entries) refl q)))
      go false q = ap not (sym (not_room (joined x t) (full_there (first (same_key x) t.entries) refl q r f)))

-- ---- a head that is put

pub put_size : (h : Head) (rs : List Replica) → length rs ≤ length (put_head h rs)
unfolding put_head
put_size h [] = omega arith
put_size h (r ∷ rs) = go (eqb r.head.id h.id) (put_size h rs)
  where
    go : (b : Bool) → length rs ≤ length (put_head h rs) → suc (length rs) ≤ length (cond b (renewed h r ∷ rs) (r ∷ put_head h rs))
    go true p = omega arith
    go false p = omega arith

put_each : (P : ℕ → Type 0) (h : Head) (rs : List Replica) → P h.id → Each (λ (r : Replica). P r.head.id) rs →
    Each (λ (r : Replica). P r.head.id) (put_head h rs)
unfolding put_head
put_each P h [] p end = more {x = new_replica h} p end
put_each P h (r ∷ rs) p (more q qs) = go (eqb r.head.id h.id) (put_each P h rs p qs)
  where
    go : (b : Bool) → Each (λ (r : Replica). P r.head.id) (put_head h rs) →
        Each (λ (r : Replica). P r.head.id) (cond b (renewed h r ∷ rs) (r ∷ put_head h rs))
    go true z = more {x = renewed h r} p qs
    go false z = more {x = r} q z

module _ (h : Head) (t : Table) where
  pub room_put : Room t → crowd t h.id ≤ 32 → has_slot h.id t ≡ true → Room (put h t)
  room_put k c s =
      record {
        few_replicas = few (find h.id t.replicas) refl s;
        few_entries = k.few_entries;
        crowds = put_each (λ (d : ℕ). crowd t d ≤ 32) h t.replicas c k.crowds;
      }
    where
      few : (o : Option Replica) → find h.id t.replicas ≡ o → (is_held (head_of? o) || ltb (length t.replicas) 64) ≡ true →
          length (put_head h t.replicas) ≤ 64
      few (some r) e s = omega (arith, k.few_replicas, put_length_held h t.replicas r e)
      few none e s =
          omega (
            arith,
            ltb-true (length t.replicas) 64 s,
            ap length (put_none h t.replicas e) ∙ length-append t.replicas (new_replica h ∷ []),
          )

  pub many_put : has_slot h.id t ≡ false → too_many (put h t) ≡ true
  many_put s = not_room (put h t) (λ k. full k (find h.id t.replicas) refl s)
    where
      full : Room (put h t) → (o : Option Replica) → find h.id t.replicas ≡ o →
          (is_held (head_of? o) || ltb (length t.replicas) 64) ≡ false → ⊥
      full k (some r) e s = never (sym s)
      full k none e s =
          omega (
            arith,
            ltb-false (length t.replicas) 64 s,
            k.few_replicas,
            ap length (put_none h t.replicas e) ∙ length-append t.replicas (new_replica h ∷ []),
          )

-- ---- the end of a call changes none of this

settle_each : (P : ℕ → Type 0) (old t : Table) (rs : List Replica) → Each (λ (r : Replica). P r.head.id) (settle_all old t rs) →
    Each (λ (r : Replica). P r.head.id) rs
unfolding settle_all
settle_each P old t [] end = end
settle_each P old t (r ∷ rs) k = go (unchanged old t r.head) k (settle_each P old t rs)
  where
    go : (b : Bool) → Each (λ (r : Replica). P r.head.id) (cond b r (raised t.own r) ∷ settle_all old t rs) →
        (Each (λ (r : Replica). P r.head.id) (settle_all old t rs) → Each (λ (r : Replica). P r.head.id) rs) →
        Each (λ (r : Replica). P r.head.id) (r ∷ rs)
    go true (more p ps) ih = more {x = r} p (ih ps)
    go false (more p ps) ih = more {x = r} p (ih ps)

each_settle : (P : ℕ → Type 0) (old t : Table) (rs : List Replica) → Each (λ (r : Replica). P r.head.id) rs →
    Each (λ (r : Replica). P r.head.id) (settle_all old t rs)
unfolding settle_all
each_settle P old t [] end = end
each_settle P old t (r ∷ rs) (more p ps) = go (unchanged old t r.head) (each_settle P old t rs ps)
  where
    go : (b : Bool) → Each (λ (r : Replica). P r.head.id) (settle_all old t rs) →
        Each (λ (r : Replica). P r.head.id) (cond b r (raised t.own r) ∷ settle_all old t rs)
    go true z = more {x = r} p z
    go false z = more {x = raised t.own r} p z

pub many_settle : (old t : Table) → too_many (settle old t) ≡ too_many t
unfolding settle
many_settle old t = go (too_many t) refl
  where
    size : length (settle_all old t t.replicas) ≡ length t.replicas
    size = settle_length old t t.replicas

    there : Room t → Room (settle old t)
    there k =
        record {
          few_replicas = omega (arith, size, k.few_replicas);
          few_entries = k.few_entries;
          crowds = each_settle (λ (d : ℕ). crowd t d ≤ 32) old t t.replicas k.crowds;
        }

    back : Room (settle old t) → Room t
    back k =
        record {
          few_replicas = omega (arith, size, k.few_replicas);
          few_entries = k.few_entries;
          crowds = settle_each (λ (d : ℕ). crowd t d ≤ 32) old t t.replicas k.crowds;
        }

    go : (b : Bool) → too_many t ≡ b → too_many (settle old t) ≡ b
    go false e = of_room (settle old t) (there (room_of t e))
    go true e = not_room (settle old t) (λ k. never (sym (of_room t (back k)) ∙ e))
