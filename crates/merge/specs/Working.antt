-- A working copy between the steps of a receive: its bytes can be read back, it is within the limits, and each entry's
-- directory is held. A step that finds no room leads to an outcome past a limit, whatever follows. Assumes nothing.
use Rattle.std.specs.Prelude.{◌≡◌, refl, ◌⊎◌, Bool, true, false, not, cond, List, [], ◌∷◌, ◌++◌, ℕ, ◌≤◌, eqb}
use Rattle.std.proofs.Common.{ap, sym, subst, ◌∙◌, inl, inr, arith, eqb-true}
use mathlib.Core.List.Memᴰ
use Rattle.records.specs.declared.head.Head.{Head}
use Rattle.slots.specs.declared.replica.Replica.{Replica}
use Rattle.slots.specs.declared.listed.Listed.{Listed}
use Rattle.document.specs.Tables.{Table, with_highest, table_of}
use Rattle.document.specs.Steps.{put_head, put, renewed, joined, join_all, too_many}
use Rattle.views.specs.Lists.{In}
use Rattle.views.specs.Joins.{join_in}
use Rattle.steps.specs.Standing.{Each, end, more, Is, Stands, stands, never}
use Rattle.steps.specs.Putting.{has_slot}
use Rattle.steps.specs.Joining.{has_room}
use Rattle.steps.specs.Room.{Room, crowd, room_of, of_room, not_room, put_size, room_put, room_joined, many_put}
use Rattle.steps.specs.States.{Held, Made, held_put, Housed, crowd_most, made_within}

-- the directories of these entries are held
abbrev pub AllHeld : List Listed → Table → Type 0
AllHeld es t = (e : Listed) → In e es → Held t e.directory

pub record Works (l : List ℕ) : Type 0 where
  pub stands : Stands l
  pub room : Room (table_of l)
  pub housed : Housed (table_of l)

-- and its own node is one of 8
pub record Owns (l : List ℕ) : Type 0 where
  pub works : Works l
  pub own : (table_of l).own ≤ 8

-- ---- what the outcome of a step says

pub made_room : {l : List ℕ} {u : Table} → Made true l u → Room u
made_room {l} {u} m = room_of u (made_within m refl)

pub made_works : {l : List ℕ} {u : Table} → Made true l u → Housed u → Works l
made_works {l} {u} m h =
    let is = m.bytes refl in
    record {
      stands = stands is;
      room = subst Room (sym is.table) (made_room m);
      housed = subst Housed (sym is.table) h;
    }

-- no step at all
pub made_none : {l : List ℕ} → Works l → Made true l (table_of l)
made_none {l} w = record { room = ap not (sym (of_room (table_of l) w.room)); bytes = λ e. w.stands }

-- an outcome within the limits
pub made_all : {l : List ℕ} {u : Table} → Works l → table_of l ≡ u → Made true l u
made_all {l} {u} w e = subst (λ (z : Table). Made true l z) e (made_none w)

-- an outcome past them
pub made_full : {l : List ℕ} {u : Table} → too_many u ≡ true → Made false l u
made_full {l} {u} m = record { room = ap not (sym m); bytes = λ e. never e }

-- the answer is known
pub made_as : {l : List ℕ} {r s : Bool} {u : Table} → r ≡ s → Made r l u → Made s l u
made_as {l} {r} {s} {u} e m = subst (λ (b : Bool). Made b l u) e m

-- an outcome said otherwise
pub made_is : {l : List ℕ} {r : Bool} {u v : Table} → u ≡ v → Made r l u → Made r l v
made_is {l} {r} {u} {v} e m = subst (λ (z : Table). Made r l z) e m

-- the highest clock is no part of the limits
pub room_high : (t : Table) (c : ℕ) → Room t → Room (with_highest t c)
room_high t c k = record { few_replicas = k.few_replicas; few_entries = k.few_entries; crowds = k.crowds }

-- ---- a head that is put

pub put_made : {l l' : List ℕ} {r : Bool} (h : Head) → Works l → r ≡ has_slot h.id (table_of l) →
    (r ≡ true → Is l' (put h (table_of l))) → Made r l' (put h (table_of l))
put_made {l} {l'} {r} h w e b = record { room = go r (sym e); bytes = b }
  where
    go : (s : Bool) → has_slot h.id (table_of l) ≡ s → s ≡ not (too_many (put h (table_of l)))
    go true q =
        ap not (sym (of_room _
        (room_put h (table_of l) w.room (crowd_most (table_of l) w.room w.housed h.id) q)))
    go false q = ap not (sym (many_put h (table_of l) q))

pub housed_put : (h : Head) (t : Table) → Housed t → Housed (put h t)
housed_put h t k x i = held_put h t x.directory (k x i)

-- the ids of a table are among those of one with a head more
put_back : (P : ℕ → Type 0) (h : Head) (rs : List Replica) → Each (λ (r : Replica). P r.head.id) (put_head h rs) →
    Each (λ (r : Replica). P r.head.id) rs
unfolding put_head
put_back P h [] k = end
put_back P h (r ∷ rs) k = go (eqb r.head.id h.id) refl k (put_back P h rs)
  where
    go : (b : Bool) → eqb r.head.id h.id ≡ b →
        Each (λ (r : Replica). P r.head.id) (cond b (renewed h r ∷ rs) (r ∷ put_head h rs)) →
        (Each (λ (r : Replica). P r.head.id) (put_head h rs) → Each (λ (r : Replica). P r.head.id) rs) →
        Each (λ (r : Replica). P r.head.id) (r ∷ rs)
    go true q (more p ps) ih = more {x = r} (subst P (sym (eqb-true _ _ q)) p) ps
    go false q (more p ps) ih = more {x = r} p (ih ps)

pub many_more : (h : Head) (t : Table) → too_many t ≡ true → too_many (put h t) ≡ true
many_more h t e = not_room (put h t) (λ k. never (sym (of_room t (back k)) ∙ e))
  where
    back : Room (put h t) → Room t
    back k =
        record {
          few_replicas = omega (arith, k.few_replicas, put_size h t.replicas);
          few_entries = k.few_entries;
          crowds = put_back (λ (d : ℕ). crowd t d ≤ 32) h t.replicas k.crowds;
        }

-- ---- entries that are joined

pub join_made : {l l' : List ℕ} {r : Bool} (x : Listed) → Works l → Held (table_of l) x.directory →
    r ≡ has_room x (table_of l) → (r ≡ true → Is l' (joined x (table_of l))) → Made r l' (joined x (table_of l))
join_made x w h e b = record { room = e ∙ room_joined x _ w.room h.0 h.1; bytes = b }

pub housed_joined : (x : Listed) (t : Table) → Housed t → Held t x.directory → Housed (joined x t)
housed_joined x t k h y i = go (join_in x t.entries y i)
  where
    go : (y ≡ x) ⊎ In y t.entries → Held t y.directory
    go (inl q) = subst (λ (z : Listed). Held t z.directory) (sym q) h
    go (inr j) = k y j

pub housed_all : (es : List Listed) (t : Table) → Housed t → AllHeld es t → Housed (join_all es t)
unfolding join_all
housed_all [] t k h = k
housed_all (e ∷ es) t k h =
    housed_all es (joined e t) (housed_joined e t k (h e (Memᴰ.head refl))) (λ x i. h x (Memᴰ.tail i))

pub all_append : (xs ys : List Listed) (t : Table) → join_all (xs ++ ys) t ≡ join_all ys (join_all xs t)
unfolding join_all
all_append [] ys t = refl
all_append (x ∷ xs) ys t = all_append xs ys (joined x t)
