-- A new or changed state: the clock and the next count, the head, its entries. Assumes nothing.
use Rattle.std.specs.Prelude.{◌≡◌, refl, ◌⊎◌, Bool, true, false, cond, ℕ, ◌+◌, ◌^◌, ◌≤◌, ◌<◌, length}
use Rattle.std.proofs.Math.Path.{ap}
use Rattle.std.proofs.Common.{sym, subst, ◌∙◌, inl, inr, arith}
use Rattle.std.proofs.Math.Bool.{not}
use Rattle.std.proofs.Math.Option.{Option, some, none}
use mathlib.Core.List.Memᴰ
use mathlib.Core.List.{List, [], ◌∷◌}
use Rattle.codec.specs.Bytes.{splice, Bytes}
use Rattle.numbers.specs.declared.clock.Ticked.{Ticked}
use Rattle.numbers.specs.Clocks.{ticked}
use Rattle.records.specs.declared.head.Head.{Head}
use Rattle.records.specs.declared.entry.Entry.{Entry}
use Rattle.slots.specs.declared.replica.Replica.{Replica}
use Rattle.slots.specs.declared.listed.Listed.{Listed}
use Rattle.slots.specs.declared.table_header.TableHeader.{TableHeader}
use Rattle.slots.specs.TableHeaders.{table_header_bytes, table_header_at, TableHeaderFit}
use Rattle.slots.specs.Replicas.{ReplicaFit}
use Rattle.slots.specs.Listings.{ListedFit}
use Rattle.document.specs.Tables.{Table, find, head_of, header_of, with_highest, with_next, table_of, entries_of}
use Rattle.document.specs.Steps.{put, joined, join_all, set_by, place_entry, strike, same_place, issue, stamp_at, clock_at, too_many}
use Rattle.views.specs.Lists.{same?, In, not_none}
use Rattle.views.specs.Puts.{put_on, find_put_same, find_put_other, head_found}
use Rattle.views.specs.Joins.{entries_in_law}
use Rattle.steps.specs.Standing.{Each, Is, Stands, stands, moved, wide_of, wide_is, never}
use Rattle.steps.specs.Writes.{header_rewritten}
use Rattle.steps.specs.Putting.{has_slot}
use Rattle.steps.specs.Joining.{has_room}
use Rattle.steps.specs.Room.{Room, crowd, room_of, room_put, room_joined, many_put, many_joined, each_found}

-- the head put, and its entries set
abbrev pub stated : Head → Table → Table
stated h t = join_all (set_by h (head_of t h.id)) (put h t)

-- a new stamp's state is stated, once the clock is drawn
pub issue_stated : (now : ℕ) (f : ℕ → Head) (t : Table) →
    issue now f t ≡ stated (f (stamp_at now t)) (with_highest t (clock_at now t))
unfolding issue
issue_stated now f t = refl

-- ---- the header

pub header_read : (l : List ℕ) → table_header_at l 0 ≡ header_of (table_of l)
unfolding table_of
header_read l = refl

pub header_written : {l : List ℕ} → Stands l → Bytes l → (u : Table) → u.replicas ≡ (table_of l).replicas → u.entries ≡ (table_of l).entries →
    TableHeaderFit (header_of u) → Is (splice l 0 (table_header_bytes (header_of u))) u
header_written {l} k b u p q f =
    let w = wide_of l b k.size in
    wide_is
    (record {
      header = f;
      few_replicas = omega (arith, w.few_replicas, ap length p);
      replicas = subst (λ (rs : List Replica). Each ReplicaFit rs) (sym p) w.replicas;
      few_entries = omega (arith, w.few_entries, ap length q);
      entries = subst (λ (es : List Listed). Each ListedFit es) (sym q) w.entries;
    })
    (ap (λ (z : List ℕ). splice z 0 (table_header_bytes (header_of u))) k.bytes ∙ header_rewritten (table_of l) u p q)

-- ---- what a state needs: its directories are held

abbrev pub Held : Table → ℕ → Type 0
Held t d = (r : Replica) × (find d t.replicas ≡ some r)

-- by its head
pub held_head : (t : Table) (d : ℕ) (h : Head) → head_of t d ≡ some h → Held t d
held_head t d h e = let p = head_found (find d t.replicas) h e in (p.0, p.1)

-- each entry's directory is held
abbrev pub Housed : Table → Type 0
Housed t = (x : Listed) → In x t.entries → Held t x.directory

-- then a directory that is not held has no entries, and no directory has too many
pub crowd_most : (t : Table) → Room t → Housed t → (d : ℕ) → crowd t d ≤ 32
crowd_most t k h d = go (find d t.replicas) refl
  where
    empty : (es : List Entry) → ((e : Entry) → In e es → ⊥) → length es ≤ 32
    empty [] f = omega arith
    empty (e ∷ es) f = absurd (f e (Memᴰ.head refl))

    go : (o : Option Replica) → find d t.replicas ≡ o → crowd t d ≤ 32
    go (some r) e =
        let p = each_found (λ (r : Replica). crowd t r.head.id ≤ 32) d t.replicas r k.crowds e in
        subst (λ (i : ℕ). crowd t i ≤ 32) p.1 p.0
    go none e =
        empty (entries_of d t.entries) (λ x i.
        let y = entries_in_law d t.entries x i in
        let r = h y.0 y.1 in
        not_none (sym e ∙ ap (λ (i : ℕ). find i t.replicas) (sym y.2) ∙ r.1))

pub record Places (l : List ℕ) (h old : Head) : Type 0 where
  pub stands : Stands l
  pub room : Room (table_of l)
  pub place : Held (table_of l) h.directory
  pub last : Held (table_of l) old.directory

pub record Ready (l : List ℕ) (h : Head) : Type 0 where
  pub stands : Stands l
  pub room : Room (table_of l)
  pub place : Held (table_of l) h.directory
  pub last : (old : Head) → head_of (table_of l) h.id ≡ some old → Held (table_of l) old.directory
  pub crowd : crowd (table_of l) h.id ≤ 32

-- ---- the entries

pub many_all : (es : List Listed) (t : Table) → too_many t ≡ true → too_many (join_all es t) ≡ true
unfolding join_all
many_all [] t e = e
many_all (x ∷ xs) t e = many_all xs (joined x t) (many_joined x t e)

-- what a Bool is not
pub not_swap : (a b : Bool) → a ≡ not b → b ≡ not a
not_swap a true e = ap not (sym e)
not_swap a false e = ap not (sym e)

module _ (h old : Head) (t : Table) (k : Room t) (p : Held t h.directory) (q : Held t old.directory) where
  abbrev e : Listed
  e = place_entry h

  abbrev after : Table
  after = join_all (set_by h (some old)) t

  -- no room for the first
  pub place_full : false ≡ has_room e t → false ≡ not (too_many after)
  unfolding set_by join_all
  place_full r = ap not (sym (many_all (cond (same_place h old) [] (strike h old ∷ [])) (joined e t) (not_swap (has_room e t) (too_many (joined e t)) (room_joined e t k p.0 p.1) ∙ ap not (sym r))))

  place_room : true ≡ has_room e t → too_many (joined e t) ≡ false
  place_room r = not_swap (has_room e t) (too_many (joined e t)) (room_joined e t k p.0 p.1) ∙ ap not (sym r)

  -- there is no other
  pub place_only : true ≡ has_room e t → same_place h old ≡ true → (true ≡ not (too_many after)) × (joined e t ≡ after)
  unfolding set_by join_all
  place_only r s =
      let one : joined e t ≡ after = ap (λ (b : Bool). join_all (cond b [] (strike h old ∷ [])) (joined e t)) (sym s) in
      (sym (ap (λ (u : Table). not (too_many u)) (sym one) ∙ ap not (place_room r)), one)

  -- the strike
  pub place_struck : true ≡ has_room e t → same_place h old ≡ false →
      (has_room (strike h old) (joined e t) ≡ not (too_many after)) × (joined (strike h old) (joined e t) ≡ after)
  unfolding set_by join_all
  place_struck r s =
      let two : joined (strike h old) (joined e t) ≡ after =
      ap (λ (b : Bool). join_all (cond b [] (strike h old ∷ [])) (joined e t)) (sym s) in (
        room_joined (strike h old) (joined e t) (room_of (joined e t) (place_room r)) q.0 q.1
            ∙ ap (λ (u : Table). not (too_many u)) two,
        two,
      )

-- a step's answer and bytes: whether the outcome has room, and if so its bytes
pub record Made (r : Bool) (l : List ℕ) (u : Table) : Type 0 where
  pub room : r ≡ not (too_many u)
  pub bytes : r ≡ true → Is l u

-- past the limits, or within them
pub made_past : {l : List ℕ} {r : Bool} {u : Table} → Made r l u → r ≡ false → too_many u ≡ true
made_past {l} {r} {u} m e = not_swap r (too_many u) m.room ∙ ap not e

pub made_within : {l : List ℕ} {r : Bool} {u : Table} → Made r l u → r ≡ true → too_many u ≡ false
made_within {l} {r} {u} m e = not_swap r (too_many u) m.room ∙ ap not e

-- both joins, as the code makes them
module _ (h old : Head) {l : List ℕ} (k : Places l h old) where
  abbrev set : Table
  set = join_all (set_by h (some old)) (table_of l)

  pub places_full : (x : Listed) → x ≡ place_entry h → has_room x (table_of l) ≡ false → (l' : List ℕ) → Made false l' set
  places_full x p r l' =
      record {
        room = place_full h old (table_of l) k.room k.place k.last (sym r ∙ ap (λ (z : Listed). has_room z (table_of l)) p);
        bytes = λ e. never e;
      }

  module _ (x : Listed) (p : x ≡ place_entry h) (r : has_room x (table_of l) ≡ true) (l' : List ℕ) (m : Is l' (joined x (table_of l))) where
    first_room : true ≡ has_room (place_entry h) (table_of l)
    first_room = sym r ∙ ap (λ (z : Listed). has_room z (table_of l)) p

    pub places_only : same_place h old ≡ true → Made true l' set
    places_only s =
        let q = place_only h old (table_of l) k.room k.place k.last first_room s in
        record {
          room = q.0;
          bytes = λ _. subst (λ (u : Table). Is l' u) (ap (λ (z : Listed). joined z (table_of l)) p ∙ q.1) m;
        }

    pub places_both : same_place h old ≡ false → (y : Listed) → y ≡ strike h old → (b : Bool) → b ≡ has_room y (table_of l') →
        (l2 : List ℕ) → (b ≡ true → Is l2 (joined y (table_of l'))) → Made b l2 set
    places_both s y e b c l2 n =
        let q = place_struck h old (table_of l) k.room k.place k.last first_room s in
        let now : table_of l' ≡ joined (place_entry h) (table_of l) = m.table ∙ ap (λ (z : Listed). joined z (table_of l)) p in
        record {
          room = c ∙ ap (λ (z : Listed). has_room z (table_of l')) e ∙ ap (has_room (strike h old)) now ∙ q.0;
          bytes = λ d.
              subst (λ (u : Table). Is l2 u)
              (ap (λ (z : Listed). joined z (table_of l')) e ∙ ap (joined (strike h old)) now ∙ q.1) (n d);
        }

-- ---- the head and its entries

pub held_put : (h : Head) (t : Table) (d : ℕ) → Held t d → Held (put h t) d
held_put h t d (r, e) = go (same? d h.id)
  where
    go : (d ≡ h.id) ⊎ (d ≡ h.id → ⊥) → Held (put h t) d
    go (inl p) = (put_on h (find h.id t.replicas), ap (λ (f : ℕ). find f (put h t).replicas) p ∙ find_put_same h t.replicas)
    go (inr n) = (r, find_put_other h t.replicas d n ∙ e)

module _ (h : Head) (t : Table) (k : Room t) (c : crowd t h.id ≤ 32) where
  -- no slot for it
  pub state_full : false ≡ has_slot h.id t → false ≡ not (too_many (stated h t))
  state_full r = ap not (sym (many_all _ (put h t) (many_put h t (sym r))))

  pub state_room : true ≡ has_slot h.id t → Room (put h t)
  state_room r = room_put h t k c (sym r)

  -- it is new
  pub state_new : head_of t h.id ≡ none → true ≡ has_slot h.id t → Held t h.directory →
      (has_room (place_entry h) (put h t) ≡ not (too_many (stated h t))) × (joined (place_entry h) (put h t) ≡ stated h t)
  unfolding set_by join_all
  state_new n r p =
      let one : joined (place_entry h) (put h t) ≡ stated h t =
      ap (λ (o : Option Head). join_all (set_by h o) (put h t)) (sym n) in
      let place = held_put h t h.directory p in (
        room_joined (place_entry h) (put h t) (state_room r) place.0 place.1 ∙ ap (λ (u : Table). not (too_many u)) one,
        one,
      )

  -- it was another
  pub state_old : (old : Head) → head_of t h.id ≡ some old → join_all (set_by h (some old)) (put h t) ≡ stated h t
  state_old old n = ap (λ (o : Option Head). join_all (set_by h o) (put h t)) (sym n)

-- put and set, as the code makes them
module _ (h : Head) {l : List ℕ} (k : Ready l h) where
  pub put_full : has_slot h.id (table_of l) ≡ false → (l' : List ℕ) → Made false l' (stated h (table_of l))
  put_full r l' =
      record { room = state_full h (table_of l) k.room k.crowd (sym r); bytes = λ e. never e }

  module _ (r : has_slot h.id (table_of l) ≡ true) (l' : List ℕ) (m : Is l' (put h (table_of l))) where
    pub then_make : head_of (table_of l) h.id ≡ none → (x : Listed) → x ≡ place_entry h → (b : Bool) → b ≡ has_room x (table_of l') →
        (l2 : List ℕ) → (b ≡ true → Is l2 (joined x (table_of l'))) → Made b l2 (stated h (table_of l))
    then_make n x e b c l2 w =
        let q = state_new h (table_of l) k.room k.crowd n (sym r) k.place in
        record {
          room = c ∙ ap (λ (z : Listed). has_room z (table_of l')) e ∙ ap (has_room (place_entry h)) m.table ∙ q.0;
          bytes = λ d.
              subst (λ (u : Table). Is l2 u)
              (ap (λ (z : Listed). joined z (table_of l')) e ∙ ap (joined (place_entry h)) m.table ∙ q.1) (w d);
        }

    pub then_places : (old : Head) → head_of (table_of l) h.id ≡ some old → Places l' h old
    then_places old n =
        let held : (d : ℕ) → Held (table_of l) d → Held (table_of l') d =
        λ d p. subst (λ (u : Table). Held u d) (sym m.table) (held_put h (table_of l) d p) in
        record {
          stands = stands m;
          room = subst Room (sym m.table) (state_room h (table_of l) k.room k.crowd (sym r));
          place = held h.directory k.place;
          last = held old.directory (k.last old n);
        }

    pub then_set : (old : Head) → head_of (table_of l) h.id ≡ some old → (b : Bool) (l2 : List ℕ) →
        Made b l2 (join_all (set_by h (some old)) (table_of l')) → Made b l2 (stated h (table_of l))
    then_set old n b l2 w =
        subst (λ (u : Table). Made b l2 u)
        (ap (join_all (set_by h (some old))) m.table ∙ state_old h (table_of l) k.room k.crowd old n) w

-- ---- the clock drawn and the next count taken, as the code does it

module _ {l : List ℕ} (k : Stands l) (b : Bytes l) where
  pub drawn : {h : TableHeader} {r : Ticked} (now : ℕ) → (table_of l).highest < 2 ^ 48 → now < 2 ^ 48 → h ≡ header_of (table_of l) →
      r ≡ ticked (record { highest = h.highest }) now h.own →
      (r.stamp ≡ stamp_at now (table_of l))
      × Is (splice l 0 (table_header_bytes (record { own = h.own; nodes = h.nodes; next = h.next; highest = r.clock.highest })))
      (with_highest (table_of l) (clock_at now (table_of l)))
  drawn {h} {r} now low late e f =
      let t : Table = table_of l in
      let w = wide_of l b k.size in
      let q : r ≡ ticked (record { highest = t.highest }) now t.own =
      f ∙ ap (λ (z : TableHeader). ticked (record { highest = z.highest }) now z.own) e in (
        ap (λ (z : Ticked). z.stamp) q,
        moved
            (header_written k b (with_highest t (clock_at now t)) refl refl
            (record { next = w.header.next; highest = omega arith }))
            (ap (λ (z : TableHeader). splice l 0 (table_header_bytes (record { own = z.own; nodes = z.nodes; next = z.next; highest = r.clock.highest }))) e
            ∙ ap (λ (z : Ticked). splice l 0 (table_header_bytes (record { own = t.own; nodes = t.nodes; next = t.next; highest = z.clock.highest }))) q),
      )

  pub counted : {h : TableHeader} → (table_of l).next ≤ 16777216 → h ≡ header_of (table_of l) →
      Is (splice l 0 (table_header_bytes (record { own = h.own; nodes = h.nodes; next = h.next + 1; highest = h.highest })))
      (with_next (table_of l) ((table_of l).next + 1))
  counted {h} few e =
      let t : Table = table_of l in
      let w = wide_of l b k.size in
      moved
      (header_written k b (with_next t (t.next + 1)) refl refl (record { next = omega arith; highest = w.header.highest }))
      (ap (λ (z : TableHeader). splice l 0 (table_header_bytes (record { own = z.own; nodes = z.nodes; next = z.next + 1; highest = z.highest }))) e)
