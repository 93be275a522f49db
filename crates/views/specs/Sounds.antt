-- "A sound table" as propositions: a field for each rule, over what an id or a key finds and over what stands in the
-- lists; that a table is found sound exactly if it has them all. Assumes nothing.
use Rattle.std.specs.Prelude.{◌≡◌, refl, ◌⊎◌, Bool, true, false, ◌&&◌, ◌||◌, not, cond, List, [], ◌∷◌, ℕ, ◌+◌, ◌^◌, ◌≤◌, ◌<◌, eqb, leb, length}
use Rattle.std.proofs.Common.{ap, sym, subst, ◌∙◌, inl, inr, true≢false, arith, eqb-true, leb-true, ltb-true, eq-eqb, ne_eqb, le-leb, lt-ltb}
use Rattle.std.proofs.Math.Option.{Option, some, none}
use Rattle.std.proofs.lemmas.Bool.{eqb-false, not-true, not-false}
use Rattle.codec.specs.Lists.{every, and_true, implied, and_both}
use Rattle.numbers.specs.Nodes.{is_within, is_size, is_node, is_set, has}
use Rattle.numbers.specs.Ids.{maker, count, clock_of, is_version}
use Rattle.records.specs.declared.head.Head.{Head}
use Rattle.records.specs.declared.entry.Entry.{Entry}
use Rattle.records.specs.Heads.{head_fits, root_head, root_is}
use Rattle.records.specs.Ordinary.{ordinary_is}
use Rattle.slots.specs.declared.replica.Replica.{Replica}
use Rattle.slots.specs.declared.listed.Listed.{Listed}
use Rattle.slots.specs.TableHeaders.{table_header_fits}
use Rattle.document.specs.Tables.{Table, first, find, head_of?, head_of, entry_of, entries_of, header_of, replica_fits, listed_fits, fits, table_of}
use Rattle.document.specs.Sound.{is_root_id, is_live, is_directory, held_and, root_first, root_in, ids_unique, maker_holds, holders_include, pending_within, own_below_next, is_place_of, place_held, not_crowded, shows, place_shown, clock_seen, replica_keeps, is_parent, directory_held, child_not_root, entry_keeps, keys_unique, rules, sound, sound_bytes}
use Rattle.document.specs.Steps.{is_dead}
use Rattle.document.specs.Reading.{parts_of, bytes_sound}
use Rattle.views.specs.Lists.{In, or_second, some_only, every_in, in_every, same?}
use Rattle.views.specs.Puts.{head_found, head_own, find_in, find_member, dead_not}

-- ---- the rules, each as a proposition on the table

-- "its place directory is held, is a directory, is one less deep"
pub record Place (t : Table) (h : Head) : Type 0 where
  pub parent : Head
  pub held : head_of t h.directory ≡ some parent
  pub directory : is_directory parent ≡ true
  pub depth : parent.depth + 1 ≡ h.depth

-- "an entry at its place with a stamp not below its own, and live if equal"
pub record Entered (t : Table) (h : Head) : Type 0 where
  pub entry : Entry
  pub there : entry_of t h.directory h.id h.name ≡ some entry
  pub stamp : h.stamp ≤ entry.stamp
  pub live : h.stamp ≡ entry.stamp → eqb entry.live 1 ≡ true

-- "held, is a directory and less than 16 deep"
pub record Parent (t : Table) (d : ℕ) : Type 0 where
  pub head : Head
  pub held : head_of t d ≡ some head
  pub directory : is_directory head ≡ true
  pub shallow : head.depth < 16

-- something of every head that is held, of every replica that is found, of every entry
abbrev pub Heads : Table → (Head → Type 0) → Type 0
Heads t P = (f : ℕ) (h : Head) → head_of t f ≡ some h → P h

abbrev pub Replicas : Table → (Replica → Type 0) → Type 0
Replicas t P = (f : ℕ) (r : Replica) → find f t.replicas ≡ some r → P r

abbrev pub Entries : Table → (Listed → Type 0) → Type 0
Entries t P = (x : Listed) → In x t.entries → P x

-- ranges
abbrev pub HeadsFit : Table → Type 0
HeadsFit t = Heads t (λ h. head_fits t.nodes h ≡ true)

abbrev pub VersionsFit : Table → Type 0
VersionsFit t = Replicas t (λ r. is_version r.version ≡ true)

abbrev pub PendingsFit : Table → Type 0
PendingsFit t = Replicas t (λ r. is_set t.nodes r.pending ≡ true)

abbrev pub EntriesFit : Table → Type 0
EntriesFit t = Entries t (λ x. listed_fits t.nodes x ≡ true)

-- replicas
abbrev pub MakersHold : Table → Type 0
MakersHold t = Heads t (λ h. maker_holds h ≡ true)

abbrev pub OwnHolds : Table → Type 0
OwnHolds t = Heads t (λ h. has h.holders t.own ≡ true)

abbrev pub PendingsWithin : Table → Type 0
PendingsWithin t = Replicas t (λ r. pending_within t r ≡ true)

abbrev pub OwnBelowNext : Table → Type 0
OwnBelowNext t = Heads t (λ h. maker h.id ≡ t.own → count h.id < t.next)

abbrev pub Placed : Table → Type 0
Placed t = Heads t (λ h. (h.id ≡ 0 → ⊥) → Place t h)

abbrev pub LivePlaces : Table → Type 0
LivePlaces t = Heads t (λ h. (h.id ≡ 0 → ⊥) → is_live h ≡ true → is_dead (head_of t h.directory) ≡ false)

abbrev pub NotCrowded : Table → Type 0
NotCrowded t = Heads t (λ h. length (entries_of h.id t.entries) ≤ 32)

abbrev pub Shown : Table → Type 0
Shown t = Heads t (λ h. (h.id ≡ 0 → ⊥) → is_live h ≡ true → Entered t h)

abbrev pub HeadClocks : Table → Type 0
HeadClocks t = Heads t (λ h. clock_of h.stamp ≤ t.highest)

-- entries
abbrev pub Parents : Table → Type 0
Parents t = Entries t (λ x. Parent t x.directory)

abbrev pub NoRootChild : Table → Type 0
NoRootChild t = Entries t (λ x. x.entry.child ≡ 0 → ⊥)

abbrev pub EntryClocks : Table → Type 0
EntryClocks t = Entries t (λ x. clock_of x.entry.stamp ≤ t.highest)

-- ---- a sound table

pub record Sound (t : Table) : Type 0 where
  pub size : is_size t.nodes ≡ true
  pub node : is_node t.nodes t.own ≡ true
  pub next_low : 1 ≤ t.next
  pub next_high : t.next ≤ 16777216
  pub highest : t.highest < 2 ^ 40
  pub few_replicas : length t.replicas ≤ 64
  pub few_entries : length t.entries ≤ 256
  pub heads_fit : HeadsFit t
  pub versions_fit : VersionsFit t
  pub pendings_fit : PendingsFit t
  pub entries_fit : EntriesFit t
  pub root_first_law : root_first t ≡ true
  pub ids_unique_law : ids_unique t ≡ true
  pub makers_hold : MakersHold t
  pub own_holds : OwnHolds t
  pub pendings_within : PendingsWithin t
  pub own_below : OwnBelowNext t
  pub placed : Placed t
  pub live_places : LivePlaces t
  pub not_crowded_law : NotCrowded t
  pub shown : Shown t
  pub head_clocks : HeadClocks t
  pub parents : Parents t
  pub no_root_child : NoRootChild t
  pub entry_clocks : EntryClocks t
  pub keys_unique_law : keys_unique t ≡ true

-- ---- a test and what it says

held_is : (f : Head → Bool) (o : Option Head) → held_and f o ≡ true → (h : Head) × (o ≡ some h) × (f h ≡ true)
held_is f none e = absurd (true≢false (sym e))
held_is f (some h) e = (h, refl, e)

is_held : (f : Head → Bool) (o : Option Head) (h : Head) → o ≡ some h → f h ≡ true → held_and f o ≡ true
is_held f o h e p = ap (held_and f) e ∙ p

to_unless : (a b : Bool) → (a ≡ true → b ≡ true) → (not a || b) ≡ true
to_unless true b h = h refl
to_unless false b h = refl

or_else : (a b : Bool) → (a ≡ false → b ≡ true) → (a || b) ≡ true
or_else true b h = refl
or_else false b h = h refl

-- not the root
pub not_root : (h : Head) → (h.id ≡ 0 → ⊥) → is_root_id h ≡ false
not_root h z = ne_eqb h.id 0 z

pub place_is : (t : Table) (h : Head) → (h.id ≡ 0 → ⊥) →
    (is_root_id h || held_and (is_place_of h) (head_of t h.directory)) ≡ true →
    Place t h × (is_live h ≡ true → is_dead (head_of t h.directory) ≡ false)
place_is t h z e =
    let p = held_is (is_place_of h) (head_of t h.directory) (or_second (is_root_id h) _ e (not_root h z)) in
    let q = and_true (is_directory p.0) _ p.2 in
    let r = and_true (eqb (p.0.depth + 1) h.depth) _ q.1 in (
      record { parent = p.0; held = p.1; directory = q.0; depth = eqb-true _ _ r.0 },
      λ l. dead_not (head_of t h.directory) p.0 p.1 ∙ ap not (implied (is_live h) _ r.1 l),
    )

pub is_place : (t : Table) (h : Head) → ((h.id ≡ 0 → ⊥) → Place t h) →
    ((h.id ≡ 0 → ⊥) → is_live h ≡ true → is_dead (head_of t h.directory) ≡ false) →
    (is_root_id h || held_and (is_place_of h) (head_of t h.directory)) ≡ true
is_place t h p l = or_else (is_root_id h) _ go
  where
    go : is_root_id h ≡ false → held_and (is_place_of h) (head_of t h.directory) ≡ true
    go e =
        let z = eqb-false h.id 0 e in
        let q = p z in
        let live : (not (is_live h) || is_live q.parent) ≡ true =
        to_unless (is_live h) _ (λ y. not-false (is_live q.parent) (sym (dead_not _ q.parent q.held) ∙ l z y)) in
        is_held (is_place_of h) _ q.parent q.held (and_both q.directory (and_both (eq-eqb _ _ q.depth) live))

pub shows_is : (t : Table) (h : Head) (o : Option Entry) → entry_of t h.directory h.id h.name ≡ o →
    shows h o ≡ true →
    Entered t h
shows_is t h none e p = absurd (true≢false (sym p))
shows_is t h (some x) e p =
    let q = and_true (leb h.stamp x.stamp) _ p in
    record {
      entry = x;
      there = e;
      stamp = leb-true _ _ q.0;
      live = λ s. implied (eqb h.stamp x.stamp) _ q.1 (eq-eqb _ _ s);
    }

pub is_shown_law : (t : Table) (h : Head) → Entered t h → shows h (entry_of t h.directory h.id h.name) ≡ true
is_shown_law t h n =
    ap (shows h) n.there
    ∙ and_both (le-leb _ _ n.stamp) (to_unless (eqb h.stamp n.entry.stamp) _ (λ s. n.live (eqb-true _ _ s)))

pub parent_is : (t : Table) (d : ℕ) → held_and is_parent (head_of t d) ≡ true → Parent t d
parent_is t d e =
    let p = held_is is_parent (head_of t d) e in
    let q = and_true (is_directory p.0) _ p.2 in
    record { head = p.0; held = p.1; directory = q.0; shallow = ltb-true _ _ q.1 }

pub is_parent_law : (t : Table) (d : ℕ) → Parent t d → held_and is_parent (head_of t d) ≡ true
is_parent_law t d p = is_held is_parent (head_of t d) p.head p.held (and_both p.directory (lt-ltb _ _ p.shallow))

-- ---- from the tests to the rules

-- what a replica keeps, rule by rule
record Kept (t : Table) (r : Replica) : Type 0 where
  maker : maker_holds r.head ≡ true
  own : has r.head.holders t.own ≡ true
  pending : pending_within t r ≡ true
  below : own_below_next t r ≡ true
  place : place_held t r ≡ true
  crowd : not_crowded t r ≡ true
  shown : place_shown t r ≡ true
  clock : clock_seen t r.head.stamp ≡ true

kept_is : (t : Table) (r : Replica) → replica_keeps t r ≡ true → Kept t r
unfolding replica_keeps
kept_is t r e =
    let a = and_true (holders_include t r) _ e in
    let b = and_true (pending_within t r) _ a.1 in
    let c = and_true (own_below_next t r) _ b.1 in
    let d = and_true (place_held t r) _ c.1 in
    let f = and_true (not_crowded t r) _ d.1 in
    let g = and_true (place_shown t r) _ f.1 in
    let h = and_true (maker_holds r.head) _ a.0 in
    record {
      maker = h.0;
      own = h.1;
      pending = b.0;
      below = c.0;
      place = d.0;
      crowd = f.0;
      shown = g.0;
      clock = g.1;
    }

is_kept : (t : Table) (r : Replica) → Kept t r → replica_keeps t r ≡ true
unfolding replica_keeps
is_kept t r k =
    and_both (and_both k.maker k.own)
    (and_both k.pending
    (and_both k.below (and_both k.place (and_both k.crowd (and_both k.shown k.clock)))))

-- what a table's tests are, one by one
record Tests (t : Table) : Type 0 where
  header : table_header_fits (header_of t) ≡ true
  few_replicas : length t.replicas ≤ 64
  few_entries : length t.entries ≤ 256
  replicas_fit : every (replica_fits t.nodes) t.replicas ≡ true
  entries_fit : every (listed_fits t.nodes) t.entries ≡ true
  root : root_first t ≡ true
  ids : ids_unique t ≡ true
  replicas : every (replica_keeps t) t.replicas ≡ true
  entries : every (entry_keeps t) t.entries ≡ true
  keys : keys_unique t ≡ true

tests_of : (t : Table) → sound t ≡ true → Tests t
unfolding sound rules
tests_of t e =
    let p = and_true (fits t) _ e in
    let q = parts_of t p.0 in
    let a = and_true (root_first t) _ p.1 in
    let b = and_true (ids_unique t) _ a.1 in
    let c = and_true (every (replica_keeps t) t.replicas) _ b.1 in
    let d = and_true (every (entry_keeps t) t.entries) _ c.1 in
    record {
      header = q.header;
      few_replicas = q.few_replicas;
      few_entries = q.few_entries;
      replicas_fit = q.replicas;
      entries_fit = q.entries;
      root = a.0;
      ids = b.0;
      replicas = c.0;
      entries = d.0;
      keys = d.1;
    }

of_tests : (t : Table) → Tests t → sound t ≡ true
unfolding sound rules fits
of_tests t k =
    and_both
    (and_both k.header
    (and_both (le-leb _ _ k.few_replicas)
    (and_both k.replicas_fit (and_both (le-leb _ _ k.few_entries) k.entries_fit))))
    (and_both k.root (and_both k.ids (and_both k.replicas (and_both k.entries k.keys))))

-- the header's ranges
record Header (t : Table) : Type 0 where
  size : is_size t.nodes ≡ true
  node : is_node t.nodes t.own ≡ true
  low : 1 ≤ t.next
  high : t.next ≤ 16777216
  highest : t.highest < 2 ^ 40

header_is : (t : Table) → table_header_fits (header_of t) ≡ true → Header t
unfolding table_header_fits
header_is t e =
    let size = and_true (is_size t.nodes) _ e in
    let own = and_true (is_node t.nodes t.own) _ size.1 in
    let next = and_true (is_within 1 t.next 16777216) _ own.1 in
    let within = and_true (leb 1 t.next) _ next.0 in
    record {
      size = size.0;
      node = own.0;
      low = leb-true 1 t.next within.0;
      high = leb-true t.next 16777216 within.1;
      highest = ltb-true t.highest (2 ^ 40) next.1;
    }

is_header : (t : Table) → Header t → table_header_fits (header_of t) ≡ true
unfolding table_header_fits
is_header t h =
    and_both h.size
    (and_both h.node
    (and_both (and_both (le-leb 1 t.next h.low) (le-leb t.next 16777216 h.high))
    (lt-ltb t.highest (2 ^ 40) h.highest)))

-- what an entry keeps
entry_is : (t : Table) (x : Listed) → entry_keeps t x ≡ true →
    Parent t x.directory × (x.entry.child ≡ 0 → ⊥) × (clock_of x.entry.stamp ≤ t.highest)
unfolding entry_keeps
entry_is t x e =
    let p = and_true (directory_held t x) _ e in
    let q = and_true (child_not_root x) _ p.1 in
    (parent_is t x.directory p.0, eqb-false _ _ (not-true _ q.0), leb-true _ _ q.1)

is_entry : (t : Table) (x : Listed) → Parent t x.directory → (x.entry.child ≡ 0 → ⊥) →
    clock_of x.entry.stamp ≤ t.highest → entry_keeps t x ≡ true
unfolding entry_keeps
is_entry t x p z c =
    and_both (is_parent_law t x.directory p) (and_both (ap not (ne_eqb x.entry.child 0 z)) (le-leb _ _ c))

pub sound_is : (t : Table) → sound t ≡ true → Sound t
sound_is t e =
    record {
      size = head.size;
      node = head.node;
      next_low = head.low;
      next_high = head.high;
      highest = head.highest;
      few_replicas = k.few_replicas;
      few_entries = k.few_entries;
      heads_fit = λ f h p. from f h p (λ x. head_fits t.nodes x ≡ true) (λ r i. (fit r i).0);
      versions_fit = λ f r p. (and_true (is_version r.version) _ (fit r (find_in f t.replicas r p)).1).0;
      pendings_fit = λ f r p. (and_true (is_version r.version) _ (fit r (find_in f t.replicas r p)).1).1;
      entries_fit = every_in (listed_fits t.nodes) t.entries k.entries_fit;
      root_first_law = k.root;
      ids_unique_law = k.ids;
      makers_hold = λ f h p. from f h p (λ x. maker_holds x ≡ true) (λ r i. (kept r i).maker);
      own_holds = λ f h p. from f h p (λ x. has x.holders t.own ≡ true) (λ r i. (kept r i).own);
      pendings_within = λ f r p. (kept r (find_in f t.replicas r p)).pending;
      own_below =
          λ f h p. from f h p (λ x. maker x.id ≡ t.own → count x.id < t.next)
          (λ r i q. ltb-true _ _ (implied (eqb (maker r.head.id) t.own) _ (kept r i).below (eq-eqb _ _ q)));
      placed =
          λ f h p. from f h p (λ x. (x.id ≡ 0 → ⊥) → Place t x) (λ r i z. (place_is t r.head z (kept r i).place).0);
      live_places =
          λ f h p. from f h p (λ x. (x.id ≡ 0 → ⊥) → is_live x ≡ true → is_dead (head_of t x.directory) ≡ false)
          (λ r i z. (place_is t r.head z (kept r i).place).1);
      not_crowded_law =
          λ f h p. from f h p (λ x. length (entries_of x.id t.entries) ≤ 32) (λ r i. leb-true _ _ (kept r i).crowd);
      shown =
          λ f h p. from f h p (λ x. (x.id ≡ 0 → ⊥) → is_live x ≡ true → Entered t x)
          (λ r i z l. shows_is t r.head _ refl
          (or_second (is_root_id r.head) _ (implied (is_live r.head) _ (kept r i).shown l) (not_root r.head z)));
      head_clocks = λ f h p. from f h p (λ x. clock_of x.stamp ≤ t.highest) (λ r i. leb-true _ _ (kept r i).clock);
      parents = λ x m. (entry x m).0;
      no_root_child = λ x m. (entry x m).1;
      entry_clocks = λ x m. (entry x m).2;
      keys_unique_law = k.keys;
    }
  where
    k : Tests t
    k = tests_of t e

    head : Header t
    head = header_is t k.header

    fit : (r : Replica) → In r t.replicas →
        (head_fits t.nodes r.head ≡ true) × ((is_version r.version && is_set t.nodes r.pending) ≡ true)
    fit r i =
        and_true (head_fits t.nodes r.head) _ (every_in (replica_fits t.nodes) t.replicas k.replicas_fit r i)

    kept : (r : Replica) → In r t.replicas → Kept t r
    kept r i = kept_is t r (every_in (replica_keeps t) t.replicas k.replicas r i)

    entry : (x : Listed) → In x t.entries →
        Parent t x.directory × (x.entry.child ≡ 0 → ⊥) × (clock_of x.entry.stamp ≤ t.highest)
    entry x m = entry_is t x (every_in (entry_keeps t) t.entries k.entries x m)

    -- a head found is that of a replica of the list
    from : (f : ℕ) (h : Head) → head_of t f ≡ some h → (P : Head → Type 0) →
        ((r : Replica) → In r t.replicas → P r.head) → P h
    from f h p P q =
        let r = head_found (find f t.replicas) h p in
        subst P r.2 (q r.0 (find_in f t.replicas r.0 r.1))

-- ---- and back

pub is_sound : (t : Table) → Sound t → sound t ≡ true
is_sound t s =
    of_tests t
    (record {
      header = is_header t (record {
        size = s.size;
        node = s.node;
        low = s.next_low;
        high = s.next_high;
        highest = s.highest;
      });
      few_replicas = s.few_replicas;
      few_entries = s.few_entries;
      replicas_fit = in_every (replica_fits t.nodes) t.replicas (λ r i. fit r (find_member _ s.ids_unique_law r i));
      entries_fit = in_every (listed_fits t.nodes) t.entries s.entries_fit;
      root = s.root_first_law;
      ids = s.ids_unique_law;
      replicas =
          in_every (replica_keeps t) t.replicas (λ r i. is_kept t r (kept r (find_member _ s.ids_unique_law r i)));
      entries =
          in_every (entry_keeps t) t.entries
          (λ x m. is_entry t x (s.parents x m) (s.no_root_child x m) (s.entry_clocks x m));
      keys = s.keys_unique_law;
    })
  where
    fit : (r : Replica) → find r.head.id t.replicas ≡ some r → replica_fits t.nodes r ≡ true
    fit r p =
        and_both (s.heads_fit r.head.id r.head (ap head_of? p))
        (and_both (s.versions_fit r.head.id r p) (s.pendings_fit r.head.id r p))

    kept : (r : Replica) → find r.head.id t.replicas ≡ some r → Kept t r
    kept r p =
        let f : ℕ = r.head.id in
        let q : head_of t f ≡ some r.head = ap head_of? p in
        record {
          maker = s.makers_hold f r.head q;
          own = s.own_holds f r.head q;
          pending = s.pendings_within f r p;
          below =
              to_unless (eqb (maker f) t.own) _ (λ e. lt-ltb _ _ (s.own_below f r.head q (eqb-true _ _ e)));
          place = is_place t r.head (s.placed f r.head q) (s.live_places f r.head q);
          crowd = le-leb _ _ (s.not_crowded_law f r.head q);
          shown =
              to_unless (is_live r.head) _
              (λ l. or_else (is_root_id r.head) _
              (λ z. is_shown_law t r.head (s.shown f r.head q (eqb-false _ _ z) l)));
          clock = le-leb _ _ (s.head_clocks f r.head q);
        }

-- ---- the root

-- it stands first, so its id finds it
pub root_held : (t : Table) → root_first t ≡ true → head_of t 0 ≡ some (root_head t.nodes)
unfolding first
root_held t e = go t.replicas e
  where
    go : (l : List Replica) → root_in t.nodes l ≡ true → head_of? (find 0 l) ≡ some (root_head t.nodes)
    go [] p = absurd (true≢false (sym p))
    go (r ∷ rs) p =
        let q : r.head ≡ root_head t.nodes = root_is t.nodes r.head p in
        let z : eqb r.head.id 0 ≡ true = ap (λ (h : Head). eqb h.id 0) q in
        ap (λ (b : Bool). head_of? (cond b (some r) (find 0 rs))) z ∙ ap some q

-- the root and no other has id 0
pub root_only : (t : Table) → root_first t ≡ true → (f : ℕ) (h : Head) → head_of t f ≡ some h → h.id ≡ 0 →
    h ≡ root_head t.nodes
root_only t e f h p z =
    some_only
    (sym (head_own f t.replicas h p) ∙ ap (λ (m : ℕ). head_of t m) z ∙ root_held t e)

-- "1 to 16; the root's is 0"
abbrev pub DepthsFit : Table → Type 0
DepthsFit t = Heads t (λ h. h.depth ≤ 16)

pub depths_of : (t : Table) → root_first t ≡ true → HeadsFit t → DepthsFit t
depths_of t r q f h e = go (same? h.id 0)
  where
    go : (h.id ≡ 0) ⊎ (h.id ≡ 0 → ⊥) → h.depth ≤ 16
    go (inl z) = subst (λ (y : Head). y.depth ≤ 16) (sym (root_only t r f h e z)) (omega arith)
    go (inr z) = leb-true _ _ (and_true (leb 1 h.depth) _ (ordinary_is t.nodes h z (q f h e)).depth).1

-- the table that sound bytes are
pub sound_table : (l : List ℕ) → sound_bytes l ≡ true → Sound (table_of l)
sound_table l s = sound_is (table_of l) (bytes_sound l s)
