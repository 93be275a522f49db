-- What a message that is well formed (line 4 of the refusals) and not at odds with the table (line 13) says, as
-- propositions: what the proof that a receive leaves a sound table goes by. Assumes nothing.
use Rattle.std.specs.Prelude.{◌≡◌, refl, ◌⊎◌, Bool, true, false, ◌&&◌, ◌||◌, not, List, [], ◌∷◌, ℕ, suc, ◌+◌, ◌≤◌, ◌<◌, max, eqb, ltb, length}
use Rattle.std.proofs.Common.{ap, sym, subst, ◌∙◌, inl, inr, true≢false, arith, eq-eqb, ne_eqb, eqb-true, ltb-true}
use Rattle.std.proofs.Math.Option.{Option, some, none}
use mathlib.Core.List.Memᴰ
use Rattle.std.proofs.lemmas.Bool.{eqb-false, not-true, not-false}
use Rattle.codec.specs.Lists.{every, and_true, implied}
use Rattle.numbers.specs.Nodes.{has}
use Rattle.numbers.specs.Ids.{maker}
use Rattle.records.specs.declared.head.Head.{Head}
use Rattle.records.specs.declared.entry.Entry.{Entry}
use Rattle.records.specs.Heads.{head_fits, root_head}
use Rattle.records.specs.Entries.{entry_fits}
use Rattle.records.specs.Ordinary.{root_fits}
use Rattle.messages.specs.PushHeaders.{push_fits}
use Rattle.document.specs.Tables.{Table, head_of}
use Rattle.document.specs.Sound.{is_live, is_directory, is_root_id, is_held, maker_holds, distinct}
use Rattle.document.specs.Steps.{same_place, odd_all}
use Rattle.document.specs.Messages.{Push, header_of_push, chained, is_chain, same_head_id, same_child_name, is_empty, hangs_together, read_push, message_in_range, message_of}
use Rattle.document.specs.Receive.{odd_head, is_stray, odd, joins, taken}
use Rattle.document.specs.ReadingMessages.{heads_of, PushParts, push_parts_law, message_fits_law, read_some}
use Rattle.views.specs.Lists.{In, every_in, or_false_both, or_second, same?}
use Rattle.views.specs.Issues.{same_place_law}

-- ---- tests as propositions

pub and_false : (a b : Bool) → (a && b) ≡ false → a ≡ true → b ≡ false
and_false true b h e = h
and_false false b h e = absurd (true≢false (sym e))

-- ---- line 4

-- the heads from h on up: each one's place is the next, one less deep, a directory, and live if the one below is; no id
-- is there twice; the last one's place is the root
unfoldable pub Chain : Head → List Head → Type 0
Chain h [] = (h.directory ≡ 0) × (h.depth ≡ 1)
Chain h (g ∷ gs) =
    (h.directory ≡ g.id) × (h.depth ≡ g.depth + 1) × (is_directory g ≡ true) × (is_live h ≡ true → is_live g ≡ true)
    × ((x : Head) → In x gs → g.id ≡ x.id → ⊥) × Chain g gs

-- a head in range, that its maker and the sender hold
pub record HeadSays (n node : ℕ) (h : Head) : Type 0 where
  pub fits : head_fits n h ≡ true
  pub maker : maker_holds h ≡ true
  pub sender : has h.holders node ≡ true

-- an entry in range, not for the root, under a directory less than 16 deep
pub record EntrySays (n : ℕ) (h : Head) (e : Entry) : Type 0 where
  pub fits : entry_fits n e ≡ true
  pub child : e.child ≡ 0 → ⊥
  pub directory : is_directory h ≡ true
  pub depth : h.depth < 16

-- a push: the root's has no head above it, any other hangs by its chain from the root; no head above is the root's, or
-- the first one again
pub record MessageSays (n : ℕ) (p : Push) : Type 0 where
  pub header : push_fits n (header_of_push p) ≡ true
  pub apart : p.sender ≡ p.addressee → ⊥
  pub root : p.first.id ≡ 0 → (p.first ≡ root_head n) × (p.above ≡ [])
  pub chain : (p.first.id ≡ 0 → ⊥) → Chain p.first p.above
  pub first : HeadSays n p.sender p.first
  pub heads : (h : Head) → In h p.above → HeadSays n p.sender h
  pub nonroot : (h : Head) → In h p.above → h.id ≡ 0 → ⊥
  pub twice : (h : Head) → In h p.above → p.first.id ≡ h.id → ⊥
  pub addressee : has p.first.holders p.addressee ≡ true
  pub entries : (e : Entry) → In e p.entries → EntrySays n p.first e
  pub keys : distinct same_child_name p.entries ≡ true

-- no other head has that id
none_same : (h : Head) (l : List Head) → every (λ y. not (same_head_id h y)) l ≡ true → (x : Head) → In x l →
    h.id ≡ x.id → ⊥
none_same h l e x m q =
    eqb-false h.id x.id (not-true (same_head_id h x) (every_in (λ y. not (same_head_id h y)) l e x m)) q

chain_of : (h : Head) (l : List Head) → chained h l ≡ true → distinct same_head_id l ≡ true → Chain h l
unfolding chained distinct Chain
chain_of h [] e d =
    let a = and_true (eqb h.directory 0) _ e in
    (eqb-true h.directory 0 a.0, eqb-true h.depth 1 a.1)
chain_of h (g ∷ gs) e d =
    let a = and_true (eqb h.directory g.id) _ e in
    let b = and_true (eqb h.depth (g.depth + 1)) _ a.1 in
    let k = and_true (is_directory g) _ b.1 in
    let l = and_true (not (is_live h) || is_live g) _ k.1 in
    let u = and_true (every (λ y. not (same_head_id g y)) gs) _ d in (
      eqb-true h.directory g.id a.0,
      eqb-true h.depth (g.depth + 1) b.0,
      k.0,
      implied (is_live h) (is_live g) l.0,
      none_same g gs u.0,
      chain_of g gs l.1 u.1,
    )

-- those of a chain are at least 1 deep, so none is the root
chain_depth : (h : Head) (l : List Head) → Chain h l → 1 ≤ h.depth
unfolding Chain
chain_depth h [] (d, e) = omega arith
chain_depth h (g ∷ gs) (d, e, k, l, u, r) = omega arith

chain_depths : (h : Head) (l : List Head) → Chain h l → (x : Head) → In x l → 1 ≤ x.depth
unfolding Chain
chain_depths h [] c x m = elim m [ ]
chain_depths h (g ∷ gs) (d, e, k, l, u, r) x m =
    go (Memᴰ.cases_cons m) (chain_depth g gs r) (chain_depths g gs r x)
  where
    go : (x ≡ g) ⊎ In x gs → 1 ≤ g.depth → (In x gs → 1 ≤ x.depth) → 1 ≤ x.depth
    go (inl q) h ih = omega (arith, ap (λ (y : Head). y.depth) q)
    go (inr i) h ih = ih i

no_heads : (l : List Head) → length l ≡ 0 → l ≡ []
no_heads [] e = refl
no_heads (h ∷ hs) e = absurd (omega arith)

-- the tests of `hangs_together` on each head and on each entry
abbrev held_by : ℕ → Head → Bool
held_by node h = maker_holds h && has h.holders node

abbrev not_for_root : Entry → Bool
not_for_root e = not (eqb e.child 0)

abbrev may_hang : Push → Bool
may_hang p = is_directory p.first && ltb p.first.depth 16

-- where there is an entry
hangs : (p : Push) (e : Entry) → In e p.entries → (is_empty p.entries || may_hang p) ≡ true →
    (is_directory p.first ≡ true) × (p.first.depth < 16)
hangs p e m h =
    let a = and_true (is_directory p.first) _ (or_second (is_empty p.entries) _ h (some_entry p.entries m)) in
    (a.0, ltb-true p.first.depth 16 a.1)
  where
    some_entry : (l : List Entry) → In e l → is_empty l ≡ false
    some_entry [] i = elim i [ ]
    some_entry (x ∷ xs) i = refl

-- the tests one by one
record Tests (n : ℕ) (p : Push) : Type 0 where
  count : suc (length p.above) ≡ max 1 p.first.depth
  chain : (is_root_id p.first || chained p.first p.above) ≡ true
  apart : every (λ y. not (same_head_id p.first y)) p.above ≡ true
  ids : distinct same_head_id p.above ≡ true
  holders : every (held_by p.sender) (heads_of p) ≡ true
  addressee : has p.first.holders p.addressee ≡ true
  keys : distinct same_child_name p.entries ≡ true
  children : every not_for_root p.entries ≡ true
  parent : (is_empty p.entries || may_hang p) ≡ true

tests_of : (n : ℕ) (p : Push) → hangs_together p ≡ true → Tests n p
unfolding hangs_together distinct
tests_of n p e =
    let a = and_true (is_chain p.first p.above) _ e in
    let b = and_true (eqb (suc (length p.above)) (max 1 p.first.depth)) _ a.0 in
    let c = and_true (distinct same_head_id (heads_of p)) _ a.1 in
    let d = and_true (every (λ y. not (same_head_id p.first y)) p.above) _ c.0 in
    let f = and_true (every (held_by p.sender) (heads_of p)) _ c.1 in
    let g = and_true (has p.first.holders p.addressee) _ f.1 in
    let h = and_true (distinct same_child_name p.entries) _ g.1 in
    let k = and_true (every not_for_root p.entries) _ h.1 in
    record {
      count = eqb-true (suc (length p.above)) (max 1 p.first.depth) b.0;
      chain = b.1;
      apart = d.0;
      ids = d.1;
      holders = f.0;
      addressee = g.0;
      keys = h.0;
      children = k.0;
      parent = k.1;
    }

message_of_law : (n : ℕ) (p : Push) → PushParts n p → MessageSays n p
message_of_law n p q =
    record {
      header = q.header;
      apart = eqb-false p.sender p.addressee (not-true (eqb p.sender p.addressee) q.apart);
      root = root;
      chain = chain;
      first = says p.first (Memᴰ.head refl);
      heads = λ h m. says h (Memᴰ.tail m);
      nonroot = λ h m. nonroot h m (same? p.first.id 0);
      twice = none_same p.first p.above k.apart;
      addressee = k.addressee;
      entries = λ e m. entry e m (hangs p e m k.parent);
      keys = k.keys;
    }
  where
    k : Tests n p
    k = tests_of n p q.together

    says : (h : Head) → In h (heads_of p) → HeadSays n p.sender h
    says h m =
        let a = and_true (maker_holds h) _ (every_in (held_by p.sender) (heads_of p) k.holders h m) in
        record { fits = every_in (head_fits n) (heads_of p) q.heads h m; maker = a.0; sender = a.1 }

    root : p.first.id ≡ 0 → (p.first ≡ root_head n) × (p.above ≡ [])
    root z =
        let r = root_fits n p.first (says p.first (Memᴰ.head refl)).fits z in
        (r, no_heads p.above (omega (arith, k.count, ap (λ (h : Head). h.depth) r)))

    chain : (p.first.id ≡ 0 → ⊥) → Chain p.first p.above
    chain z =
        let c = or_second (is_root_id p.first) _ k.chain (ne_eqb p.first.id 0 z) in
        chain_of p.first p.above c k.ids

    nonroot : (h : Head) → In h p.above → (p.first.id ≡ 0) ⊎ (p.first.id ≡ 0 → ⊥) → h.id ≡ 0 → ⊥
    nonroot h m (inl o) z = let i : In h [] = subst (λ (l : List Head). In h l) (root o).1 m in elim i [ ]
    nonroot h m (inr o) z =
        let r = root_fits n h (says h (Memᴰ.tail m)).fits z in
        omega (arith, chain_depths p.first p.above (chain o) h m, ap (λ (y : Head). y.depth) r)

    entry : (e : Entry) → In e p.entries → (is_directory p.first ≡ true) × (p.first.depth < 16) →
        EntrySays n p.first e
    entry e m (d, l) =
        record {
          fits = every_in (entry_fits n) p.entries q.entries e m;
          child = eqb-false e.child 0 (not-true _ (every_in not_for_root p.entries k.children e m));
          directory = d;
          depth = l;
        }

-- what is read from bytes says all that
pub message_says : (n : ℕ) (l : List ℕ) (p : Push) → n ≤ 8 → read_push n l ≡ some p → MessageSays n p
unfolding read_push
message_says n l p m e =
    let found = read_some _ e in
    let range = and_true (message_in_range n l) _ found.0 in
    subst (MessageSays n) found.1
    (message_of_law n (message_of l) (push_parts_law n (message_of l) (message_fits_law n l m range.0 range.1)))

-- ---- line 13

-- a head and the table's of that id: one kind; of a directory one place and depth; of equal stamps one state
pub record HeadAgrees (h o : Head) : Type 0 where
  pub kind : o.kind ≡ h.kind
  pub directory : is_directory o ≡ true → o.directory ≡ h.directory
  pub name : is_directory o ≡ true → o.name ≡ h.name
  pub depth : is_directory o ≡ true → o.depth ≡ h.depth
  pub state : o.stamp ≡ h.stamp → (o.live ≡ h.live) × (o.directory ≡ h.directory) × (o.name ≡ h.name)

-- each head that is held agrees, none that is not held is of own making, and no join is at odds
pub record TableAgrees (p : Push) (t : Table) : Type 0 where
  pub held : (h : Head) → In h (heads_of p) → (o : Head) → head_of t h.id ≡ some o → HeadAgrees h o
  pub stray : (h : Head) → In h (heads_of p) → head_of t h.id ≡ none → maker h.id ≡ t.own → ⊥
  pub joins : odd_all (joins p t) (taken p t) ≡ false

agrees : (h o : Head) → odd_head h (some o) ≡ false → HeadAgrees h o
agrees h o e =
    let kind = or_false_both (not (eqb o.kind h.kind)) _ e in
    let rest = or_false_both (is_directory o && not (same_place o h && eqb o.depth h.depth)) _ kind.1 in
    let at : is_directory o ≡ true → (same_place o h ≡ true) × (eqb o.depth h.depth ≡ true) =
    λ d. and_true (same_place o h) _ (not-false _ (and_false (is_directory o) _ rest.0 d)) in
    let one : o.stamp ≡ h.stamp → (eqb o.live h.live ≡ true) × (same_place o h ≡ true) =
    λ s.
    let t = and_false (eqb o.stamp h.stamp) _ rest.1 (eq-eqb _ _ s) in
    and_true (eqb o.live h.live) _ (not-false _ t) in
    record {
      kind = eqb-true o.kind h.kind (not-false (eqb o.kind h.kind) kind.0);
      directory = λ d. (same_place_law o h (at d).0).0;
      name = λ d. (same_place_law o h (at d).0).1;
      depth = λ d. eqb-true o.depth h.depth (at d).1;
      state = λ s. let spot = same_place_law o h (one s).1 in (eqb-true o.live h.live (one s).0, spot.0, spot.1);
    }

-- the test of `odd` on each head
abbrev not_odd : Table → Head → Bool
not_odd t h = not (odd_head h (head_of t h.id) || is_stray t h)

pub table_agrees : (p : Push) (t : Table) → odd p t ≡ false → TableAgrees p t
unfolding odd
table_agrees p t e =
    let a = or_false_both (not (every (not_odd t) (heads_of p))) _ e in
    let each : (h : Head) → In h (heads_of p) → (odd_head h (head_of t h.id) ≡ false) × (is_stray t h ≡ false) =
    λ h m.
    let b = every_in (not_odd t) (heads_of p) (not-false _ a.0) h m in
    or_false_both (odd_head h (head_of t h.id)) _ (not-true _ b) in
    record {
      held = λ h m o q. agrees h o (ap (odd_head h) (sym q) ∙ (each h m).0);
      stray = λ h m q.
          eqb-false (maker h.id) t.own
          (and_false (not (is_held (head_of t h.id))) _ (each h m).1 (ap (λ (o : Option Head). not (is_held o)) q));
      joins = a.1;
    }
