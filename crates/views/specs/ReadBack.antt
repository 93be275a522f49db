-- "a push read back gives the heads and entries that its writer held": the push that a sound table writes of a replica
-- that it holds, for a node that is pending, is in range and hangs together, so every table with that N reads it as the
-- push that was written. And the acknowledgement of a push that was read is read as it was written. Assumes nothing.
use Rattle.std.specs.Prelude.{◌≡◌, refl, ◌⊎◌, Bool, ◌&&◌, ◌||◌, ℕ, suc, ◌≤◌, eqb, ltb, length}
use Rattle.std.proofs.Math.Path.{ap}
use Rattle.std.proofs.Common.{sym, subst, ◌∙◌, inl, inr, arith, eq-eqb, ne_eqb, le-leb, lt-ltb}
use Rattle.std.proofs.Math.Bool.{true, not}
use Rattle.std.proofs.Math.Option.{some}
use mathlib.Core.List.Memᴰ
use mathlib.Core.List.{List, [], ◌∷◌}
use Rattle.std.proofs.lemmas.Bool.{eqb-false, not-true}
use Rattle.codec.specs.Lists.{every, and_true, and_both}
use Rattle.numbers.specs.Nodes.{is_node, has, without}
use Rattle.numbers.specs.Laws.{size_most}
use Rattle.numbers.specs.Ids.{is_version}
use Rattle.records.specs.declared.head.Head.{Head}
use Rattle.records.specs.declared.entry.Entry.{Entry}
use Rattle.records.specs.Heads.{head_fits}
use Rattle.records.specs.Ordinary.{head_id_fits}
use Rattle.records.specs.Entries.{entry_fits}
use Rattle.messages.specs.Acknowledgements.{ack_bytes, ack_fits}
use Rattle.messages.specs.PushHeaders.{push_fits}
use Rattle.slots.specs.declared.replica.Replica.{Replica}
use Rattle.slots.specs.declared.listed.Listed.{Listed}
use Rattle.document.specs.Tables.{Table, find, head_of?, head_of, entries_of, table_of}
use Rattle.document.specs.Sound.{is_root_id, is_directory, maker_holds, distinct, sound_bytes}
use Rattle.document.specs.Messages.{Push, header_of_push, message_bytes, message_in_range, chained, is_chain, chain_up, same_head_id, is_empty, hangs_together, read_push, read_ack, push_from}
use Rattle.document.specs.Receive.{ack_for}
use Rattle.document.specs.Layouts.{full_replica, full_listed}
use Rattle.document.specs.Reading.{Shaped, sound_shaped}
use Rattle.document.specs.ReadingMessages.{full_head, full_entry, ShapedPush, message_fits, push_parts_law, push_read_write, message_fits_law, read_some, is_ack, ack_read_write}
use Rattle.views.specs.Lists.{In, same?, some_only, every_in, in_every}
use Rattle.views.specs.Puts.{find_id, find_in, head_found}
use Rattle.views.specs.Joins.{entries_in_law, entries_apart}
use Rattle.views.specs.Sets.{part_has, without_has}
use Rattle.views.specs.Sounds.{Sound, root_only, depths_of, sound_table}
use Rattle.views.specs.Chains.{chain_held, chain_of, head_count}

-- ---- the push of a replica that is held

module _ (t : Table) (s : Sound t) (id : ℕ) (r : Replica) (found : find id t.replicas ≡ some r) (node : ℕ) where
  abbrev p : Push
  p = push_from t r.head r.version node

  held : head_of t id ≡ some r.head
  held = ap head_of? found

  -- the chain of the root is empty
  abbrev above_it : List Head
  above_it = chain_up r.head.depth r.head.directory t

  alone : r.head.id ≡ 0 → above_it ≡ []
  unfolding chain_up
  alone z =
      let root = root_only t s.root_first_law id r.head held z in
      ap (λ (h : Head). chain_up h.depth r.head.directory t) root

  -- each of its heads is held
  heads_held : (g : Head) → In g (r.head ∷ above_it) → (f : ℕ) × (head_of t f ≡ some g)
  heads_held g m = go (Memᴰ.cases_cons m)
    where
      go : (g ≡ r.head) ⊎ In g above_it → (f : ℕ) × (head_of t f ≡ some g)
      go (inl z) = (id, held ∙ ap some (sym z))
      go (inr i) = chain_held r.head.depth r.head.directory t g i

  each_head : (f : Head → Bool) → ((k : ℕ) (g : Head) → head_of t k ≡ some g → f g ≡ true) →
      every f (r.head ∷ above_it) ≡ true
  each_head f h = in_every f (r.head ∷ above_it) (λ g m. let q = heads_held g m in h q.0 g q.1)

  -- each of its entries is one of the table's
  abbrev listed_it : List Entry
  listed_it = entries_of r.head.id t.entries

  each_entry : (f : Entry → Bool) → ((x : Listed) → In x t.entries → f x.entry ≡ true) → every f listed_it ≡ true
  each_entry f h =
      in_every f listed_it
      (λ e m.
      let q = entries_in_law r.head.id t.entries e m in
      ap f (sym q.3) ∙ h q.0 q.1)

  -- the header is in range
  header_fits : is_node t.nodes node ≡ true → push_fits t.nodes (header_of_push p) ≡ true
  unfolding push_fits push_from
  header_fits n =
      let count = head_count t s id r.head held in
      let few = s.not_crowded_law id r.head held in
      let most = depths_of t s.root_first_law s.heads_fit id r.head held in
      and_both s.node
      (and_both n
      (and_both (s.versions_fit id r found)
      (and_both
      (and_both (le-leb 1 (suc (length above_it)) (omega arith)) (le-leb (suc (length above_it)) 16 (omega arith)))
      (le-leb (length listed_it) 32 few))))

  -- it hangs together
  chain_fits : is_chain r.head above_it ≡ true
  chain_fits =
      and_both (eq-eqb _ _ (head_count t s id r.head held)) (go (same? r.head.id 0))
    where
      go : (r.head.id ≡ 0) ⊎ (r.head.id ≡ 0 → ⊥) → (is_root_id r.head || chained r.head above_it) ≡ true
      go (inl z) = ap (λ (b : Bool). b || chained r.head above_it) (eq-eqb _ _ z)
      go (inr n) =
          ap (λ (b : Bool). b || chained r.head above_it) (ne_eqb _ _ n)
          ∙ (chain_of t s r.head.depth id r.head held n refl).linked

  ids_apart : distinct same_head_id (r.head ∷ above_it) ≡ true
  unfolding distinct every
  ids_apart = go (same? r.head.id 0)
    where
      go : (r.head.id ≡ 0) ⊎ (r.head.id ≡ 0 → ⊥) → distinct same_head_id (r.head ∷ above_it) ≡ true
      go (inl z) = ap (λ (gs : List Head). distinct same_head_id (r.head ∷ gs)) (alone z)
      go (inr n) = (chain_of t s r.head.depth id r.head held n refl).apart

  -- a pending node is a holder
  pending_holds : has r.pending node ≡ true → has r.head.holders node ≡ true
  pending_holds e =
      without_has r.head.holders t.own node
      (part_has r.pending (without r.head.holders t.own) node (s.pendings_within id r found) e)

  -- a directory that has entries is less than 16 deep
  may_list : (is_empty listed_it || (is_directory r.head && ltb r.head.depth 16)) ≡ true
  may_list = go listed_it (λ e m. entries_in_law r.head.id t.entries e m)
    where
      go : (es : List Entry) →
          ((e : Entry) → In e es → (x : Listed) × In x t.entries × (x.directory ≡ r.head.id) × (x.entry ≡ e)) →
          (is_empty es || (is_directory r.head && ltb r.head.depth 16)) ≡ true
      go [] f = refl
      go (e ∷ es) f =
          let x = f e (Memᴰ.head refl) in
          let q = s.parents x.0 x.1 in
          let same : q.head ≡ r.head =
          some_only
          (sym q.held ∙ ap (head_of t) (x.2 ∙ find_id id t.replicas r found) ∙ held) in
          subst (λ (h : Head). (is_directory h && ltb h.depth 16) ≡ true) same
          (and_both q.directory (lt-ltb _ _ q.shallow))

  together : has r.pending node ≡ true → hangs_together p ≡ true
  unfolding hangs_together push_from
  together e =
      and_both chain_fits
      (and_both ids_apart
      (and_both
      (each_head (λ (h : Head). maker_holds h && has h.holders t.own)
      (λ k g m. and_both (s.makers_hold k g m) (s.own_holds k g m)))
      (and_both (pending_holds e)
      (and_both (entries_apart r.head.id t.entries s.keys_unique_law)
      (and_both
      (each_entry (λ (x : Entry). not (eqb x.child 0)) (λ x m. ap not (ne_eqb _ _ (s.no_root_child x m))))
      may_list)))))

  -- so it is in range, for the N of its writer
  push_fits_law : is_node t.nodes node ≡ true → (node ≡ t.own → ⊥) → has r.pending node ≡ true →
      message_fits t.nodes p ≡ true
  unfolding message_fits push_from
  push_fits_law n o e =
      and_both (header_fits n)
      (and_both (ap not (ne_eqb _ _ (λ z. o (sym z))))
      (and_both (each_head (head_fits t.nodes) s.heads_fit)
      (and_both
      (each_entry (entry_fits t.nodes) (λ x m. (and_true (entry_fits t.nodes x.entry) _ (s.entries_fit x m)).0))
      (together e))))

  -- where the table's names have their fifteen bytes, so have those of the push
  push_shaped : Shaped t → ShapedPush p
  unfolding push_from
  push_shaped h =
      record {
        heads =
            each_head full_head
            (λ k g m.
            let q = head_found (find k t.replicas) g m in
            ap full_head (sym q.2) ∙ every_in full_replica t.replicas h.replicas q.0 (find_in k _ q.0 q.1));
        entries = each_entry full_entry (every_in full_listed t.entries h.entries);
      }

-- ---- the push, written and read

-- a name of a table has fifteen bytes: `is_name` does not say so, and where it had fewer, zeros would be read behind
-- them
pub push_read_back : (t : Table) → Sound t → Shaped t → (id node : ℕ) (r : Replica) →
    find id t.replicas ≡ some r → is_node t.nodes node ≡ true → (node ≡ t.own → ⊥) →
    has r.pending node ≡ true →
    read_push t.nodes (message_bytes (push_from t r.head r.version node))
    ≡ some (push_from t r.head r.version node)
push_read_back t s h id node r f n o w =
    push_read_write t.nodes (push_from t r.head r.version node) (size_most t.nodes s.size)
    (push_shaped t s id r f node h) (push_fits_law t s id r f node n o w)

-- the same of the bytes of a table, whose names have fifteen bytes
pub bytes_read_back : (l : List ℕ) → sound_bytes l ≡ true → (id node : ℕ) (r : Replica) →
    find id (table_of l).replicas ≡ some r → is_node (table_of l).nodes node ≡ true → (node ≡ (table_of l).own → ⊥) →
    has r.pending node ≡ true →
    read_push (table_of l).nodes (message_bytes (push_from (table_of l) r.head r.version node))
    ≡ some (push_from (table_of l) r.head r.version node)
bytes_read_back l e = push_read_back (table_of l) (sound_table l e) (sound_shaped l e)

-- ---- the acknowledgement, written and read

ack_fits_law : (n : ℕ) (p : Push) → message_fits n p ≡ true → is_ack n (ack_for p) ≡ true
unfolding ack_fits push_fits every
ack_fits_law n p e =
    let q = push_parts_law n p e in
    let sender = and_true (is_node n p.sender) _ q.header in
    let addressee = and_true (is_node n p.addressee) _ sender.1 in
    let version = and_true (is_version p.version) _ addressee.1 in
    let first = and_true (head_fits n p.first) _ q.heads in
    and_both
    (and_both addressee.0 (and_both sender.0 (and_both version.0 (head_id_fits n p.first first.0))))
    (ap not
    (ne_eqb p.addressee p.sender (λ z. eqb-false p.sender p.addressee (not-true _ q.apart) (sym z))))

-- of a push in range
pub ack_read_back : (n : ℕ) (p : Push) → n ≤ 8 → message_fits n p ≡ true →
    read_ack n (ack_bytes (ack_for p)) ≡ some (ack_for p)
ack_read_back n p m e = ack_read_write n (ack_for p) m (ack_fits_law n p e)

-- a push that was read is in range
pub push_read : (n : ℕ) → n ≤ 8 → (l : List ℕ) (p : Push) → read_push n l ≡ some p → message_fits n p ≡ true
unfolding read_push
push_read n m l p e =
    let found = read_some _ e in
    let range = and_true (message_in_range n l) _ found.0 in
    ap (message_fits n) (sym found.1) ∙ message_fits_law n l m range.0 range.1

-- and so is its acknowledgement read back
pub ack_of_read : (n : ℕ) (l : List ℕ) (p : Push) → n ≤ 8 → read_push n l ≡ some p →
    read_ack n (ack_bytes (ack_for p)) ≡ some (ack_for p)
ack_of_read n l p m e = ack_read_back n p m (push_read n m l p e)
