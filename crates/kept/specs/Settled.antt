-- The end of a call: `settle` gives each replica its version and its pending set, and makes a table that is firm, and
-- within the limits, sound. What it does to each replica, where the steps before it carried versions. Assumes nothing.
use Rattle.std.specs.Prelude.{◌≡◌, refl, ◌⊎◌, Bool, true, false, not, List, ℕ, ◌+◌, ◌^◌, ◌≤◌, ◌<◌, leb, ltb, length}
use Rattle.std.proofs.Common.{ap, sym, subst, ◌∙◌, inl, inr, arith, leb-true, leb-false, ltb-true, ltb-false, le-leb, lt-ltb}
use Rattle.std.proofs.Math.Option.{Option, some, none}
use Rattle.std.proofs.Math.Pow.{ones_lt}
use Rattle.std.proofs.lemmas.Bool.{not-false}
use Rattle.codec.specs.Lists.{every, and_both}
use Rattle.numbers.specs.Nodes.{is_set, without}
use Rattle.numbers.specs.Ids.{is_version}
use Rattle.records.specs.declared.head.Head.{Head}
use Rattle.records.specs.Ordinary.{ordinary_is}
use Rattle.slots.specs.declared.replica.Replica.{Replica}
use Rattle.slots.specs.Replicas.{replica_ext}
use Rattle.document.specs.Tables.{Table, with_replicas, find, head_of?, head_of, entries_of}
use Rattle.document.specs.Sound.{distinct, same_id, is_part_of, root_in, root_first, not_crowded}
use Rattle.document.specs.Steps.{unchanged, raised, settle_all, settle, is_dead, too_many, past_end}
use Rattle.views.specs.Lists.{In, or_false_both, some_only, not_none, same?, every_in}
use Rattle.views.specs.Puts.{version_of, pending_of, find_id, find_in, head_found}
use Rattle.views.specs.Sets.{part_refl, is_set_without}
use Rattle.views.specs.Settles.{unchanged_head, unchanged_entries, settled, settled_in, settled_kept, settled_raised, find_settle, head_settle_all, settle_distinct, settle_root}
use Rattle.views.specs.Sounds.{Heads, HeadsFit, VersionsFit, PendingsFit, PendingsWithin, NotCrowded, Sound, root_only}
use Rattle.kept.specs.Rules.{place_same, parent_same, entered_same}
use Rattle.kept.specs.Firm.{Firm, Carried}

-- ---- replica by replica

-- what is found after it was found before it
settled_from : (old u : Table) (o : Option Replica) (r : Replica) → settled_in old u o ≡ some r →
    (x : Replica) × (o ≡ some x) × (r ≡ settled old u x)
settled_from old u none r e = absurd (not_none e)
settled_from old u (some x) r e = (x, refl, sym (some_only e))

-- a replica that is found after the call is one that the old table has, with the same entries; or its version was raised
pub record Same (old u : Table) (f : ℕ) (r : Replica) : Type 0 where
  pub stood : find f old.replicas ≡ some r
  pub stands : find f u.replicas ≡ some r
  pub entries : entries_of f old.entries ≡ entries_of f u.entries

pub record Raised (old u : Table) (f : ℕ) (r : Replica) : Type 0 where
  pub before : Replica
  pub stands : find f u.replicas ≡ some before
  pub changed : unchanged old u before.head ≡ false
  pub is : r ≡ raised u.own before
  pub version : r.version ≡ version_of (find f old.replicas) + 1

pub settle_cases : (old u : Table) → Carried old u → (f : ℕ) (r : Replica) →
    find f (settle_all old u u.replicas) ≡ some r → Same old u f r ⊎ Raised old u f r
settle_cases old u c f r e =
    let s = settled_from old u (find f u.replicas) r (sym (find_settle old u f u.replicas) ∙ e) in
    go s.0 s.1 s.2 (unchanged old u s.0.head) refl
  where
    go : (x : Replica) → find f u.replicas ≡ some x → r ≡ settled old u x → (b : Bool) →
        unchanged old u x.head ≡ b →
        Same old u f r ⊎ Raised old u f r
    go x at is true same = inl (record {
      stood = q.1 ∙ ap some (sym one);
      stands = at ∙ ap some (sym kept);
      entries =
          ap (λ (m : ℕ). entries_of m old.entries) (sym id) ∙ unchanged_entries old u x.head same
          ∙ ap (λ (m : ℕ). entries_of m u.entries) id;
    })
      where
        id : x.head.id ≡ f
        id = find_id f u.replicas x at

        kept : r ≡ x
        kept = is ∙ settled_kept old u x same

        q : (y : Replica) × (find f old.replicas ≡ some y) × (y.head ≡ x.head)
        q = head_found (find f old.replicas) x.head
            (ap (λ (m : ℕ). head_of old m) (sym id) ∙ unchanged_head old u x.head same)

        one : r ≡ q.0
        one =
            kept
            ∙ replica_ext (sym q.2)
            (sym (ap version_of at) ∙ c.version f ∙ ap version_of q.1)
            (sym (ap pending_of at) ∙ c.pending f ∙ ap pending_of q.1)
    go x at is false other = inr (record {
      before = x;
      stands = at;
      changed = other;
      is = is ∙ settled_raised old u x other;
      version =
          ap (λ (y : Replica). y.version) (is ∙ settled_raised old u x other)
          ∙ ap (λ (v : ℕ). v + 1) (sym (ap version_of at) ∙ c.version f);
    })

-- ---- the limits that the outcome is within

pub record Within (t : Table) : Type 0 where
  pub few_replicas : length t.replicas ≤ 64
  pub few_entries : length t.entries ≤ 256
  pub not_crowded_law : (r : Replica) → In r t.replicas → not_crowded t r ≡ true
  pub highest : t.highest < 2 ^ 40
  pub versions : (r : Replica) → In r t.replicas → r.version < 2 ^ 32
  pub next : t.next ≤ 16777216

pub within : (t : Table) → too_many t ≡ false → past_end t ≡ false → Within t
unfolding too_many past_end
within t a b =
    let p = or_false_both (ltb 64 (length t.replicas)) _ a in
    let q = or_false_both (ltb 256 (length t.entries)) _ p.1 in
    let r = or_false_both (leb (2 ^ 40) t.highest) _ b in
    let s = or_false_both (not (every (λ (x : Replica). ltb x.version (2 ^ 32)) t.replicas)) _ r.1 in
    record {
      few_replicas = ltb-false 64 (length t.replicas) p.0;
      few_entries = ltb-false 256 (length t.entries) q.0;
      not_crowded_law = every_in (not_crowded t) t.replicas (not-false _ q.1);
      highest = leb-false (2 ^ 40) t.highest r.0;
      versions =
          λ x i. ltb-true x.version (2 ^ 32)
          (every_in (λ (y : Replica). ltb y.version (2 ^ 32)) t.replicas (not-false _ s.0) x i);
      next = ltb-false 16777216 t.next s.1;
    }

-- ---- sound

-- holders are within the nodes, the root's too
pub holders_fit : (t : Table) → root_first t ≡ true → HeadsFit t → Heads t (λ h. is_set t.nodes h.holders ≡ true)
holders_fit t r q f h e = go (same? h.id 0)
  where
    go : (h.id ≡ 0) ⊎ (h.id ≡ 0 → ⊥) → is_set t.nodes h.holders ≡ true
    go (inl z) =
        ap (λ (y : Head). is_set t.nodes y.holders) (root_only t r f h e z) ∙ lt-ltb _ _ (ones_lt t.nodes)
    go (inr z) = (ordinary_is t.nodes h z (q f h e)).holders

is_version_law : (v : ℕ) → 1 ≤ v → v < 2 ^ 32 → is_version v ≡ true
unfolding is_version
is_version_law v a b = and_both (le-leb 1 v a) (lt-ltb v (2 ^ 32) b)

-- a firm table whose versions and pending sets were changed, in range and within the limits, is sound
pub record Finished (t : Table) : Type 0 where
  pub versions_fit : VersionsFit t
  pub pendings_fit : PendingsFit t
  pub pendings_within : PendingsWithin t
  pub not_crowded_law : NotCrowded t
  pub few_replicas : length t.replicas ≤ 64
  pub few_entries : length t.entries ≤ 256
  pub highest : t.highest < 2 ^ 40
  pub next_high : t.next ≤ 16777216

pub sound_replicas : (u : Table) (l : List Replica) → Firm u → ((f : ℕ) → head_of? (find f l) ≡ head_of u f) →
    distinct same_id l ≡ true → root_in u.nodes l ≡ true → Finished (with_replicas u l) → Sound (with_replicas u l)
sound_replicas u l k heads ids root z =
    record {
      size = k.base.size;
      node = k.base.node;
      next_low = k.base.next_low;
      next_high = z.next_high;
      highest = z.highest;
      few_replicas = z.few_replicas;
      few_entries = z.few_entries;
      heads_fit = λ f h e. k.base.heads_fit z.highest f h (back f h e);
      versions_fit = z.versions_fit;
      pendings_fit = z.pendings_fit;
      entries_fit = k.base.entries_fit z.highest;
      root_first_law = root;
      ids_unique_law = ids;
      makers_hold = λ f h e. k.base.makers_hold f h (back f h e);
      own_holds = λ f h e. k.base.own_holds f h (back f h e);
      pendings_within = z.pendings_within;
      own_below = λ f h e. k.base.own_below f h (back f h e);
      placed = λ f h e n. place_same u (with_replicas u l) h (heads h.directory) (k.base.placed f h (back f h e) n);
      live_places = λ f h e n a. ap is_dead (heads h.directory) ∙ k.live_places f h (back f h e) n a;
      not_crowded_law = z.not_crowded_law;
      shown = λ f h e n a. entered_same u (with_replicas u l) h refl (k.shown f h (back f h e) n a);
      head_clocks = λ f h e. k.base.head_clocks f h (back f h e);
      parents = λ x i. parent_same u (with_replicas u l) x.directory (heads x.directory) (k.base.parents x i);
      no_root_child = k.base.no_root_child;
      entry_clocks = k.base.entry_clocks;
      keys_unique_law = k.base.keys_unique_law;
    }
  where
    back : (f : ℕ) (h : Head) → head_of? (find f l) ≡ some h → head_of u f ≡ some h
    back f h e = sym (heads f) ∙ e

-- so is one that came from a sound one by steps that carry versions, once it is settled
pub sound_settle : (old u : Table) → Sound old → u.nodes ≡ old.nodes → u.own ≡ old.own → Firm u → Carried old u →
    too_many (settle old u) ≡ false → past_end (settle old u) ≡ false → Sound (settle old u)
unfolding settle
sound_settle old u s nodes own k c few ends =
    sound_replicas u (settle_all old u u.replicas) k (λ f. head_settle_all old u f u.replicas)
    (settle_distinct old u u.replicas k.base.ids_unique_law)
    (settle_root old u u.nodes u.replicas ∙ k.base.root_first_law)
    (record {
      versions_fit = λ f r e. version f r e (settle_cases old u c f r e);
      pendings_fit = λ f r e. pending_fits f r (settle_cases old u c f r e);
      pendings_within = λ f r e. pending_within_law f r (settle_cases old u c f r e);
      not_crowded_law = crowd;
      few_replicas = w.few_replicas;
      few_entries = w.few_entries;
      highest = w.highest;
      next_high = w.next;
    })
  where
    w : Within (with_replicas u (settle_all old u u.replicas))
    w = within _ few ends

    version : (f : ℕ) (r : Replica) → find f (settle_all old u u.replicas) ≡ some r →
        Same old u f r ⊎ Raised old u f r →
        is_version r.version ≡ true
    version f r e (inl a) = s.versions_fit f r a.stood
    version f r e (inr a) =
        is_version_law r.version (omega (arith, a.version))
        (w.versions r (find_in f (settle_all old u u.replicas) r e))

    pending_fits : (f : ℕ) (r : Replica) → Same old u f r ⊎ Raised old u f r → is_set u.nodes r.pending ≡ true
    pending_fits f r (inl a) = ap (λ (n : ℕ). is_set n r.pending) nodes ∙ s.pendings_fit f r a.stood
    pending_fits f r (inr a) =
        ap (λ (y : Replica). is_set u.nodes y.pending) a.is
        ∙ is_set_without u.nodes a.before.head.holders u.own
        (holders_fit u k.base.root_first_law (k.base.heads_fit w.highest) f a.before.head
        (ap head_of? a.stands))

    pending_within_law : (f : ℕ) (r : Replica) → Same old u f r ⊎ Raised old u f r →
        is_part_of r.pending (without r.head.holders u.own) ≡ true
    pending_within_law f r (inl a) =
        ap (λ (o : ℕ). is_part_of r.pending (without r.head.holders o)) own ∙ s.pendings_within f r a.stood
    pending_within_law f r (inr a) =
        ap (λ (y : Replica). is_part_of y.pending (without y.head.holders u.own)) a.is
        ∙ part_refl (without a.before.head.holders u.own)

    crowd : (f : ℕ) (h : Head) → head_of? (find f (settle_all old u u.replicas)) ≡ some h →
        length (entries_of h.id u.entries) ≤ 32
    crowd f h e =
        let r = head_found (find f (settle_all old u u.replicas)) h e in
        let i = find_in f (settle_all old u u.replicas) r.0 r.1 in
        subst (λ (y : Head). length (entries_of y.id u.entries) ≤ 32) r.2 (leb-true _ _ (w.not_crowded_law r.0 i))
