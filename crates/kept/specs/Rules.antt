-- The rules of a sound table, one by one, over the steps that a call is made of: a head is put, an entry is joined.
-- Each law keeps one rule and asks for no other, so that it serves where some rule is broken for the moment. Assumes
-- nothing.
use Rattle.std.specs.Prelude.{◌≡◌, ◌⊎◌, Bool, false, not, cond, ℕ, ◌≤◌, ◌<◌, eqb}
use Rattle.std.proofs.Math.Path.{refl, ap}
use Rattle.std.proofs.Common.{sym, subst, ◌∙◌, inl, inr, true≢false, arith, eqb-true}
use Rattle.std.proofs.Math.Bool.{true}
use Rattle.std.proofs.Math.Option.{Option, some}
use mathlib.Core.List.{List, [], ◌∷◌}
use Rattle.records.specs.declared.head.Head.{Head}
use Rattle.records.specs.declared.entry.Entry.{Entry}
use Rattle.records.specs.Heads.{is_root, root_is}
use Rattle.slots.specs.declared.replica.Replica.{Replica}
use Rattle.slots.specs.declared.listed.Listed.{Listed}
use Rattle.document.specs.Tables.{Table, head_of, find_entry, entry_of?, entry_of}
use Rattle.document.specs.Sound.{is_live, is_directory, root_in, root_first}
use Rattle.document.specs.Steps.{joined, renewed, put_head, put, place_entry, is_dead}
use Rattle.views.specs.Lists.{In, no_both, same?}
use Rattle.views.specs.Puts.{put_cases, put_here, head_put_other}
use Rattle.views.specs.Joins.{After, entry_found, find_join_same, join_on, join_on_cases, join_in}
use Rattle.views.specs.Sounds.{Place, Entered, Parent, Heads, Entries, Placed, LivePlaces, Parents}

-- ---- one table's heads or entries in another

pub place_same : (t u : Table) (h : Head) → head_of u h.directory ≡ head_of t h.directory → Place t h → Place u h
place_same t u h e p =
    record {
      parent = p.parent;
      held = e ∙ p.held;
      directory = p.directory;
      depth = p.depth;
    }

pub parent_same : (t u : Table) (d : ℕ) → head_of u d ≡ head_of t d → Parent t d → Parent u d
parent_same t u d e p =
    record {
      head = p.head;
      held = e ∙ p.held;
      directory = p.directory;
      shallow = p.shallow;
    }

pub entered_same : (t u : Table) (h : Head) → u.entries ≡ t.entries → Entered t h → Entered u h
entered_same t u h e n =
    record {
      entry = n.entry;
      there = ap (λ (l : List Listed). entry_of? (find_entry h.directory h.id h.name l)) e ∙ n.there;
      stamp = n.stamp;
      live = n.live;
    }

-- ---- a head is put

-- where a directory stood, one of that depth stands
abbrev pub StaysDirectory : Table → Head → Type 0
StaysDirectory t h =
    (o : Head) → head_of t h.id ≡ some o → is_directory o ≡ true → (is_directory h ≡ true) × (h.depth ≡ o.depth)

-- a live one is put under a live one
abbrev pub UnderLive : Table → Head → Type 0
UnderLive t h = (h.id ≡ 0 → ⊥) → is_live h ≡ true → is_dead (head_of t h.directory) ≡ false

-- a dead one is put over no live one
abbrev pub OverDead : Table → Head → Type 0
OverDead t h = is_live h ≡ false → Heads t (λ x. (x.id ≡ 0 → ⊥) → is_live x ≡ true → x.directory ≡ h.id → ⊥)

module _ (h : Head) (t : Table) where
  -- a rule on heads alone
  pub put_heads : (P : Head → Type 0) → P h → Heads t P → Heads (put h t) P
  put_heads P p q f x e = go (put_cases h t.replicas f x e)
    where
      go : ((f ≡ h.id) × (x ≡ h)) ⊎ ((f ≡ h.id → ⊥) × (head_of t f ≡ some x)) → P x
      go (inl (a, b)) = subst P (sym b) p
      go (inr (ne, o)) = q f x o

  pub parent_put : StaysDirectory t h → (d : ℕ) → Parent t d → Parent (put h t) d
  parent_put s d p = go (same? d h.id)
    where
      go : (d ≡ h.id) ⊎ (d ≡ h.id → ⊥) → Parent (put h t) d
      go (inl e) =
          let k = s p.head (ap (λ (m : ℕ). head_of t m) (sym e) ∙ p.held) p.directory in
          record {
            head = h;
            held = put_here h t.replicas d e;
            directory = k.0;
            shallow = omega (arith, k.1, p.shallow);
          }
      go (inr ne) =
          record {
            head = p.head;
            held = head_put_other h t.replicas d ne ∙ p.held;
            directory = p.directory;
            shallow = p.shallow;
          }

  pub place_put : StaysDirectory t h → (x : Head) → Place t x → Place (put h t) x
  place_put s x p = go (same? x.directory h.id)
    where
      go : (x.directory ≡ h.id) ⊎ (x.directory ≡ h.id → ⊥) → Place (put h t) x
      go (inl e) =
          let k = s p.parent (ap (λ (m : ℕ). head_of t m) (sym e) ∙ p.held) p.directory in
          record {
            parent = h;
            held = put_here h t.replicas x.directory e;
            directory = k.0;
            depth = omega (arith, k.1, p.depth);
          }
      go (inr ne) =
          record {
            parent = p.parent;
            held = head_put_other h t.replicas x.directory ne ∙ p.held;
            directory = p.directory;
            depth = p.depth;
          }

  pub put_placed : StaysDirectory t h → ((h.id ≡ 0 → ⊥) → Place t h) → Placed t → Placed (put h t)
  put_placed s p q f x e z = place_put s x (put_heads (λ y. (y.id ≡ 0 → ⊥) → Place t y) p q f x e z)

  pub put_parents : StaysDirectory t h → Parents t → Parents (put h t)
  put_parents s p x m = parent_put s x.directory (p x m)

  pub put_live_places : UnderLive t h → OverDead t h → LivePlaces t → LivePlaces (put h t)
  put_live_places up down l f x e z live =
      go (put_cases h t.replicas f x e) (same? x.directory h.id) (is_live h) refl
    where
      go : ((f ≡ h.id) × (x ≡ h)) ⊎ ((f ≡ h.id → ⊥) × (head_of t f ≡ some x)) →
          (x.directory ≡ h.id) ⊎ (x.directory ≡ h.id → ⊥) → (b : Bool) → is_live h ≡ b →
          is_dead (head_of (put h t) x.directory) ≡ false
      go c (inl q) true a = ap is_dead (put_here h t.replicas x.directory q) ∙ ap not a
      go (inl (p, q)) (inl r) false a = absurd (no_both (is_live h) (ap is_live (sym q) ∙ live) a)
      go (inr (ne, o)) (inl r) false a = absurd (down a f x o z live r)
      go (inl (p, q)) (inr nd) b a =
          ap is_dead (head_put_other h t.replicas x.directory nd)
          ∙ ap (λ (y : Head). is_dead (head_of t y.directory)) q
          ∙ up (λ o. z (ap (λ (y : Head). y.id) q ∙ o)) (ap is_live (sym q) ∙ live)
      go (inr (ne, o)) (inr nd) b a = ap is_dead (head_put_other h t.replicas x.directory nd) ∙ l f x o z live

  -- the root stays first
  pub put_root : (h.id ≡ 0 → is_root t.nodes h ≡ true) → root_first t ≡ true → root_first (put h t) ≡ true
  unfolding put_head
  put_root r e = go t.replicas e
    where
      go : (l : List Replica) → root_in t.nodes l ≡ true → root_in t.nodes (put_head h l) ≡ true
      go [] p = absurd (true≢false (sym p))
      go (x ∷ xs) p = on (eqb x.head.id h.id) refl
        where
          zero_id : x.head.id ≡ 0
          zero_id = ap (λ (y : Head). y.id) (root_is t.nodes x.head p)

          on : (b : Bool) → eqb x.head.id h.id ≡ b →
              root_in t.nodes (cond b (renewed h x ∷ xs) (x ∷ put_head h xs)) ≡ true
          on true q = r (sym (eqb-true _ _ q) ∙ zero_id)
          on false q = p

-- ---- an entry is joined

module _ (e : Listed) (t : Table) where
  -- a rule on entries alone
  pub join_listed : (P : Listed → Type 0) → P e → Entries t P → Entries (joined e t) P
  join_listed P p q x m = go (join_in e t.entries x m)
    where
      go : (x ≡ e) ⊎ In x t.entries → P x
      go (inl s) = subst P (sym s) p
      go (inr i) = q x i

  pub join_parents : Parent t e.directory → Parents t → Parents (joined e t)
  join_parents p q x m =
      parent_same t (joined e t) x.directory refl (join_listed (λ y. Parent t y.directory) p q x m)

-- what a key found is found still, or something newer: so is the entry at a place
pub entered_after : (t u : Table) (h : Head) → Entered t h →
    ((z : Listed) → find_entry h.directory h.id h.name t.entries ≡ some z →
    After z (find_entry h.directory h.id h.name u.entries)) →
    Entered u h
entered_after t u h n after =
    let f = entry_found (find_entry h.directory h.id h.name t.entries) n.entry n.there in
    go f.0 f.2 (after f.0 f.1)
  where
    go : (z : Listed) → z.entry ≡ n.entry → After z (find_entry h.directory h.id h.name u.entries) →
        Entered u h
    go z e a = on a.how
      where
        same : z.entry.stamp ≡ n.entry.stamp
        same = ap (λ (y : Entry). y.stamp) e

        on : (a.entry ≡ z) ⊎ (z.entry.stamp < a.entry.entry.stamp) → Entered u h
        on (inl q) =
            record {
              entry = n.entry;
              there = ap entry_of? a.is ∙ ap (λ (y : Listed). some y.entry) q ∙ ap some e;
              stamp = n.stamp;
              live = n.live;
            }
        on (inr lt) =
            record {
              entry = a.entry.entry;
              there = ap entry_of? a.is;
              stamp = omega (arith, same, n.stamp);
              live = λ s. absurd (omega (arith, same, n.stamp));
            }

-- an entry of the head's stamp that stands at its place is live
abbrev pub NotAtOdds : Table → Head → Type 0
NotAtOdds t h =
    (z : Listed) → find_entry h.directory h.id h.name t.entries ≡ some z → z.entry.stamp ≡ h.stamp →
    eqb z.entry.live 1 ≡ true

-- a live head whose entry is joined has it
pub entered_new : (h : Head) (t : Table) → is_live h ≡ true → NotAtOdds t h → Entered (joined (place_entry h) t) h
entered_new h t l odd = go (join_on_cases (place_entry h) o)
  where
    o : Option Listed
    o = find_entry h.directory h.id h.name t.entries

    there : entry_of (joined (place_entry h) t) h.directory h.id h.name ≡ some (join_on (place_entry h) o).entry
    there = ap entry_of? (find_join_same (place_entry h) t.entries)

    go : (join_on (place_entry h) o ≡ place_entry h)
        ⊎ ((o ≡ some (join_on (place_entry h) o)) × (h.stamp ≤ (join_on (place_entry h) o).entry.stamp)) →
        Entered (joined (place_entry h) t) h
    go (inl q) =
        record {
          entry = (place_entry h).entry;
          there = there ∙ ap (λ (y : Listed). some y.entry) q;
          stamp = omega arith;
          live = λ s. l;
        }
    go (inr (q, le)) =
        record {
          entry = (join_on (place_entry h) o).entry;
          there = there;
          stamp = le;
          live = λ s. odd (join_on (place_entry h) o) q (sym s);
        }
