-- After any call: a replica whose version stayed has what it had, and one whose version rose is to be told. Assumes
-- nothing.
use Rattle.std.specs.Prelude.{◌≡◌, refl, ◌⊎◌, Bool, true, false, List, map, ℕ, ◌≤◌, ◌<◌}
use Rattle.std.proofs.Common.{ap, sym, ◌∙◌, inl, inr, arith}
use Rattle.std.proofs.Math.Option.{Option, some}
use Rattle.names.specs.declared.Name.{Name}
use Rattle.numbers.specs.Nodes.{has}
use Rattle.numbers.specs.Laws.{has_without}
use Rattle.records.specs.declared.head.Head.{Head}
use Rattle.records.specs.declared.entry.Entry.{Entry}
use Rattle.slots.specs.declared.replica.Replica.{Replica}
use Rattle.document.specs.Tables.{Table, find, head_of?, head_of, find_entry, entries_of}
use Rattle.document.specs.Receive.{listed_in}
use Rattle.document.specs.Steps.{unchanged, raised, settle}
use Rattle.views.specs.Puts.{version_of, pending_of, head_found, find_id}
use Rattle.views.specs.Settles.{settled_in, settled_kept, settled_raised, find_settled, head_settle, settle_entries, settle_own, settle_nodes, settle_highest, unchanged_head, unchanged_entries}
use Rattle.cluster.specs.Ranks.{hold_o, vers, pend, Covers, leq_trans}
use Rattle.cluster.specs.Adds.{Adds}
use Rattle.cluster.specs.Directory.{inside_find}

-- unchanged: nothing more is known than before
unchanged_covers : (old u : Table) (f : ℕ) (h : Head) → head_of u f ≡ some h → h.id ≡ f → unchanged old u h ≡ true →
    Covers u old f
unchanged_covers old u f h e i p =
    let o : head_of old f ≡ some h = ap (λ (m : ℕ). head_of old m) (sym i) ∙ unchanged_head old u h p in
    let s : entries_of f old.entries ≡ entries_of f u.entries =
    ap (λ (m : ℕ). entries_of m old.entries) (sym i) ∙ unchanged_entries old u h p ∙ ap
    (λ (m : ℕ). entries_of m u.entries) i in
    let same : (c : ℕ) (n : Name) → find_entry f c n u.entries ≡ find_entry f c n old.entries =
    λ c n. sym (inside_find f c n u.entries) ∙ again f c n (sym s) ∙ inside_find f c n old.entries in
    record { rank = rw (e, o) (omega arith); hold = λ j a. rw o (rw e at a); mark = λ c n. rw (same c n) (omega arith) }
  where
    again : (f c : ℕ) (n : Name) {a b : List Entry} → a ≡ b →
        find_entry f c n (map (listed_in f) a) ≡ find_entry f c n (map (listed_in f) b)
    again f c n q = ap (λ (l : List Entry). find_entry f c n (map (listed_in f) l)) q

-- ---- what an accepted call leaves, against what it met

pub record Still (Told : ℕ → ℕ → Type 0) (t u : Table) (f : ℕ) : Type 0 where
  pub vers : vers u f ≡ vers t f
  pub pend : (j : ℕ) → pend u f j ≡ false → (pend t f j ≡ false) ⊎ Told f j
  pub covers : Covers u t f

pub record ToTell (t u : Table) (f : ℕ) : Type 0 where
  pub vers : vers t f < vers u f
  pub pend : (j : ℕ) → (t.own ≡ j → ⊥) → hold_o (head_of u f) j ≡ true → pend u f j ≡ true

-- Told: to whom the acknowledgement taken in this call speaks, and of which file
pub record Grows (Told : ℕ → ℕ → Type 0) (t u : Table) : Type 0 where
  pub own : u.own ≡ t.own
  pub nodes : u.nodes ≡ t.nodes
  pub highest : t.highest ≤ u.highest
  pub leq : (f : ℕ) → Covers t u f
  pub told : (f : ℕ) (h : Head) → head_of u f ≡ some h → Still Told t u f ⊎ ToTell t u f

abbrev pub Nobody : ℕ → ℕ → Type 0
Nobody f j = ⊥

-- settling changes neither heads nor entries
pub covers_settle : (t u : Table) (f : ℕ) → Covers u (settle t u) f
covers_settle t u f =
    record {
      rank = rw (head_settle t u f) (omega arith);
      hold = λ j p. rw (head_settle t u f) p;
      mark = λ c n. rw (settle_entries t u) (omega arith);
    }

settle_covers : (t u : Table) (f : ℕ) → Covers (settle t u) u f
settle_covers t u f =
    record {
      rank = rw (head_settle t u f) (omega arith);
      hold = λ j p. rw (head_settle t u f) at p;
      mark = λ c n. rw (settle_entries t u) (omega arith);
    }

pub settled : (t u : Table) → Adds t u → Grows Nobody t (settle t u)
settled t u a =
    record {
      own = settle_own t u ∙ a.own;
      nodes = settle_nodes t u ∙ a.nodes;
      highest = rw (settle_highest t u) a.highest;
      leq = λ f. leq_trans f _ _ _ _ _ _ (a.leq f) (covers_settle t u f);
      told = told;
    }
  where
    one : (f : ℕ) (h : Head) (r : Replica) → find f u.replicas ≡ some r → r.head ≡ h → (b : Bool) →
        unchanged t u r.head ≡ b → Still Nobody t (settle t u) f ⊎ ToTell t (settle t u) f
    one f h r e eh true p =
        let w : find f (settle t u).replicas ≡ find f u.replicas =
        find_settled t u f ∙ ap (settled_in t u) e ∙ ap some (settled_kept t u r p) ∙ sym e in
        inl (record {
          vers = ap version_of w ∙ a.vers f;
          pend = λ j q. inl (ap (λ (s : ℕ). has s j) (sym (ap pending_of w ∙ a.pend f)) ∙ q);
          covers =
              leq_trans f _ _ _ _ _ _ (settle_covers t u f)
              (unchanged_covers t u f r.head (ap head_of? e) (find_id f u.replicas r e) p);
        })
    one f h r e eh false p =
        let w : find f (settle t u).replicas ≡ some (raised u.own r) =
        find_settled t u f ∙ ap (settled_in t u) e ∙ ap some (settled_raised t u r p) in
        inr (record {
          vers = omega (arith, ap version_of w, ap version_of e, a.vers f);
          pend = λ j ne q.
              ap (λ (o : Option Replica). has (pending_of o) j) w
              ∙ has_without r.head.holders u.own j (λ z. ne (sym a.own ∙ z))
              ∙ sym (ap (λ (o : Option Replica). hold_o (head_of? o) j) w) ∙ q;
        })

    told : (f : ℕ) (h : Head) → head_of (settle t u) f ≡ some h → Still Nobody t (settle t u) f ⊎ ToTell t (settle t u) f
    told f h e =
        let r = head_found (find f u.replicas) h (sym (head_settle t u f) ∙ e) in
        one f h r.0 r.1 r.2 (unchanged t u r.0.head) refl
