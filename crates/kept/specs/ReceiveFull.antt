-- Every name that a receive leaves has its fifteen bytes: those of the table and of the message have them, and no step
-- makes another. So what a receive leaves has bytes of its own. Assumes nothing.
use Rattle.std.specs.Prelude.{◌≡◌, refl, ◌⊎◌, Bool, true, false, ◌&&◌, cond, List, [], ◌∷◌, ℕ, zero, suc, ◌≤◌, ltb}
use Rattle.std.proofs.Common.{ap, sym, subst, ◌∙◌, inl, inr}
use Rattle.std.proofs.Math.Option.{Option, some, none}
use mathlib.Core.List.Memᴰ
use Rattle.codec.specs.Lists.{and_true}
use Rattle.records.specs.declared.head.Head.{Head}
use Rattle.records.specs.declared.entry.Entry.{Entry}
use Rattle.slots.specs.declared.replica.Replica.{Replica}
use Rattle.slots.specs.declared.listed.Listed.{Listed}
use Rattle.document.specs.Tables.{Table, head_of}
use Rattle.document.specs.Sound.{is_live}
use Rattle.document.specs.Steps.{join_all, set_by, with_state, is_dead, directory_of, relive, make_live}
use Rattle.document.specs.Messages.{Push, read_push, message_in_range}
use Rattle.document.specs.Receive.{step_a, with_own, make_missing, step_b, merged, step_c, taken, listed_in, joined_in, set_above, set_if_taken, set_in, joins, mend, step_f, received}
use Rattle.document.specs.Layouts.{is_full}
use Rattle.document.specs.ReadingMessages.{full_head, full_entry, heads_of, ShapedPush, message_shaped, read_some}
use Rattle.views.specs.Lists.{In, every_in}
use Rattle.kept.specs.Shapes.{Full, full_head_law, full_put, full_joins, full_set, full_high, full_issue, full_settle}
use Rattle.kept.specs.ReceiveStands.{set_above_cases}

-- ---- the message's names

pub record FullPush (p : Push) : Type 0 where
  pub heads : (h : Head) → In h (heads_of p) → is_full h.name ≡ true
  pub entries : (e : Entry) → In e p.entries → is_full e.name ≡ true

pub message_full : (n : ℕ) (l : List ℕ) (p : Push) → n ≤ 8 → read_push n l ≡ some p → FullPush p
unfolding read_push
message_full n l p m e =
    let found = read_some _ e in
    let range = and_true (message_in_range n l) _ found.0 in
    let s : ShapedPush p = subst ShapedPush found.1 (message_shaped n l m range.0) in
    record { heads = every_in full_head (heads_of p) s.heads; entries = every_in full_entry p.entries s.entries }

-- ---- (a) to (e)

full_B : (hs : List Head) (t : Table) → ((h : Head) → In h hs → is_full h.name ≡ true) → Full t → Full (step_b hs t)
unfolding step_b
full_B [] t k s = s
full_B (h ∷ hs) t k s = go (head_of (step_b hs t) h.id) (full_B hs t (λ x m. k x (Memᴰ.tail m)) s)
  where
    go : (o : Option Head) → Full (step_b hs t) → Full (make_missing o h (step_b hs t))
    go none u = full_put (with_own h (step_b hs t)) (step_b hs t) (k h (Memᴰ.head refl)) u
    go (some o) u = u

module _ (p : Push) (t : Table) (k : FullPush p) (s : Full t) where
  first_full : is_full p.first.name ≡ true
  first_full = k.heads p.first (Memᴰ.head refl)

  full_C : Full (taken p t)
  unfolding taken step_c step_a
  full_C = full_put (merged (head_of u p.first.id) p.first u) u (name (head_of u p.first.id) refl) full
    where
      u : Table
      u = step_b p.above (step_a p t)

      full : Full (step_b p.above (step_a p t))
      full = full_B p.above (step_a p t) (λ h m. k.heads h (Memᴰ.tail m)) (full_high t (step_a p t).highest s)

      name : (o : Option Head) → head_of (step_b p.above (step_a p t)) p.first.id ≡ o →
          is_full (merged o p.first (step_b p.above (step_a p t))).name ≡ true
      name none e = first_full
      name (some o) e = go (ltb o.stamp p.first.stamp)
        where
          go : (b : Bool) → is_full (cond b p.first o).name ≡ true
          go true = first_full
          go false = full_head_law (step_b p.above (step_a p t)) full p.first.id o e

  taken_full : (o : Option Head) → head_of t p.first.id ≡ o → (e : Listed) → In e (set_if_taken o p.first) →
      is_full e.entry.name ≡ true
  taken_full o q e i =
      full_set p.first o first_full (λ old r. full_head_law t s p.first.id old (q ∙ r)) e (set o i)
    where
      set : (o : Option Head) → In e (set_if_taken o p.first) → In e (set_by p.first o)
      set none j = j
      set (some x) j = go (ltb x.stamp p.first.stamp) j
        where
          go : (b : Bool) → In e (cond b (set_by p.first (some x)) []) → In e (set_by p.first (some x))
          go true k = k
          go false k = elim k [ ]

  joins_full : (e : Listed) → In e (joins p t) → is_full e.entry.name ≡ true
  joins_full e i = go (Memᴰ.append_cases (joined_in p) i)
    where
      set : In e (set_above t p.above) ⊎ In e (set_if_taken (head_of t p.first.id) p.first) →
          is_full e.entry.name ≡ true
      set (inl j) =
          let r = set_above_cases t p.above e j in
          ap (λ (x : Listed). is_full x.entry.name) r.2 ∙ k.heads r.0 (Memᴰ.tail r.1)
      set (inr j) = taken_full (head_of t p.first.id) refl e j

      go : In e (joined_in p) ⊎ In e (set_in t p) → is_full e.entry.name ≡ true
      go (inl j) =
          let r = Memᴰ.of_map (listed_in p.first.id) p.entries j in
          ap (λ (x : Listed). is_full x.entry.name) (sym r.2) ∙ k.entries r.0 r.1
      go (inr j) = set (Memᴰ.append_cases (set_above t p.above) j)

  full_E : Full (join_all (joins p t) (taken p t))
  full_E = full_joins (joins p t) (taken p t) joins_full full_C

-- ---- (f)

full_relive : (now d : ℕ) (o : Option Head) (t : Table) → head_of t d ≡ o → Full t → Full (relive now o t)
unfolding relive
full_relive now d none t e s = s
full_relive now d (some h) t e s = full_issue now (with_state h 1) t (full_head_law t s d h e) s

full_live : (k now d : ℕ) (t : Table) → Full t → Full (make_live k now d t)
unfolding make_live
full_live zero now d t s = s
full_live (suc k) now d t s =
    let u = cond (is_dead (head_of t place)) (make_live k now place t) t in
    full_relive now d (head_of u d) u refl (go (is_dead (head_of t place)) (full_live k now place t s))
  where
    place : ℕ
    place = directory_of (head_of t d)

    go : (b : Bool) → Full (make_live k now place t) → Full (cond b (make_live k now place t) t)
    go true l = l
    go false l = s

full_mend : (now : ℕ) (o : Option Head) (t : Table) → Full t → Full (mend now o t)
full_mend now none t s = s
full_mend now (some h) t s = go (is_live h && is_dead (head_of t h.directory))
  where
    go : (b : Bool) → Full (cond b (make_live 16 now h.directory t) t)
    go true = full_live 16 now h.directory t s
    go false = s

full_F : (now : ℕ) (l : List Replica) (t : Table) → Full t → Full (step_f now l t)
unfolding step_f
full_F now [] t s = s
full_F now (r ∷ rs) t s =
    full_F now rs (mend now (head_of t r.head.id) t) (full_mend now (head_of t r.head.id) t s)

pub full_received : (now : ℕ) (p : Push) (t : Table) → FullPush p → Full t → Full (received now p t)
unfolding received
full_received now p t k s =
    let u = join_all (joins p t) (taken p t) in
    full_settle t (step_f now u.replicas u) (full_F now u.replicas u (full_E p t k s))
