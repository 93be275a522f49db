-- What every step of a receive keeps, the whole of it keeps: a step puts a head, joins an entry or raises the highest
-- clock. So a receive only adds slots, and what is past a limit on the way is past it at the end. Assumes nothing.
use Rattle.std.specs.Prelude.{◌≡◌, refl, Bool, ◌&&◌}
use Rattle.std.proofs.Common.{ap, ◌∙◌}
use Rattle.std.proofs.Math.Bool.{true, false, cond}
use Rattle.std.proofs.Math.Option.{Option, some, none}
use mathlib.Core.List.{List, [], ◌∷◌}
use Prim.Native.Nat.{ℕ, zero, suc}
use Rattle.records.specs.declared.head.Head.{Head}
use Rattle.slots.specs.declared.replica.Replica.{Replica}
use Rattle.slots.specs.declared.listed.Listed.{Listed}
use Rattle.document.specs.Tables.{Table, with_highest, head_of}
use Rattle.document.specs.Sound.{is_live}
use Rattle.document.specs.Steps.{put, joined, join_all, set_by, stamp_at, clock_at, issue, with_state, is_dead, directory_of, relive, make_live, settle, too_many}
use Rattle.document.specs.Messages.{Push}
use Rattle.document.specs.Receive.{step_a, with_own, make_missing, step_b, merged, step_c, taken, joins, mend, step_f, received}
use Rattle.views.specs.Joins.{join_all_law}
use Rattle.steps.specs.Room.{many_joined, many_settle}
use Rattle.steps.specs.Grown.{Grown, grown_refl, grown_put, grown_joined}
use Rattle.merge.specs.Working.{many_more}

-- steps (a) to (f): a receive but for its last step, which raises versions
unfoldable pub stepped : ℕ → Push → Table → Table
stepped now p t = let u = join_all (joins p t) (taken p t) in step_f now u.replicas u

-- a receive is that, settled, so there is room for the one exactly if there is for the other
pub received_stepped : (now : ℕ) (p : Push) (t : Table) → received now p t ≡ settle t (stepped now p t)
unfolding received stepped
received_stepped now p t = refl

pub many_stepped : (now : ℕ) (p : Push) (t : Table) → too_many (received now p t) ≡ too_many (stepped now p t)
many_stepped now p t = ap too_many (received_stepped now p t) ∙ many_settle t (stepped now p t)

module _ (P : Table → Type 0) (raises : (t : Table) (c : ℕ) → P t → P (with_highest t c))
    (puts : (h : Head) (t : Table) → P t → P (put h t))
    (adds : (x : Listed) (t : Table) → P t → P (joined x t)) where
  keeps_joins : (es : List Listed) (t : Table) → P t → P (join_all es t)
  keeps_joins es t k = join_all_law P es (λ e m. adds e) t k

  keeps_issue : (now : ℕ) (f : ℕ → Head) (t : Table) → P t → P (issue now f t)
  unfolding issue
  keeps_issue now f t k =
      let h = f (stamp_at now t) in
      keeps_joins (set_by h (head_of t h.id)) _ (puts h _ (raises t (clock_at now t) k))

  pub keeps_relive : (now : ℕ) (o : Option Head) (t : Table) → P t → P (relive now o t)
  unfolding relive
  keeps_relive now none t k = k
  keeps_relive now (some h) t k = keeps_issue now (with_state h 1) t k

  keeps_live : (n now d : ℕ) (t : Table) → P t → P (make_live n now d t)
  unfolding make_live
  keeps_live zero now d t k = k
  keeps_live (suc n) now d t k =
      let place = directory_of (head_of t d) in
      let u = cond (is_dead (head_of t place)) (make_live n now place t) t in
      keeps_relive now (head_of u d) u (go (is_dead (head_of t place)) (keeps_live n now place t k))
    where
      go : (b : Bool) → P (make_live n now (directory_of (head_of t d)) t) →
          P (cond b (make_live n now (directory_of (head_of t d)) t) t)
      go true up = up
      go false up = k

  pub keeps_mend : (now : ℕ) (o : Option Head) (t : Table) → P t → P (mend now o t)
  keeps_mend now none t k = k
  keeps_mend now (some h) t k = go (is_live h && is_dead (head_of t h.directory))
    where
      go : (b : Bool) → P (cond b (make_live 16 now h.directory t) t)
      go true = keeps_live 16 now h.directory t k
      go false = k

  pub keeps_mends : (now : ℕ) (rs : List Replica) (t : Table) → P t → P (step_f now rs t)
  unfolding step_f
  keeps_mends now [] t k = k
  keeps_mends now (r ∷ rs) t k = keeps_mends now rs _ (keeps_mend now (head_of t r.head.id) t k)

  keeps_above : (hs : List Head) (t : Table) → P t → P (step_b hs t)
  unfolding step_b
  keeps_above [] t k = k
  keeps_above (h ∷ hs) t k = go (head_of (step_b hs t) h.id) (keeps_above hs t k)
    where
      go : (o : Option Head) → P (step_b hs t) → P (make_missing o h (step_b hs t))
      go none u = puts (with_own h (step_b hs t)) (step_b hs t) u
      go (some x) u = u

  pub keeps_first : (h : Head) (t : Table) → P t → P (step_c h t)
  unfolding step_c
  keeps_first h t k = puts (merged (head_of t h.id) h t) t k

  keeps_taken : (p : Push) (t : Table) → P t → P (taken p t)
  unfolding taken step_a
  keeps_taken p t k = keeps_first p.first _ (keeps_above p.above _ (raises t _ k))

  pub keeps_stepped : (now : ℕ) (p : Push) (t : Table) → P t → P (stepped now p t)
  unfolding stepped
  keeps_stepped now p t k = keeps_mends now _ _ (keeps_joins (joins p t) (taken p t) (keeps_taken p t k))

-- ---- past a limit

many_high : (t : Table) (c : ℕ) → too_many t ≡ true → too_many (with_highest t c) ≡ true
unfolding too_many
many_high t c e = e

-- the law for each part
abbrev pub Past : Table → Type 0
Past t = too_many t ≡ true

pub past_first : (h : Head) (t : Table) → Past t → Past (step_c h t)
past_first = keeps_first Past many_high many_more many_joined

pub past_relive : (now : ℕ) (o : Option Head) (t : Table) → Past t → Past (relive now o t)
past_relive = keeps_relive Past many_high many_more many_joined

pub past_mends : (now : ℕ) (rs : List Replica) (t : Table) → Past t → Past (step_f now rs t)
past_mends = keeps_mends Past many_high many_more many_joined

-- ---- slots are only added

module _ (old : Table) where
  grown_high : (t : Table) (c : ℕ) → Grown old t → Grown old (with_highest t c)
  grown_high t c g = record { replicas = g.replicas; entries = g.entries }

  pub grown_mend : (now : ℕ) (o : Option Head) (t : Table) → Grown old t → Grown old (mend now o t)
  grown_mend = keeps_mend (Grown old) grown_high (λ h t. grown_put old t h) (λ x t. grown_joined old t x)

  grown_after : (now : ℕ) (p : Push) (t : Table) → Grown old t → Grown old (stepped now p t)
  grown_after = keeps_stepped (Grown old) grown_high (λ h t. grown_put old t h) (λ x t. grown_joined old t x)

pub grown_stepped : (now : ℕ) (p : Push) (t : Table) → Grown t (stepped now p t)
grown_stepped now p t = grown_after t now p t (grown_refl t)
