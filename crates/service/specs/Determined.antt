-- Determinacy, over all public calls at once: no two differing outcomes satisfy the contract of a call. Each field below cites the
-- contract that the call's function and its twin cite (`Promises`), for whatever bytes and numbers it is given, and says that an
-- answer and what stands in the buffers lent are the only ones that satisfy it. It holds of the calls, which answer number and
-- value, and of their exported twins, which answer both in one number; `Forms.packed_apart` (crate `answers`) has that such a
-- number is of one number and one value only. Assumes nothing.
use Rattle.std.specs.Prelude.{◌≡◌, List, ℕ, length}
use Rattle.std.proofs.Common.{sym, ◌∙◌}
use Rattle.document.specs.Outcomes.{Outcome}
use Rattle.document.specs.Calls.{start, create, unlink, rename, remove, spread, list, push, receive, acknowledged, pending}
use Rattle.service.specs.Promises.{StartPromise, CreatePromise, UnlinkPromise, RenamePromise, RemovePromise, SpreadPromise, ListPromise, PushPromise, ReceivePromise, AcknowledgedPromise, PendingPromise}
use Rattle.answers.specs.Forms.{Answered, Packed, Leaves, Writes, LeavesAndWrites, OneAnswer, answered_once, packed_once}

-- only one answer; only one with one content of a buffer; only one with one content of two
abbrev pub Only : {A : Type 0} → (A → Type 0) → Type 0
Only {A = A} R = (r r' : A) → R r → R r' → r ≡ r'

abbrev pub OnlyWith : {A : Type 0} → (A → List ℕ → Type 0) → Type 0
OnlyWith {A = A} R = (r r' : A) (m m' : List ℕ) → R r m → R r' m' → (r ≡ r') × (m ≡ m')

abbrev pub OnlyWithBoth : {A : Type 0} → (A → List ℕ → List ℕ → Type 0) → Type 0
OnlyWithBoth {A = A} R =
    (r r' : A) (m m' out out' : List ℕ) → R r m out → R r' m' out' → (r ≡ r') × (m ≡ m') × (out ≡ out')

-- P is how the calls answer
pub record Determined {A : Type 0} (P : Outcome → A → Type 0) : Type 0 where
  pub starts : (l : List ℕ) (node n : ℕ) → OnlyWith (StartPromise P l node n)
  pub creates : (l : List ℕ) (time directory kind : ℕ) (name : List ℕ) (set : ℕ) →
      OnlyWith (CreatePromise P l time directory kind name set)
  pub unlinks : (l : List ℕ) (time id : ℕ) → OnlyWith (UnlinkPromise P l time id)
  pub renames : (l : List ℕ) (time id directory : ℕ) (name : List ℕ) → OnlyWith (RenamePromise P l time id directory name)
  pub removes : (l : List ℕ) (time id : ℕ) → OnlyWith (RemovePromise P l time id)
  pub spreads : (l : List ℕ) (id set : ℕ) → OnlyWith (SpreadPromise P l id set)
  pub lists : (l : List ℕ) (id : ℕ) (b : List ℕ) → OnlyWith (ListPromise P l id b)
  pub pushes : (l : List ℕ) (id node : ℕ) (b : List ℕ) → OnlyWith (PushPromise P l id node b)
  pub receives : (l : List ℕ) (time : ℕ) (message b : List ℕ) → OnlyWithBoth (ReceivePromise P l time message b)
  pub acknowledges : (l message : List ℕ) → OnlyWith (AcknowledgedPromise P l message)
  pub counts : (l : List ℕ) → Only (PendingPromise P l)

-- each form, once for all calls of that form
changes_once : {A : Type 0} (P : Outcome → A → Type 0) → OneAnswer P → (o : Outcome) (l : List ℕ) →
    OnlyWith (λ (r : A) (m : List ℕ). Leaves P o r l m)
changes_once P one o l r r' m m' p q = (one o r r' p.0 q.0, p.1 ∙ sym q.1)

writes_once : {A : Type 0} (P : Outcome → A → Type 0) → OneAnswer P → (o : Outcome) (b : List ℕ) →
    OnlyWith (λ (r : A) (out : List ℕ). Writes P o r b out)
writes_once P one o b r r' m m' p q = (one o r r' p.0 q.0, p.1 ∙ sym q.1)

both_once : {A : Type 0} (P : Outcome → A → Type 0) → OneAnswer P → (o : Outcome) (l b : List ℕ) →
    OnlyWithBoth (λ (r : A) (m out : List ℕ). LeavesAndWrites P o r l m b out)
both_once P one o l b r r' m m' out out' p q = (one o r r' p.0 q.0, p.1 ∙ sym q.1, p.2 ∙ sym q.2)

-- the theorem, for any way of answering that leaves one answer
pub determined : {A : Type 0} (P : Outcome → A → Type 0) → OneAnswer P → Determined P
determined P one =
    record {
      starts = λ l node n. changes_once P one (start l node n) l;
      creates = λ l time directory kind name set. changes_once P one (create l time directory kind name set) l;
      unlinks = λ l time id. changes_once P one (unlink l time id) l;
      renames = λ l time id directory name. changes_once P one (rename l time id directory name) l;
      removes = λ l time id. changes_once P one (remove l time id) l;
      spreads = λ l id set. changes_once P one (spread l id set) l;
      lists = λ l id b. writes_once P one (list l id (length b)) b;
      pushes = λ l id node b. writes_once P one (push l id node (length b)) b;
      receives = λ l time message b. both_once P one (receive l time message (length b)) l b;
      acknowledges = λ l message. changes_once P one (acknowledged l message) l;
      counts = λ l. one (pending l);
    }

pub calls_determined : Determined Answered
calls_determined = determined Answered answered_once

pub twins_determined : Determined Packed
twins_determined = determined Packed packed_once
