-- The contract of each call, over the way of answering (P): the function of that name has it with number and value, `Answered`, its
-- exported twin with both in one number, `Packed`. l are the table's bytes before the call and m those after it, b those of the
-- output buffer before and out those after. Definitions only. Assumes nothing.
use Rattle.std.specs.Prelude.{List, ℕ, length}
use Rattle.document.specs.Outcomes.{Outcome}
use Rattle.document.specs.Calls.{start, create, unlink, rename, remove, spread, list, push, receive, acknowledged, pending}
use Rattle.answers.specs.Forms.{Leaves, Writes, LeavesAndWrites}

abbrev pub StartPromise : {A : Type 0} → (Outcome → A → Type 0) → List ℕ → ℕ → ℕ → A → List ℕ → Type 0
StartPromise P l node n r m = Leaves P (start l node n) r l m

abbrev pub CreatePromise : {A : Type 0} → (Outcome → A → Type 0) → List ℕ → ℕ → ℕ → ℕ → List ℕ → ℕ → A → List ℕ → Type 0
CreatePromise P l time directory kind name set r m = Leaves P (create l time directory kind name set) r l m

abbrev pub UnlinkPromise : {A : Type 0} → (Outcome → A → Type 0) → List ℕ → ℕ → ℕ → A → List ℕ → Type 0
UnlinkPromise P l time id r m = Leaves P (unlink l time id) r l m

abbrev pub RenamePromise : {A : Type 0} → (Outcome → A → Type 0) → List ℕ → ℕ → ℕ → ℕ → List ℕ → A → List ℕ → Type 0
RenamePromise P l time id directory name r m = Leaves P (rename l time id directory name) r l m

abbrev pub RemovePromise : {A : Type 0} → (Outcome → A → Type 0) → List ℕ → ℕ → ℕ → A → List ℕ → Type 0
RemovePromise P l time id r m = Leaves P (remove l time id) r l m

abbrev pub SpreadPromise : {A : Type 0} → (Outcome → A → Type 0) → List ℕ → ℕ → ℕ → A → List ℕ → Type 0
SpreadPromise P l id set r m = Leaves P (spread l id set) r l m

abbrev pub ListPromise : {A : Type 0} → (Outcome → A → Type 0) → List ℕ → ℕ → List ℕ → A → List ℕ → Type 0
ListPromise P l id b r out = Writes P (list l id (length b)) r b out

abbrev pub PushPromise : {A : Type 0} → (Outcome → A → Type 0) → List ℕ → ℕ → ℕ → List ℕ → A → List ℕ → Type 0
PushPromise P l id node b r out = Writes P (push l id node (length b)) r b out

abbrev pub ReceivePromise : {A : Type 0} → (Outcome → A → Type 0) → List ℕ → ℕ → List ℕ → List ℕ → A → List ℕ → List ℕ → Type 0
ReceivePromise P l time message b r m out = LeavesAndWrites P (receive l time message (length b)) r l m b out

abbrev pub AcknowledgedPromise : {A : Type 0} → (Outcome → A → Type 0) → List ℕ → List ℕ → A → List ℕ → Type 0
AcknowledgedPromise P l message r m = Leaves P (acknowledged l message) r l m

abbrev pub PendingPromise : {A : Type 0} → (Outcome → A → Type 0) → List ℕ → A → Type 0
PendingPromise P l r = P (pending l) r
