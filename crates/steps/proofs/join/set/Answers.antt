-- `steps::join::set` meets its contract: added if there is room, or not added. Assumes nothing.
use Rattle.std.proofs.Common.{arith, ap, sym, ◌≡◌, ◌∙◌, inl, inr}
use Rattle.std.specs.Prelude.{◌<◌, Bool, true, false, ◌⊎◌, List, ℕ}
use borrow.Author.Rules.{rules}
use Rattle.codec.specs.Bytes.{splice}
use Rattle.document.specs.Tables.{table_of, entry_slot}
use Rattle.document.specs.Steps.{joined}
use Rattle.slots.specs.declared.listed.Listed.{Listed}
use Rattle.slots.specs.Listings.{ListedFit, listed_bytes}
use Rattle.steps.specs.declared.join.Joined.{Joined}
use Rattle.steps.specs.declared.join.Joined.TheVariants.{Added, Replaced, Same, AtOdds}
use Rattle.steps.specs.Standing.{Is, moved, never}
use Rattle.steps.specs.Joining.{has_room, is_room, joins_there, joins_new, room_for, bytes_after}
use Rattle.steps.proofs.join.set.Goals as goal
use Rattle.steps.proofs.join.set.Goals.{In-Added, In-Replaced}

abbrev is_added : Joined → Bool
is_added Added = true
is_added (Replaced s) = false
is_added Same = false
is_added AtOdds = false

room : (c : In-Added) → is_room c.args.x.directory (table_of c.args.t.now) ≡ has_room c.args.x (table_of c.args.t.now)
room c =
    let f : ListedFit c.args.x = record { entry = record { child = search rules; stamp = search rules; bytes = search rules }; directory = search rules } in
    room_for c.requires c.fits-t c.args.x f (rw c.of-entries.ensures at c.in-Added.ensures).0

added : (c : In-Added) → is_room c.args.x.directory (table_of c.args.t.now) ≡ true →
    (c.of-entries.result.used < 256)
    × Is (splice c.args.t.now (entry_slot c.of-entries.result.used) (listed_bytes c.args.x)) (joined c.args.x (table_of c.args.t.now))
added c r =
    let f : ListedFit c.args.x = record { entry = record { child = search rules; stamp = search rules; bytes = search rules }; directory = search rules } in
    joins_new c.requires c.fits-t c.args.x f _ (rw c.of-entries.ensures at c.of-entries.result.used_are) (rw c.of-entries.ensures at c.in-Added.ensures).0 r

replaced : (c : In-Replaced) →
    (c.in-Replaced.s < 256) × (true ≡ has_room c.args.x (table_of c.args.t.now))
    × Is (splice c.args.t.now (entry_slot c.in-Replaced.s) (listed_bytes c.args.x)) (joined c.args.x (table_of c.args.t.now))
replaced c =
    let f : ListedFit c.args.x = record { entry = record { child = search rules; stamp = search rules; bytes = search rules }; directory = search rules } in
    joins_there c.requires c.fits-t c.args.x f (Replaced c.in-Replaced.s) (rw c.of-entries.ensures at c.in-Replaced.ensures).0
    (λ e. never (ap is_added e))

-- nothing is written for the other cases
left : (o : Joined) (x : Listed) (l : List ℕ) → (o ≡ Same) ⊎ (o ≡ AtOdds) → (is_added o ≡ false) × (l ≡ bytes_after o x l)
left o x l (inl e) = (ap is_added e, ap (λ (z : Joined). bytes_after z x l) (sym e))
left o x l (inr e) = (ap is_added e, ap (λ (z : Joined). bytes_after z x l) (sym e))

pub returns-then-not-is_room : goal.returns-then-not-is_room
returns-then-not-is_room c =
    ((rw c.of-entries.ensures at c.if-not-is_room.ensures) ∙ room (goal.at.returns-then-not-is_room c).In-Added, λ e. never e)

pub write-requires : goal.write-requires
write-requires c = omega (arith, (added (goal.at.write-requires c).In-Added (sym (rw c.of-entries.ensures at c.if-not-is_room.ensures))).0, c.told-t)

pub returns-else-not-is_room : goal.returns-else-not-is_room
returns-else-not-is_room c =
    let a = (goal.at.returns-else-not-is_room c).In-Added in
    let r = (rw c.of-entries.ensures at c.if-not-is_room.ensures) in
    (r ∙ room a, λ _. moved (added a (sym r)).1 c.write.ensures)

pub overflow_mul-s : goal.overflow_mul-s
overflow_mul-s c = omega (arith, (replaced (goal.at.overflow_mul-s c).In-Replaced).0)

pub overflow_add-s : goal.overflow_add-s
overflow_add-s c = omega (arith, (replaced (goal.at.overflow_add-s c).In-Replaced).0)

pub write-requires-in-Replaced : goal.write-requires-in-Replaced
write-requires-in-Replaced c = omega (arith, (replaced (goal.at.write-requires-in-Replaced c).In-Replaced).0, c.told-t)

pub returns-in-Replaced : goal.returns-in-Replaced
returns-in-Replaced c =
    let p = replaced (goal.at.returns-in-Replaced c).In-Replaced in
    (p.1, λ _. moved p.2 c.write-in-Replaced.ensures)

pub returns-in-Same : goal.returns-in-Same
returns-in-Same c =
    let f : ListedFit c.args.x = record { entry = record { child = search rules; stamp = search rules; bytes = search rules }; directory = search rules } in
    let n = left _ c.args.x c.args.t.now c.in-Same.is in
    let p = joins_there c.requires c.fits-t c.args.x f _ (rw c.of-entries.ensures at c.join.ensures).0 (λ e. never (sym n.0 ∙ ap is_added e)) in
    (p.1, λ _. moved p.2 n.1)
