-- `steps::put::put` meets its contract. Assumes nothing.
use Rattle.std.proofs.Common.{arith, ◌≡◌, sym, ◌∙◌}
use Rattle.std.specs.Prelude.{◌<◌, Some}
use borrow.Author.Rules.{rules}
use Rattle.records.specs.Heads.{HeadFit}
use Rattle.document.specs.Tables.{replicas_used}
use Rattle.table.specs.Slots.{first_replica}
use Rattle.steps.specs.Standing.{moved}
use Rattle.steps.specs.Putting.{put_at}
use Rattle.steps.proofs.put.put.Goals as goal
use Rattle.steps.proofs.put.put.Goals.{In-Some}

-- the slot that was found
there : (c : In-Some) → first_replica c.args.t.now (replicas_used c.args.t.now) c.args.h.id ≡ Some c.in-Some.i
there c = sym c.slot_of.ensures ∙ c.in-Some.is

slot : (c : In-Some) → c.in-Some.i < 64
slot c =
    let f : HeadFit c.args.h = record { id = search rules; stamp = search rules; directory = search rules; bytes = search rules } in
    (put_at c.requires c.fits-t c.args.h f c.in-Some.i (there c)).1

pub add-requires : goal.add-requires
add-requires c = record { stands = c.requires; absent = sym c.slot_of.ensures ∙ c.in_default.is }

pub overflow_mul-i : goal.overflow_mul-i
overflow_mul-i c = omega (arith, slot (goal.at.overflow_mul-i c).In-Some)

pub overflow_add-i : goal.overflow_add-i
overflow_add-i c = omega (arith, slot (goal.at.overflow_add-i c).In-Some)

pub write-requires : goal.write-requires
write-requires c = omega (arith, slot (goal.at.write-requires c).In-Some, c.requires.size)

pub returns : goal.returns
returns c =
    let f : HeadFit c.args.h = record { id = search rules; stamp = search rules; directory = search rules; bytes = search rules } in
    let p = put_at c.requires c.fits-t c.args.h f c.in-Some.i (there (goal.at.returns c).In-Some) in
    (p.0, λ _. moved p.2 c.write.ensures)
