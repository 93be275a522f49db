-- `steps::put::add` meets its contract. Assumes nothing.
use Rattle.std.proofs.Common.{arith}
use borrow.Author.Rules.{rules}
use Rattle.records.specs.Heads.{HeadFit}
use Rattle.document.specs.Reading.{few_replicas}
use Rattle.steps.specs.Standing.{moved, never}
use Rattle.steps.specs.Putting.{put_full, put_next}
use Rattle.steps.proofs.put.add.Goals as goal

pub returns-then-m-eq64 : goal.returns-then-m-eq64
returns-then-m-eq64 c =
    let k = c.requires in
    let f : HeadFit c.args.h = record { id = search rules; stamp = search rules; directory = search rules; bytes = search rules } in
    (put_full k.stands c.fits-t c.args.h f c.replicas_used-m.result c.replicas_used-m.ensures.0 k.absent c.if-m-eq64.true, λ e. never e)

pub overflow_mul-m : goal.overflow_mul-m
overflow_mul-m c = omega (arith, c.replicas_used-m.ensures.0, few_replicas c.args.t.now)

pub overflow_add-m : goal.overflow_add-m
overflow_add-m c = omega (arith, c.replicas_used-m.ensures.0, few_replicas c.args.t.now)

pub write-requires : goal.write-requires
write-requires c = omega (arith, c.replicas_used-m.ensures.0, c.requires.stands.size, few_replicas c.args.t.now)

pub returns : goal.returns
returns c =
    let k = c.requires in
    let f : HeadFit c.args.h = record { id = search rules; stamp = search rules; directory = search rules; bytes = search rules } in
    let few = few_replicas c.args.t.now in
    let p = put_next k.stands c.fits-t c.args.h f c.replicas_used-m.result c.replicas_used-m.ensures.0 k.absent (omega (arith, c.replicas_used-m.ensures.0)) in
    (p.0, λ _. moved p.1 c.write.ensures)
