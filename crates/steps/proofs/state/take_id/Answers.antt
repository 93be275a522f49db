-- `steps::state::take_id` meets its contract: the id, and the header that is written. Assumes nothing.
use Rattle.std.proofs.Common.{arith, ◌≡◌, ap, ◌∙◌}
use Rattle.slots.specs.declared.table_header.TableHeader.{TableHeader}
use Rattle.document.specs.Tables.{table_of, header_of}
use Rattle.numbers.specs.Ids.{id_of}
use Rattle.steps.specs.Standing.{moved}
use Rattle.steps.specs.States.{header_read, counted}
use Rattle.steps.proofs.state.take_id.Goals as goal

pub read-old-requires : goal.read-old-requires
read-old-requires c = omega (arith, c.requires.0.size)

pub overflow_add-new : goal.overflow_add-new
overflow_add-new c =
    let h : c.read-old.result ≡ header_of (table_of c.args.t.now) = c.read-old.ensures ∙ header_read c.args.t.now in
    omega (arith, c.requires.2, ap (λ (z : TableHeader). z.next) h)

pub write-requires : goal.write-requires
write-requires c = omega (arith, c.requires.0.size)

pub id_of-requires : goal.id_of-requires
id_of-requires c =
    let h : c.read-old.result ≡ header_of (table_of c.args.t.now) = c.read-old.ensures ∙ header_read c.args.t.now in
    (omega (arith, c.requires.1, ap (λ (z : TableHeader). z.own) h), omega (arith, c.requires.2, ap (λ (z : TableHeader). z.next) h))

pub returns : goal.returns
returns c =
    let h : c.read-old.result ≡ header_of (table_of c.args.t.now) = c.read-old.ensures ∙ header_read c.args.t.now in (
      c.id_of.ensures ∙ ap (λ (z : TableHeader). id_of z.own z.next) h,
      moved (counted c.requires.0 c.fits-t c.requires.2 h) c.write.ensures,
    )
