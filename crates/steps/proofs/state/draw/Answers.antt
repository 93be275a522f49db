-- `steps::state::draw` meets its contract: the clock, the stamp, and the header that is written. Assumes nothing.
use Rattle.std.proofs.Common.{arith, ◌≡◌, ap, ◌∙◌}
use Rattle.slots.specs.declared.table_header.TableHeader.{TableHeader}
use Rattle.document.specs.Tables.{table_of, header_of}
use Rattle.steps.specs.Standing.{moved}
use Rattle.steps.specs.States.{header_read, drawn}
use Rattle.steps.proofs.state.draw.Goals as goal

pub read-old-requires : goal.read-old-requires
read-old-requires c = omega (arith, c.requires.0.size)

pub tick-highest-requires : goal.tick-highest-requires
tick-highest-requires c =
    let h : c.read-old.result ≡ header_of (table_of c.args.t.now) = c.read-old.ensures ∙ header_read c.args.t.now in
    (omega (arith, c.requires.1, ap (λ (z : TableHeader). z.highest) h), c.requires.2)

pub write-requires : goal.write-requires
write-requires c = omega (arith, c.requires.0.size)

pub returns : goal.returns
returns c =
    let h : c.read-old.result ≡ header_of (table_of c.args.t.now) = c.read-old.ensures ∙ header_read c.args.t.now in
    let q = drawn c.requires.0 c.fits-t c.args.time c.requires.1 c.requires.2 h c.tick-highest.ensures in
    (q.0, moved q.1 c.write.ensures)
