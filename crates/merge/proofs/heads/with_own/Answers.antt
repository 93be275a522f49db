-- `merge::heads::with_own` meets its contract. Assumes nothing.
use Rattle.std.proofs.Common.{arith, ap, ◌∙◌}
use Rattle.numbers.specs.Nodes.{join, single}
use Rattle.slots.specs.declared.table_header.TableHeader.{TableHeader}
use Rattle.document.specs.Steps.{with_holders}
use Rattle.steps.specs.States.{header_read}
use Rattle.merge.proofs.heads.with_own.Goals as goal

pub single-requires : goal.single-requires
single-requires c =
    omega (arith, c.requires.own, ap (λ (z : TableHeader). z.own) (c.read-own.ensures ∙ header_read c.args.t.now))

pub returns : goal.returns
returns c =
    let own = ap (λ (z : TableHeader). z.own) (c.read-own.ensures ∙ header_read c.args.t.now) in
    ap (with_holders c.args.h) (c.join.ensures ∙ ap (join c.args.h.holders) (c.single.ensures ∙ ap single own))
