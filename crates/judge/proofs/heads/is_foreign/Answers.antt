-- `judge::heads::is_foreign` meets its contract. Assumes nothing.
use Rattle.std.proofs.Common.{◌≡◌, ap, ◌∙◌}
use Rattle.slots.specs.declared.table_header.TableHeader.{TableHeader}
use Rattle.document.specs.Tables.{table_of}
use Rattle.steps.specs.States.{header_read}
use Rattle.judge.proofs.heads.is_foreign.Goals as goal

pub returns : goal.returns
returns c =
    let own : c.read-header.result.own ≡ (table_of c.args.t.now).own =
    ap (λ (z : TableHeader). z.own) (c.read-header.ensures ∙ header_read c.args.t.now) in
    cc (own, c.maker.ensures)
