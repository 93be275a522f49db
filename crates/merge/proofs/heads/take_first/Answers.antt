-- `merge::heads::take_first` meets its contract. Assumes nothing.
use Rattle.std.proofs.Common.{ap, sym, ◌∙◌}
use Rattle.records.specs.declared.head.Head.{Head}
use Rattle.document.specs.Tables.{table_of}
use Rattle.document.specs.Receive.{step_c}
use Rattle.merge.specs.Working.{made_is}
use Rattle.merge.specs.Message.{first_is}
use Rattle.merge.specs.Heads.{taken_made}
use Rattle.merge.proofs.heads.take_first.Goals as goal

pub put-requires : goal.put-requires
put-requires c = c.requires.works.stands

pub returns : goal.returns
returns c =
    let m = c.args.message.now in
    let first = m.first_is ∙ sym (first_is m.bytes.now) in
    made_is (ap (λ (h : Head). step_c h (table_of c.args.t.now)) first)
    (taken_made m.first _ c.requires.works c.merged-new.ensures c.put.ensures.0 c.put.ensures.1)
