-- `records::head::Head::is_root` meets its contract: field by field, and the name's bytes one by one. Assumes nothing.
use Rattle.codec.specs.Laws.{same_pointwise}
use Rattle.names.specs.Names.{same_name}
use Rattle.records.specs.Heads.{is_root}
use Rattle.records.proofs.head.Head.is_root.Goals as goal

pub returns : goal.returns
unfolding is_root same_name
returns c = simp (c.eq.ensures, c.root.ensures, same_pointwise)
