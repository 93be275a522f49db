-- `table::rules::root_first` meets its contract: there is a slot 0, and the root in it. Assumes nothing.
use Rattle.std.proofs.Common.{lt-ltb}
use Rattle.codec.specs.Lists.{and_go}
use Rattle.document.specs.Tables.{table_of}
use Rattle.table.specs.Ranges.{nodes_at}
use Rattle.table.proofs.rules.root_first.Goals as goal

pub returns-then-used-gt0 : goal.returns-then-used-gt0
unfolding table_of
returns-then-used-gt0 c =
    let n = nodes_at c.args.used.now.t.now in
    and_go _ _ (lt-ltb _ _ c.if-used-gt0.true) (cc (n, c.is_root.ensures, c.head.ensures, c.read-n.ensures))
