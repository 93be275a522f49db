-- `service::start::start` meets its contract: the length, the numbers, and the fresh table's bytes.
--  Assumes nothing.
use Rattle.std.proofs.Common.{sym, arith, eq-eqb, ne_eqb, ◌∙◌}
use Rattle.codec.specs.Lists.{and_stop, and_go, and_both}
use Rattle.numbers.specs.Laws.{size_most, node_most}
use Rattle.answers.specs.Answers.{refuses, does}
use Rattle.answers.specs.declared.refusal.Refusal.TheVariants.{NotSound, OutOfRange}
use Rattle.service.specs.Starting.{start_1, start_2, start_done}
use Rattle.service.proofs.start.start.Goals as goal
use Rattle.service.proofs.start.start.Goals.{then-not-is_size-via-then-not-is_size, then-not-is_size-via-else-not-is_size+then-not-is_node}

pub returns-in_default : goal.returns-in_default
returns-in_default c =
    let a = c.args in
    refuses NotSound _ (start_1 a.table.now a.node a.n (ne_eqb _ _ c.in_default.ensures.cases))

pub returns-then-not-is_size : goal.returns-then-not-is_size
returns-then-not-is_size c =
    let a = c.args in
    let whole = c.in-Some.ensures.cases in
    elim c.then-not-is_size.branch [
      | then-not-is_size-via-then-not-is_size w ↦
          let p =
          refuses OutOfRange a.table.now
          (start_2 a.table.now a.node a.n (eq-eqb _ _ whole.long)
          (sym (and_stop _ _ (sym c.is_size.ensures ∙ w.if-not-is_size.true)))) in
          (p.0, w.table-is ∙ whole.same ∙ p.1)
      | then-not-is_size-via-else-not-is_size+then-not-is_node w ↦
          let p =
          refuses OutOfRange a.table.now
          (start_2 a.table.now a.node a.n (eq-eqb _ _ whole.long)
          (sym (and_go _ _ (sym c.is_size.ensures ∙ w.if-not-is_size.false) (sym (sym w.is_node.ensures ∙ w.if-not-is_node.true))))) in
          (p.0, w.table-is ∙ whole.same ∙ p.1)
    ]

pub overflow_cast-n : goal.overflow_cast-n
overflow_cast-n c =
    omega (arith, size_most c.args.n (sym c.is_size.ensures ∙ c.if-not-is_size.false))

pub overflow_cast-node : goal.overflow_cast-node
overflow_cast-node c =
    let a = c.args in
    omega (
      arith,
      size_most a.n (sym c.is_size.ensures ∙ c.if-not-is_size.false),
      node_most a.n a.node (sym c.is_node.ensures ∙ c.if-not-is_node.false),
    )

pub overflow_cast-n-2 : goal.overflow_cast-n-2
overflow_cast-n-2 c =
    omega (arith, size_most c.args.n (sym c.is_size.ensures ∙ c.if-not-is_size.false))

pub refresh-requires : goal.refresh-requires
refresh-requires c = size_most c.args.n (sym c.is_size.ensures ∙ c.if-not-is_size.false)

pub returns : goal.returns
returns c =
    let a = c.args in
    does _
    (start_done a.table.now a.node a.n (eq-eqb _ _ c.in-Some.ensures.cases.long)
    (and_both (sym c.is_size.ensures ∙ c.if-not-is_size.false)
    (sym c.is_node.ensures ∙ c.if-not-is_node.false)))
    c.refresh.ensures
