-- `changes::create::create` meets its contract. Assumes nothing.
use Rattle.std.specs.Prelude.{ℕ}
use Rattle.std.proofs.Common.{◌≡◌, arith, ap, sym, subst, ◌∙◌}
use Rattle.names.specs.declared.Name.{Name}
use Rattle.names.specs.Names.{name_from}
use Rattle.numbers.specs.Nodes.{is_set}
use Rattle.answers.specs.declared.refusal.Refusal.{Refusal}
use Rattle.answers.specs.declared.refusal.Refusal.TheVariants.{OutOfRange}
use Rattle.answers.specs.Refusals.{code}
use Rattle.answers.specs.Answers.{refuses, instead}
use Rattle.answers.specs.Passing.{refuses_on}
use Rattle.document.specs.Outcomes.{refused}
use Rattle.document.specs.Tables.{table_of}
use Rattle.document.specs.Calls.{create_in}
use Rattle.table.specs.Ranges.{nodes_at}
use Rattle.changes.specs.Working.{nodes_few}
use Rattle.changes.specs.Killing.{takes_held}
use Rattle.changes.specs.Creating.{created_in, create_2, create_6, create_in_law, bad_now, bad_kind, bad_name, bad_set, good_of, good_set}
use Rattle.changes.proofs.create.create.Goals as goal
use Rattle.changes.proofs.create.create.Goals.{then-time-gt-LATEST-via-then-time-gt-LATEST, then-time-gt-LATEST-via-else-time-gt-LATEST+then-not-is_set}

pub is_set-requires : goal.is_set-requires
is_set-requires c = omega (arith, c.read.ensures, nodes_at c.args.table.now, nodes_few c.args.table.now c.requires)

pub returns-then-time-gt-LATEST : goal.returns-then-time-gt-LATEST
returns-then-time-gt-LATEST c =
    let a = c.args in
    let t = table_of a.table.now in
    refuses OutOfRange _ (create_2 a.time a.directory a.kind a.name.now a.set t
    (elim c.then-time-gt-LATEST.branch [
      | then-time-gt-LATEST-via-then-time-gt-LATEST w ↦
          bad_now t.nodes a.time a.kind a.set (name_from a.name.now) w.if-time-gt-LATEST.true
      | then-time-gt-LATEST-via-else-time-gt-LATEST+then-not-is_set w ↦
          bad_set t.nodes a.time a.kind a.set (name_from a.name.now)
          (ap (λ (n : ℕ). is_set n a.set) (sym (w.read.ensures ∙ nodes_at a.table.now)) ∙ (sym w.is_set.ensures ∙ w.if-not-is_set.true))
    ]))

pub returns-in_err-kind : goal.returns-in_err-kind
returns-in_err-kind c =
    let a = c.args in
    let t = table_of a.table.now in
    refuses_on _ c.in_err-kind.field-0.0 c.from_residual.ensures.1 _
    (subst (λ (e : Refusal). create_in a.time a.directory a.kind a.name.now a.set t ≡ refused (code e))
    (sym c.in_err-kind.ensures.0)
    (create_2 a.time a.directory a.kind a.name.now a.set t
    (bad_kind t.nodes a.time a.kind a.set (name_from a.name.now) c.in_err-kind.ensures.1)))

pub returns-in_default : goal.returns-in_default
returns-in_default c =
    let a = c.args in
    let t = table_of a.table.now in
    refuses OutOfRange _ (create_2 a.time a.directory a.kind a.name.now a.set t
    (bad_name t.nodes a.time a.kind a.set (name_from a.name.now) c.in_default.ensures))

pub returns-in_err-p : goal.returns-in_err-p
returns-in_err-p c =
    let a = c.args in
    refuses_on _ c.in_err-p.field-0.0 c.from_residual-in_err-p.ensures.1 _
    (subst (λ (e : Refusal). create_in a.time a.directory a.kind a.name.now a.set (table_of a.table.now) ≡ refused (code e))
    (sym c.in_err-p.ensures.0)
    (create_6 a.time a.directory a.kind a.name.now a.set (table_of a.table.now)
    (good_of a.table.now a.name.now a.set c.in_ok-kind.kind c.if-time-gt-LATEST.false c.read.ensures c.is_set.ensures c.if-not-is_set.false
    c.in_ok-kind.ensures c.in-Some.ensures.0 c.in-Some.ensures.1)
    c.in_err-p.ensures.1))

pub overflow_cast-set : goal.overflow_cast-set
overflow_cast-set c =
    let a = c.args in
    let q = good_set a.table.now a.time a.kind a.set (name_from a.name.now) c.requires
    (good_of a.table.now a.name.now a.set c.in_ok-kind.kind c.if-time-gt-LATEST.false c.read.ensures c.is_set.ensures c.if-not-is_set.false
    c.in_ok-kind.ensures c.in-Some.ensures.0 c.in-Some.ensures.1) in
    omega (arith, q)

pub create_in-requires : goal.create_in-requires
create_in-requires c = (takes_held c.args.table.now c.args.directory c.args.time c.requires c.if-time-gt-LATEST.false c.in_ok-p.ensures).0

pub returns : goal.returns
returns c =
    let a = c.args in
    let good = good_of a.table.now a.name.now a.set c.in_ok-kind.kind c.if-time-gt-LATEST.false c.read.ensures c.is_set.ensures c.if-not-is_set.false
    c.in_ok-kind.ensures c.in-Some.ensures.0 c.in-Some.ensures.1 in
    let k = takes_held a.table.now a.directory a.time c.requires c.if-time-gt-LATEST.false c.in_ok-p.ensures in
    instead _
    (ap (λ (z : ℕ). created_in a.time z c.in-Some.name a.set (table_of a.table.now) c.in_ok-p.p) c.in_ok-kind.ensures
    ∙ ap (λ (n : Name). created_in a.time a.kind n a.set (table_of a.table.now) c.in_ok-p.p) c.in-Some.ensures.0
    ∙ sym (create_in_law a.time a.directory a.kind a.name.now a.set (table_of a.table.now) good c.in_ok-p.p c.in_ok-p.ensures k.1))
    c.create_in.ensures
