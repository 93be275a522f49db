-- `changes::spread::spread` meets its contract. Assumes nothing.
use Rattle.std.proofs.Common.{◌≡◌, arith, ap, sym, subst, ◌∙◌}
use Rattle.std.specs.Prelude.{ℕ}
use Rattle.answers.specs.declared.refusal.Refusal.{Refusal}
use Rattle.answers.specs.declared.refusal.Refusal.TheVariants.{OutOfRange}
use Rattle.answers.specs.Refusals.{code}
use Rattle.answers.specs.Answers.{refuses, instead}
use Rattle.answers.specs.Passing.{refuses_on}
use Rattle.document.specs.Outcomes.{refused}
use Rattle.document.specs.Tables.{table_of}
use Rattle.numbers.specs.Nodes.{is_set}
use Rattle.document.specs.Calls.{spread_in}
use Rattle.table.specs.Ranges.{nodes_at}
use Rattle.changes.specs.Working.{nodes_few, set_below}
use Rattle.changes.specs.Spreading.{spread_2, spread_6, spreads_held}
use Rattle.changes.proofs.spread.spread.Goals as goal

pub is_set-requires : goal.is_set-requires
is_set-requires c = omega (arith, c.read.ensures, nodes_at c.args.table.now, nodes_few c.args.table.now c.requires)

pub returns-then-not-is_set : goal.returns-then-not-is_set
returns-then-not-is_set c =
    let a = c.args in
    refuses OutOfRange _ (spread_2 a.id a.set (table_of a.table.now) (sym (ap (λ (n : ℕ). is_set n a.set) (c.read.ensures ∙ nodes_at a.table.now)) ∙
    (sym c.is_set.ensures ∙ c.if-not-is_set.true)))

pub returns-in_err-h : goal.returns-in_err-h
returns-in_err-h c =
    let a = c.args in
    refuses_on _ c.in_err-h.field-0.0 c.from_residual.ensures.1 _
    (subst (λ (e : Refusal). spread_in a.id a.set (table_of a.table.now) ≡ refused (code e)) (sym c.in_err-h.ensures.0)
    (spread_6 a.id a.set (table_of a.table.now) (sym (ap (λ (n : ℕ). is_set n a.set) (c.read.ensures ∙ nodes_at a.table.now)) ∙
    (sym c.is_set.ensures ∙ c.if-not-is_set.false)) c.in_err-h.ensures.1))

pub overflow_cast-set : goal.overflow_cast-set
overflow_cast-set c =
    let a = c.args in
    let q = set_below a.table.now c.requires a.set (sym (ap (λ (n : ℕ). is_set n a.set) (c.read.ensures ∙ nodes_at a.table.now)) ∙
    (sym c.is_set.ensures ∙ c.if-not-is_set.false)) in omega (arith, q)

pub spread_held-requires : goal.spread_held-requires
spread_held-requires c =
    let a = c.args in
    (spreads_held a.table.now a.id a.set c.requires (sym (ap (λ (n : ℕ). is_set n a.set) (c.read.ensures ∙ nodes_at a.table.now)) ∙
    (sym c.is_set.ensures ∙ c.if-not-is_set.false)) c.in_ok-h.ensures).0

pub returns : goal.returns
returns c =
    let a = c.args in
    let k = spreads_held a.table.now a.id a.set c.requires (sym (ap (λ (n : ℕ). is_set n a.set) (c.read.ensures ∙ nodes_at a.table.now)) ∙
    (sym c.is_set.ensures ∙ c.if-not-is_set.false)) c.in_ok-h.ensures in
    instead _ (ap (λ (i : ℕ). spread_in i a.set (table_of a.table.now)) k.1) c.spread_held.ensures
