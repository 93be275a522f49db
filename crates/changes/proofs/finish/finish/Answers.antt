-- `changes::finish::finish` meets its contract: the clock, the count, the versions, and the copy comes back. Assumes nothing.
use Rattle.std.proofs.Common.{arith, ◌≡◌, ap, ◌∙◌, sym, subst}
use Rattle.slots.specs.declared.table_header.TableHeader.{TableHeader}
use Rattle.document.specs.Tables.{header_of, table_of}
use Rattle.document.specs.Outcomes.{refused}
use Rattle.answers.specs.declared.refusal.Refusal.{Refusal}
use Rattle.answers.specs.declared.refusal.Refusal.TheVariants.{PastEnd}
use Rattle.answers.specs.Refusals.{code}
use Rattle.answers.specs.Answers.{refuses, does}
use Rattle.answers.specs.Passing.{refuses_on, or_refused, or_done}
use Rattle.steps.specs.States.{header_read}
use Rattle.changes.specs.Finishing.{ended, end_clock, end_count, end_version, end_done, settles}
use Rattle.changes.proofs.finish.finish.Goals as goal
use Rattle.changes.proofs.finish.finish.Goals.{then-header-gt-LATEST-via-then-header-gt-LATEST, then-header-gt-LATEST-via-else-header-gt-LATEST+then-header-gt-NEXT_MOST}

pub returns-then-header-gt-LATEST : goal.returns-then-header-gt-LATEST
returns-then-header-gt-LATEST c =
    let a = c.args in
    let h : c.read-header.result ≡ header_of (table_of a.copy.now) = c.read-header.ensures ∙ header_read a.copy.now in
    elim c.then-header-gt-LATEST.branch [
      | then-header-gt-LATEST-via-then-header-gt-LATEST w ↦
          refuses PastEnd _ (end_clock a.value (table_of a.table.now) (table_of a.copy.now) (omega (arith, w.if-header-gt-LATEST.true, ap (λ (z : TableHeader). z.highest) h)))
      | then-header-gt-LATEST-via-else-header-gt-LATEST+then-header-gt-NEXT_MOST w ↦
          refuses PastEnd _ (end_count a.value (table_of a.table.now) (table_of a.copy.now) (omega (arith, w.if-header-gt-NEXT_MOST.true, ap (λ (z : TableHeader). z.next) h)))
    ]

pub settle-requires : goal.settle-requires
settle-requires c = settles c.fits-table c.requires

pub returns-in_err-or : goal.returns-in_err-or
returns-in_err-or c =
    let a = c.args in
    let p = or_refused c.settle.result PastEnd (sym c.or.ensures ∙ c.in_err-or.was) in
    refuses_on _ c.in_err-or.field-0.0 c.from_residual.ensures.1 _
    (subst (λ (e : Refusal). ended a.value (table_of a.table.now) (table_of a.copy.now) ≡ refused (code e)) (sym p.1)
    (end_version a.value (table_of a.table.now) (table_of a.copy.now) (sym c.settle.ensures.0 ∙ p.0)))

pub returns : goal.returns
returns c =
    let a = c.args in
    let h : c.read-header.result ≡ header_of (table_of a.copy.now) = c.read-header.ensures ∙ header_read a.copy.now in
    let p = or_done c.settle.result PastEnd (sym c.or.ensures ∙ c.in_ok-or.was) in
    does _
    (end_done a.value (table_of a.table.now) (table_of a.copy.now) (omega (arith, c.if-header-gt-LATEST.false, ap (λ (z : TableHeader). z.highest) h))
    (omega (arith, c.if-header-gt-NEXT_MOST.false, ap (λ (z : TableHeader). z.next) h)) (sym c.settle.ensures.0 ∙ p))
    (c.settle.ensures.1 p).bytes
