-- `service::list::list_sound` meets its contract: not held; what is held. Assumes nothing.
use Rattle.std.proofs.Common.{ap, sym, ◌∙◌, length}
use Rattle.std.specs.Prelude.{ℕ}
use Rattle.document.specs.Tables.{head_of, table_of}
use Rattle.document.specs.Outcomes.{Outcome, output_after, refused}
use Rattle.document.specs.Calls.{list_in}
use Rattle.answers.specs.declared.refusal.Refusal.{Refusal}
use Rattle.answers.specs.Answers.{answers_instead}
use Rattle.answers.specs.Passing.{refused_out_on}
use Rattle.answers.specs.Refusals.{code}
use Rattle.views.specs.Puts.{head_id}
use Rattle.service.specs.Listing.{list_not_held}
use Rattle.service.proofs.list.list_sound.Goals as goal

pub returns-in_err-h : goal.returns-in_err-h
returns-in_err-h c =
    let a = c.args in
    let e = c.in_err-h.ensures in
    refused_out_on _ c.in_err-h.field-0.0 c.from_residual.ensures.1 a.out.now
    (list_not_held a.id (length a.out.now) (table_of a.t.now) e.1 ∙ ap (λ (x : Refusal). refused (code x)) (sym e.0))

pub list_held-requires : goal.list_held-requires
list_held-requires c =
    let t = table_of c.args.t.now in
    let q = c.in_ok-h.ensures in
    ap (head_of t) (head_id c.args.id t.replicas _ q) ∙ q

pub returns : goal.returns
returns c =
    let a = c.args in
    let t = table_of a.t.now in
    let call = ap (λ (i : ℕ). list_in i (length a.out.now) t) (head_id a.id t.replicas _ c.in_ok-h.ensures) in (
      answers_instead call c.list_held.ensures.0,
      c.list_held.ensures.1 ∙ ap (λ (o : Outcome). output_after o a.out.now) call,
    )
