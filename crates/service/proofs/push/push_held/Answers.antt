-- `service::push::push_held` meets its contract: a buffer too small, a node that is not pending, done. Assumes nothing.
use Rattle.std.proofs.Common.{◌≡◌, ap, ◌∙◌, arith, length, sym, subst}
use Rattle.std.specs.Prelude.{ℕ, Ok}
use Rattle.codec.specs.Bytes.{splice}
use Rattle.document.specs.Tables.{table_of}
use Rattle.document.specs.Messages.{message_bytes}
use Rattle.pushes.specs.Pushing.{size_told, node_told, written}
use Rattle.pushes.specs.Writing.{push_of_held}
use Rattle.document.specs.Calls.{push_in}
use Rattle.answers.specs.Answers.{Answered}
use Rattle.answers.specs.Outputs.{refused_out, done_out}
use Rattle.answers.specs.declared.refusal.Refusal.TheVariants.{TooShort, NotPending}
use Rattle.service.specs.Pushing.{push_small, push_told, push_done}
use Rattle.service.proofs.push.push_held.Goals as goal

pub header_of-header-requires : goal.header_of-header-requires
header_of-header-requires c = c.requires.held

pub returns-then-out-size : goal.returns-then-out-size
returns-then-out-size c =
    let size : let a = c.args in
    c.size_of-size.result ≡ length (message_bytes (push_of_held a.t.now a.r a.node)) =
    c.size_of-size.ensures ∙ size_told _ _ c.header_of-header.ensures in
    refused_out c.args.out.now TooShort
    (push_small c.args.r.head.id c.args.node (length c.args.out.now) (table_of c.args.t.now)
    c.requires.member c.requires.apart c.args.r c.requires.held.found (omega (arith, size, c.if-out-size.true)))

pub returns-then-not-has : goal.returns-then-not-has
returns-then-not-has c =
    let size : let a = c.args in
    c.size_of-size.result ≡ length (message_bytes (push_of_held a.t.now a.r a.node)) =
    c.size_of-size.ensures ∙ size_told _ _ c.header_of-header.ensures in
    refused_out c.args.out.now NotPending
    (push_told c.args.r.head.id c.args.node (length c.args.out.now) (table_of c.args.t.now)
    c.requires.member c.requires.apart c.args.r c.requires.held.found
    (omega (arith, size, c.if-out-size.false)) (sym c.has.ensures ∙ c.if-not-has.true))

pub write-requires : goal.write-requires
write-requires c =
    let size : let a = c.args in
    c.size_of-size.result ≡ length (message_bytes (push_of_held a.t.now a.r a.node)) =
    c.size_of-size.ensures ∙ size_told _ _ c.header_of-header.ensures in
    written c.args.t.now c.args.r c.args.node _ _ c.requires.held c.header_of-header.ensures
    (omega (arith, size, c.if-out-size.false))

pub returns : goal.returns
returns c =
    let size : let a = c.args in
    c.size_of-size.result ≡ length (message_bytes (push_of_held a.t.now a.r a.node)) =
    c.size_of-size.ensures ∙ size_told _ _ c.header_of-header.ensures in
    let l = c.args.t.now in
    let r = c.args.r in
    let to = node_told l r c.args.node _ c.header_of-header.ensures in
    let done =
    done_out c.args.out.now _ _ _
    (push_done r.head.id c.args.node (length c.args.out.now) (table_of l) c.requires.member c.requires.apart r
    c.requires.held.found (omega (arith, size, c.if-out-size.false))
    (sym c.has.ensures ∙ c.if-not-has.false)) in (
      subst (λ (v : ℕ). Answered (push_in r.head.id c.args.node (length c.args.out.now) (table_of l)) (Ok v)) (sym size) done.0,
      c.write.ensures
          ∙ ap (λ (m : ℕ). splice c.args.out.now 0 (message_bytes (push_of_held l r m))) to ∙ done.1,
    )
