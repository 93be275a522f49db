-- `service::receive::judge` meets its contract: 1, 2, 3, 4, and then the push is taken. Assumes nothing.
use Rattle.std.proofs.Common.{arith, ap, sym, ◌∙◌, length}
use Rattle.std.specs.Prelude.{ℕ}
use Rattle.document.specs.Reading.{sound_length}
use Rattle.table.specs.Ranges.{nodes_at}
use Rattle.pushes.specs.Judging.{is_push}
use Rattle.changes.specs.Working.{nodes_few}
use Rattle.answers.specs.declared.refusal.Refusal.TheVariants.{OutOfRange, TooShort, Malformed}
use Rattle.service.specs.Receiving.{refused_parts, received_parts, receives, call_2, call_3, call_4, call_takes}
use Rattle.service.proofs.receive.judge.Goals as goal

pub returns-then-time-gt-LATEST : goal.returns-then-time-gt-LATEST
returns-then-time-gt-LATEST c =
    let a = c.args in
    refused_parts OutOfRange _ _ (call_2 a.table.now a.time a.message.now (length a.out.now) c.requires c.if-time-gt-LATEST.true)

pub returns-then-out-lt-SIZE : goal.returns-then-out-lt-SIZE
returns-then-out-lt-SIZE c =
    let a = c.args in
    refused_parts TooShort _ _ (call_3 a.table.now a.time a.message.now (length a.out.now)
    c.requires c.if-time-gt-LATEST.false c.if-out-lt-SIZE.true)

pub read-requires : goal.read-requires
read-requires c = omega (arith, sound_length c.args.table.now c.requires)

pub is_push-requires : goal.is_push-requires
is_push-requires c = omega (arith, c.read.ensures, nodes_at c.args.table.now, nodes_few c.args.table.now c.requires)

pub returns-then-not-is_push : goal.returns-then-not-is_push
returns-then-not-is_push c =
    let a = c.args in
    refused_parts Malformed _ _ (call_4 a.table.now a.time a.message.now (length a.out.now)
    c.requires c.if-time-gt-LATEST.false c.if-out-lt-SIZE.false
    (ap (λ (n : ℕ). is_push n a.message.now) (sym (c.read.ensures ∙ nodes_at a.table.now)) ∙ (sym c.is_push.ensures ∙ c.if-not-is_push.true)))

pub take-requires : goal.take-requires
take-requires c =
    let a = c.args in
    (receives a.table.now a.time a.message.now (length a.out.now)
    c.requires c.if-time-gt-LATEST.false c.if-out-lt-SIZE.false
    (ap (λ (n : ℕ). is_push n a.message.now) (sym (c.read.ensures ∙ nodes_at a.table.now)) ∙ (sym c.is_push.ensures ∙ c.if-not-is_push.false)))

pub returns : goal.returns
returns c =
    let a = c.args in
    received_parts _ _ (call_takes a.table.now a.time a.message.now (length a.out.now) c.requires
    (receives a.table.now a.time a.message.now (length a.out.now)
    c.requires c.if-time-gt-LATEST.false c.if-out-lt-SIZE.false
    (ap (λ (n : ℕ). is_push n a.message.now) (sym (c.read.ensures ∙ nodes_at a.table.now)) ∙
    (sym c.is_push.ensures ∙ c.if-not-is_push.false)))) c.take.ensures
