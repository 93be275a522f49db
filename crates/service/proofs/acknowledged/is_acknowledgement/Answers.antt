-- `service::acknowledged::is_acknowledgement` meets its contract: test by test. Assumes nothing.
use Rattle.std.proofs.Common.{ap, sym, ◌∙◌, eq-eqb}
use Rattle.codec.specs.Lists.{and_stop, and_go}
use Rattle.messages.specs.Acknowledgements.{ack_of, ack_in_range}
use Rattle.service.specs.Acknowledging.{ack_whole}
use Rattle.service.proofs.acknowledged.is_acknowledgement.Goals as goal

pub returns-then-in_range : goal.returns-then-in_range
unfolding ack_of
returns-then-in_range c =
    and_go _ _ (eq-eqb _ _ c.if-message-eq-SIZE.true)
    (and_go _ _
    (ap (ack_in_range c.args.n) (sym (ack_whole c.args.message.now c.if-message-eq-SIZE.true))
    ∙ (sym c.in_range.ensures ∙ c.if-in_range.true))
    (cc))

pub returns-else-in_range : goal.returns-else-in_range
returns-else-in_range c =
    c.if-in_range.false
    ∙ and_go _ _ (eq-eqb _ _ c.if-message-eq-SIZE.true)
    (and_stop _ _
    (ap (ack_in_range c.args.n) (sym (ack_whole c.args.message.now c.if-message-eq-SIZE.true))
    ∙ (sym c.in_range.ensures ∙ c.if-in_range.false)))
