-- `service::receive::acknowledge` meets its contract. Assumes nothing.
use Rattle.std.proofs.Common.{arith, ap, ◌∙◌}
use Rattle.codec.specs.Bytes.{splice}
use Rattle.messages.specs.declared.acknowledgement.Acknowledgement.{Acknowledgement}
use Rattle.messages.specs.Acknowledgements.{ack_bytes}
use Rattle.service.specs.Receiving.{ack_is}
use Rattle.service.proofs.receive.acknowledge.Goals as goal

pub read-header-requires : goal.read-header-requires
read-header-requires c = omega (arith, c.requires.0)

pub read-requires : goal.read-requires
read-requires c = omega (arith, c.requires.0)

pub write-requires : goal.write-requires
write-requires c = omega (arith, c.requires.1)

pub returns : goal.returns
returns c = c.write.ensures ∙ ap (λ (a : Acknowledgement). splice c.args.out.now 0 (ack_bytes a)) (ack_is c.args.message.now c.read-header.ensures c.read.ensures)
