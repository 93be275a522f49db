-- `service_c::rumbezalo_receive` meets its contract: the call's answer in one number. Assumes nothing.
use Rattle.answers.specs.Forms.{packs}
use Rattle.service_c.proofs.rumbezalo_receive.Goals as goal

pub returns : goal.returns
returns c = (packs c.pack.ensures c.receive.ensures.0, c.receive.ensures.1, c.receive.ensures.2)
