-- `service_c::rumbezalo_create` meets its contract: the call's answer in one number. Assumes nothing.
use Rattle.answers.specs.Forms.{packs}
use Rattle.service_c.proofs.rumbezalo_create.Goals as goal

pub returns : goal.returns
returns c = (packs c.pack.ensures c.create.ensures.0, c.create.ensures.1)
