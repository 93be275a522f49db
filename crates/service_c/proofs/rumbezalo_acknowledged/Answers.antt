-- `service_c::rumbezalo_acknowledged` meets its contract: the call's answer in one number. Assumes nothing.
use Rattle.answers.specs.Forms.{packs}
use Rattle.service_c.proofs.rumbezalo_acknowledged.Goals as goal

pub returns : goal.returns
returns c = (packs c.pack.ensures c.acknowledged.ensures.0, c.acknowledged.ensures.1)
