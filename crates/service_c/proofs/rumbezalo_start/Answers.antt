-- `service_c::rumbezalo_start` meets its contract: the call's answer in one number. Assumes nothing.
use Rattle.answers.specs.Forms.{packs}
use Rattle.service_c.proofs.rumbezalo_start.Goals as goal

pub returns : goal.returns
returns c = (packs c.pack.ensures c.start.ensures.0, c.start.ensures.1)
