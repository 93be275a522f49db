-- `service_c::rumbezalo_remove` meets its contract: the call's answer in one number. Assumes nothing.
use Rattle.answers.specs.Forms.{packs}
use Rattle.service_c.proofs.rumbezalo_remove.Goals as goal

pub returns : goal.returns
returns c = (packs c.pack.ensures c.remove.ensures.0, c.remove.ensures.1)
