-- `service_c::rumbezalo_rename` meets its contract: the call's answer in one number. Assumes nothing.
use Rattle.answers.specs.Forms.{packs}
use Rattle.service_c.proofs.rumbezalo_rename.Goals as goal

pub returns : goal.returns
returns c = (packs c.pack.ensures c.rename.ensures.0, c.rename.ensures.1)
