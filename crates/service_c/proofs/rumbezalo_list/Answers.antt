-- `service_c::rumbezalo_list` meets its contract: the call's answer in one number. Assumes nothing.
use Rattle.answers.specs.Forms.{packs}
use Rattle.service_c.proofs.rumbezalo_list.Goals as goal

pub returns : goal.returns
returns c = (packs c.pack.ensures c.list.ensures.0, c.list.ensures.1)
