-- `service_c::rumbezalo_push` meets its contract: the call's answer in one number. Assumes nothing.
use Rattle.answers.specs.Forms.{packs}
use Rattle.service_c.proofs.rumbezalo_push.Goals as goal

pub returns : goal.returns
returns c = (
  packs c.pack.ensures c.push.ensures.0,
  c.push.ensures.1,
)
