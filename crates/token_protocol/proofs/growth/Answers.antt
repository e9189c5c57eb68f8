use Rattle.token_protocol.proofs.Growing.{grows}
use Rattle.token_protocol.proofs.growth.Goals as goal

pub returns : goal.returns
returns c = record { grows = grows }
