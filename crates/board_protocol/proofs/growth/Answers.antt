use Rattle.board_protocol.proofs.Laws.{grows}
use Rattle.board_protocol.proofs.growth.Goals as goal

pub returns : goal.returns
returns c start = record { grows = grows }
