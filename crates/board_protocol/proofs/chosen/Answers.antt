use Rattle.board_protocol.proofs.Invariant.{always}
use Rattle.board_protocol.proofs.Laws.{agree, accepted_twice, chosen_stays}
use Rattle.board_protocol.proofs.Having.{had_twice}
use Rattle.board_protocol.proofs.chosen.Goals as goal

pub returns : goal.returns
returns c start = record { agree = λ owner w steps. agree w (always owner w steps); accepted_twice = accepted_twice; had_twice = had_twice; stays = chosen_stays }
