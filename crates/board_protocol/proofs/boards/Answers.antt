use Rattle.board_protocol.proofs.Invariant.{always}
use Rattle.board_protocol.proofs.Laws.{done, applied, one_leader, booked}
use Rattle.board_protocol.proofs.Owning.{followed}
use Rattle.board_protocol.proofs.boards.Goals as goal

pub returns : goal.returns
returns c start = record {
  done = λ owner w steps k board leads. done w (always owner w steps) k board leads;
  applied = λ owner w steps k board. applied w (always owner w steps) k board;
  followed = followed;
  one_leader = λ owner w steps. one_leader w (always owner w steps);
  booked = λ owner w steps k. booked w (always owner w steps) k;
}
