use Rattle.board_law.proofs.Events.{chosen_grows, have_one_list, run_tied}
use Rattle.board_law.proofs.TwoHad.{two_had}
use Rattle.board_world.specs.NextBoards.{boards_after}
use Rattle.board_law.proofs.boards_have_one_list.Goals as goal

pub returns : goal.returns
returns c = record {
  one = λ script events came. have_one_list script (boards_after script events).state (run_tied script events came);
  grows = chosen_grows;
  whole = λ script events more came one other ballot apart commands had had_too. two_had script events more came one other ballot apart commands had had_too;
}
