use Rattle.board_law.proofs.board_tie.Inputs.{starts_so, follows}
use Rattle.board_law.proofs.board_tie.each_input_is_a_list_of_steps.Goals as goal

pub returns : goal.returns
returns c = record { starts = starts_so; follows = λ w reached place below s shows input came. follows w reached place below s shows input came }
