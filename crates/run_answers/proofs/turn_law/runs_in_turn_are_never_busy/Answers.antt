use Rattle.run_answers.proofs.turn_law.InTurn.{answers_in_turn}
use Rattle.run_answers.proofs.turn_law.runs_in_turn_are_never_busy.Goals as goal

pub returns : goal.returns
returns c = record { turns = answers_in_turn }
