use Rattle.board_law.proofs.OneRuns.{is_one_run}
use Rattle.board_law.proofs.runs_with_boards_are_one_run.Goals as goal

pub returns : goal.returns
returns g c step first has script events end run = is_one_run step first has script events end run
