use Rattle.run_chart.proofs.Numbers.{board_rows_numbered}
use Rattle.run_chart.proofs.law.board_rows_are_numbered.Goals as goal

pub returns : goal.returns
returns c = board_rows_numbered
