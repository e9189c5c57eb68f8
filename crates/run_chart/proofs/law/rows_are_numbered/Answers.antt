use Rattle.run_chart.proofs.Numbers.{rows_numbered}
use Rattle.run_chart.proofs.law.rows_are_numbered.Goals as goal

pub returns : goal.returns
returns c = rows_numbered
