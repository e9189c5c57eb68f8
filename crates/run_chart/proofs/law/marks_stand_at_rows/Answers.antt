use Rattle.run_chart.proofs.Standing.{stand_at_rows}
use Rattle.run_chart.proofs.law.marks_stand_at_rows.Goals as goal

pub returns : goal.returns
returns c = stand_at_rows
