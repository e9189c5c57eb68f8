-- What each run has of its logs: their lines, and what is known of these.
use Rattle.run_laws.specs.restart_law.Sure.{UndoubtedRunsAreSure}
use Rattle.run_laws.specs.world_logs.Horizons.{RunsReachHorizons}
use Rattle.run_laws.specs.world_logs.Lines.{LinesHaveTexts, RunsHaveLines}
use Rattle.run_laws.specs.world_logs.Listing.{RunsListTheirLogs}

pub record RunLines : Type 0 where
  pub runs_reach_horizons : RunsReachHorizons
  pub runs_list_their_logs : RunsListTheirLogs
  pub runs_have_lines : RunsHaveLines
  pub lines_have_texts : LinesHaveTexts
  pub undoubted_runs_are_sure : UndoubtedRunsAreSure
