use Rattle.run_drops.proofs.drop_law.Below.{every_run_below}
use Rattle.run_drops.proofs.drop_law.Runs.{every_run}
use Rattle.run_drops.proofs.drop_law.what_is_deleted_was_dropped.Goals as goal

pub returns : goal.returns
returns c = record {
  dropped = every_run c.cleaner_events_are_moves.ensures c.nodes_are_seen.ensures;
  below = every_run_below c.nodes_are_seen.ensures c.settings_exist.ensures c.runs_keep_logs.ensures.lines;
}
