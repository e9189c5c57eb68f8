use Rattle.run_laws.proofs.restart_law.NoLosses.{scripts_without_losses}
use Rattle.run_laws.proofs.restart_law.Unlost.{without_losses}
use Rattle.run_laws.proofs.restart_law.without_losses_no_restart_is_doubtful.Goals as goal

pub returns : goal.returns
returns c = record {
  undoubted = without_losses c.laws_below.ensures;
  scripts = scripts_without_losses c.laws_below.ensures c.settings_exist.ensures c.runs_keep_logs.ensures.lines;
}
