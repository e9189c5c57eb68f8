use Rattle.run_losses.proofs.missing_law.Laws.{answers_tell_of_misses}
use Rattle.run_losses.proofs.missing_law.answers_tell_of_misses.Goals as goal

pub returns : goal.returns
returns c = record { told = answers_tell_of_misses (record { setting = c.settings_exist.ensures.0; lines = c.runs_keep_logs.ensures.lines }) }
