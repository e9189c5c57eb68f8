use Rattle.run_losses.proofs.missing_law.Servers.{stored_laws, what_is_filed_is_stored}
use Rattle.run_losses.proofs.missing_law.what_is_filed_is_stored.Goals as goal

pub returns : goal.returns
returns c = record { stored = what_is_filed_is_stored c.settings_exist.ensures.0 c.runs_keep_logs.ensures.lines (stored_laws c.laws_of_logs.ensures) }
