use Rattle.run_losses.proofs.torn_law.Torn.{reopenings_lose}
use Rattle.run_losses.proofs.torn_law.reopenings_lose_what_is_torn.Goals as goal

pub returns : goal.returns
returns c = record { torn = reopenings_lose (record { setting = c.settings_exist.ensures.0; lines = c.runs_keep_logs.ensures.lines }) }
