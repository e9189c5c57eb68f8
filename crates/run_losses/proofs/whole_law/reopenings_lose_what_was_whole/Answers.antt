use Rattle.run_losses.proofs.missing_law.Servers.{stored_laws}
use Rattle.run_losses.proofs.whole_law.Reading.{Below, what_reopenings_lose, what_reopenings_read}
use Rattle.run_losses.proofs.whole_law.reopenings_lose_what_was_whole.Goals as goal

pub returns : goal.returns
returns c =
    let below : Below = record {
      setting = c.settings_exist.ensures.0;
      lines = c.runs_keep_logs.ensures.lines;
      logs = stored_laws c.laws_of_logs.ensures;
      read = c.laws_of_logs.ensures.read;
    } in
    record { read = what_reopenings_read below; lost = what_reopenings_lose below c.reopenings_lose_what_is_torn.ensures.torn }
