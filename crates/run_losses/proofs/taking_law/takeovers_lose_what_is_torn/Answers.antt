use Rattle.run_losses.proofs.taking_law.Losing.{takeovers_lose}
use Rattle.run_losses.proofs.taking_law.takeovers_lose_what_is_torn.Goals as goal

pub returns : goal.returns
returns c = record {
  torn = takeovers_lose (record {
    setting = c.settings_exist.ensures.0;
    lines = c.runs_keep_logs.ensures.lines;
    came = c.readers_hold_what_came.ensures.runs;
  });
}
