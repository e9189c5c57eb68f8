use Rattle.run_losses.proofs.fetching_law.Fetchings.{Below, calls_read_blocks, fetches_lose}
use Rattle.run_losses.proofs.fetching_law.fetches_lose_what_is_torn.Goals as goal

pub returns : goal.returns
returns c =
    let below : Below = record {
      setting = c.settings_exist.ensures.0;
      lines = c.runs_keep_logs.ensures.lines;
      answers = c.answers_tell_of_misses.ensures.told;
      groups = c.groups_stay_as_made.ensures;
      nodes = c.nodes_are_seen.ensures;
    } in
    record { earned = fetches_lose below; blocks = calls_read_blocks below }
