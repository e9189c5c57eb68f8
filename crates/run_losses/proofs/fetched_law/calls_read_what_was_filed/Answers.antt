use Rattle.run_losses.proofs.fetched_law.Every.{Below, calls_read_what_is_stored, calls_read_what_was_filed}
use Rattle.run_losses.proofs.fetched_law.calls_read_what_was_filed.Goals as goal
use Rattle.run_losses.proofs.missing_law.Servers.{stored_laws}

pub returns : goal.returns
returns c =
    let below : Below = record {
      runs = c.every_run_stands.ensures;
      blocks = c.fetches_lose_what_is_torn.ensures.blocks;
      stored = stored_laws c.laws_of_logs.ensures;
    } in
    record { filed = calls_read_what_was_filed below; stored = calls_read_what_is_stored below }
