use Rattle.run_losses.proofs.gone_law.Breaking.{gones_are_of_broken}
use Rattle.run_losses.proofs.gone_law.gone_was_lost.Goals as goal
use Rattle.run_losses.proofs.gone_law.Laws.{Below, clients_told, managers_lost}

pub returns : goal.returns
returns c =
    let below : Below = record {
      moves = c.manager_events_are_moves.ensures;
      setting = c.settings_exist.ensures.0;
      lines = c.runs_keep_logs.ensures.lines;
      came = c.readers_hold_what_came.ensures.runs;
      nodes = c.nodes_are_seen.ensures;
    } in
    record { node = gones_are_of_broken below.moves; managers = managers_lost below; clients = clients_told below }
