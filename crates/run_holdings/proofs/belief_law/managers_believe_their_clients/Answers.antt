use Rattle.run_holdings.proofs.belief_law.Runs.{every_runs_managers_believe}
use Rattle.run_holdings.proofs.belief_law.managers_believe_their_clients.Goals as goal

pub returns : goal.returns
returns c = record {
  believed = every_runs_managers_believe (record {
    nodes = c.nodes_are_seen.ensures;
    promised = c.tokens_keep_their_word.ensures.promised;
    held = c.tokens_keep_their_word.ensures.believed;
    granted = c.tokens_keep_their_word.ensures.acceptable;
  });
}
