use Rattle.run_holdings.proofs.settled_law.Runs.{every_runs_blocks_are_settled}
use Rattle.run_holdings.proofs.settled_law.what_is_settled_is_the_join.Goals as goal

pub returns : goal.returns
returns c = record {
  settled = every_runs_blocks_are_settled (record {
    tokens = c.nodes_are_seen.ensures;
    servers = c.server_index_events_are_seen.ensures;
    logs = c.laws_of_logs.ensures;
    give = c.lines_are_filed.ensures.give;
    sure = c.undoubted_runs_are_sure.ensures.sure;
    runs = c.every_run_stands.ensures;
    leads = c.dirty_blocks_lead.ensures.lead;
  });
}
