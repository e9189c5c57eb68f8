use Rattle.run_laws.proofs.world_logs.logs_are_seen.Goals as goal

pub returns : goal.returns
returns c = record {
  tokens = c.nodes_are_seen.ensures;
  events = c.log_events_are_seen.ensures;
  told = c.what_is_told_is_in_range.ensures;
  logs = c.laws_of_logs.ensures;
}
