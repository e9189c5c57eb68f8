use Rattle.run_laws.proofs.world_index.Laws.{every_run_keeps}
use Rattle.run_laws.proofs.world_index.runs_keep_indexes.Goals as goal

pub returns : goal.returns
returns c = record {
  keeps = every_run_keeps c.index_events_are_seen.ensures c.nodes_are_seen.ensures
      c.cleaning_loses_nothing.ensures.joins c.cleaning_loses_nothing.ensures.covers c.cleaning_loses_nothing.ensures.kept;
}
