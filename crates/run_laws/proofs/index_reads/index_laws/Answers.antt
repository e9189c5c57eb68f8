use Rattle.run_laws.proofs.index_reads.index_laws.Goals as goal

pub returns : goal.returns
returns c = record {
  nodes = c.index_events_are_seen.ensures;
  each_index_is_the_join = c.cleaning_loses_nothing.ensures.joins;
  managers_cover_their_horizon = c.cleaning_loses_nothing.ensures.covers;
  newest_is_never_deleted = c.cleaning_loses_nothing.ensures.kept;
  flights_are_news = c.flights_are_news.ensures.news;
  nothing_is_news = c.flights_are_news.ensures.nothing;
  deltas_are_covered = c.managers_are_told.ensures.deltas;
}
