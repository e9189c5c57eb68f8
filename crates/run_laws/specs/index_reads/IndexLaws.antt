-- What nodes do is seen in the small world of a slot's index; and the laws of that, taken together.
use Rattle.index_tie.specs.NetLaws.{EachIndexIsTheJoin, ManagersCoverTheirHorizon, NewestIsNeverDeleted}
use Rattle.run_laws.specs.index_reads.Clients.{FlightsAreNews, NothingIsNewer}
use Rattle.run_laws.specs.index_reads.Managers.{DeltasAreCovered}
use Rattle.run_laws.specs.world_index.NodeLaws as index

pub record IndexLaws : Type 0 where
  pub nodes : index.NodeLaws
  pub each_index_is_the_join : EachIndexIsTheJoin
  pub managers_cover_their_horizon : ManagersCoverTheirHorizon
  pub newest_is_never_deleted : NewestIsNeverDeleted
  pub flights_are_news : FlightsAreNews
  pub nothing_is_news : NothingIsNewer
  pub deltas_are_covered : DeltasAreCovered
