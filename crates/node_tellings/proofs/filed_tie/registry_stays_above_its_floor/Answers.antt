use Rattle.node_tellings.proofs.filed_tie.EpochFloors.{registry_starts_above, registry_keeps_above}
use Rattle.node_tellings.proofs.filed_tie.registry_stays_above_its_floor.Goals as goal

pub returns : goal.returns
returns c = record {
  start = registry_starts_above;
  events = registry_keeps_above;
}
