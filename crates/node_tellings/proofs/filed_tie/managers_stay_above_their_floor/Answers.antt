use Rattle.node_tellings.proofs.filed_tie.EpochFloors.{managers_start_above, managers_stay_above}
use Rattle.node_tellings.proofs.filed_tie.managers_stay_above_their_floor.Goals as goal

pub returns : goal.returns
returns c = record {
  start = managers_start_above;
  events = managers_stay_above;
}
