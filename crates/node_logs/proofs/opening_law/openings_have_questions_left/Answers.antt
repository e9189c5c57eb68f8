use Rattle.node_logs.proofs.opening_law.Asking.{starts_few, packet_few, tick_few, some_left, groups_come}
use Rattle.node_logs.proofs.opening_law.openings_have_questions_left.Goals as goal

pub returns : goal.returns
returns c = record {
  start = starts_few;
  packet = packet_few;
  tick = tick_few;
  left = some_left;
  groups = groups_come;
}
