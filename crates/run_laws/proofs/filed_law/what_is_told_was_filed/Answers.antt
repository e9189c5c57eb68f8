use Rattle.run_laws.proofs.filed_law.Telling.{event_keeps, horizons_filed, run_told, start_told}
use Rattle.run_laws.proofs.filed_law.what_is_told_was_filed.Goals as goal

pub returns : goal.returns
returns c = record {
  start = start_told c.nodes_tell_what_is_filed.ensures;
  events = event_keeps c.nodes_tell_what_is_filed.ensures;
  runs = run_told c.nodes_tell_what_is_filed.ensures;
  horizons = horizons_filed;
}
