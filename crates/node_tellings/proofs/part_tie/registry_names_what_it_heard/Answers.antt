use Rattle.node_tellings.proofs.part_tie.Registries.{registry_names, registry_names_rise, registry_starts}
use Rattle.node_tellings.proofs.part_tie.registry_names_what_it_heard.Goals as goal

pub returns : goal.returns
returns c = record {
  start = registry_starts;
  rises = registry_names_rise;
  events = registry_names;
}
