use Rattle.node_tellings.proofs.part_tie.Managers.{manager_names_rise, managers_name, managers_start}
use Rattle.node_tellings.proofs.part_tie.managers_name_what_flew.Goals as goal

pub returns : goal.returns
returns c = record {
  start = managers_start;
  rises = manager_names_rise;
  events = managers_name;
}
