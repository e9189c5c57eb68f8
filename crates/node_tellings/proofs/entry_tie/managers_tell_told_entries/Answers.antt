use Rattle.node_tellings.proofs.entry_tie.Managers.{manager_rises, manager_starts, managers_tell}
use Rattle.node_tellings.proofs.entry_tie.managers_tell_told_entries.Goals as goal

pub returns : goal.returns
returns c = record {
  start = manager_starts;
  rises = manager_rises;
  events = managers_tell;
}
