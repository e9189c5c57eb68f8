use Rattle.node_tellings.proofs.reading_tie.Managers.{manager_keeps, manager_rises, manager_starts, takeovers_read}
use Rattle.node_tellings.proofs.reading_tie.managers_read_what_came.Goals as goal

pub returns : goal.returns
returns c = record {
  start = manager_starts;
  rises = manager_rises;
  events = manager_keeps;
  reads = takeovers_read;
}
