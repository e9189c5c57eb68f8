use Rattle.node_tellings.proofs.entry_tie.CleanerPhases.{cleaner_rises, cleaner_starts, cleaner_tells}
use Rattle.node_tellings.proofs.entry_tie.cleaner_tells_told_entries.Goals as goal

pub returns : goal.returns
returns c = record {
  start = cleaner_starts;
  rises = cleaner_rises;
  events = cleaner_tells;
}
