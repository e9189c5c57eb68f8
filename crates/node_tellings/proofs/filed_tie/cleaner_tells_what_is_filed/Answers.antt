use Rattle.node_tellings.proofs.filed_tie.CleanerPhases.{cleaner_rises, cleaner_starts, cleaner_tells}
use Rattle.node_tellings.proofs.filed_tie.cleaner_tells_what_is_filed.Goals as goal

pub returns : goal.returns
returns c = record {
  start = cleaner_starts;
  rises = cleaner_rises;
  events = cleaner_tells;
}
