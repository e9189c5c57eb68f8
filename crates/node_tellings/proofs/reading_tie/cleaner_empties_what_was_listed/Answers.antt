use Rattle.node_tellings.proofs.reading_tie.Meeting.{cleaner_events_meet, cleaner_meets_rise, cleaner_starts_met}
use Rattle.node_tellings.proofs.reading_tie.cleaner_empties_what_was_listed.Goals as goal

pub returns : goal.returns
returns c = record {
  start = cleaner_starts_met;
  rises = cleaner_meets_rise;
  events = cleaner_events_meet;
}
