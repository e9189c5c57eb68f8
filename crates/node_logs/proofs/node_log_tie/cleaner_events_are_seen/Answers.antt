use Rattle.node_logs.proofs.node_log_tie.Cleaners.{cleaner_begins, cleaner_goes, cleaner_stores}
use Rattle.node_logs.proofs.node_log_tie.cleaner_events_are_seen.Goals as goal

pub returns : goal.returns
returns c = record {
  start = cleaner_begins;
  events = λ g owner n cleaner what other away seen owed. cleaner_goes g owner other away n cleaner what owed seen;
  own = λ g owner n cleaner what other away seen owed. cleaner_stores g owner other away n cleaner what owed seen;
}
