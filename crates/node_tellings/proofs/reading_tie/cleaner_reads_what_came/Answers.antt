use Rattle.node_tellings.proofs.reading_tie.Cleaners.{cleaner_keeps, cleaner_reads, cleaner_rises, cleaner_starts}
use Rattle.node_tellings.proofs.reading_tie.cleaner_reads_what_came.Goals as goal

pub returns : goal.returns
returns c = record {
  start = cleaner_starts;
  rises = cleaner_rises;
  events = cleaner_keeps;
  reads = cleaner_reads;
}
