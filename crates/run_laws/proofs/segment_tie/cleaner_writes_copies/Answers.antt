use Rattle.run_laws.proofs.segment_tie.Cleaners.{cleaner_starts, cleaner_writes}
use Rattle.run_laws.proofs.segment_tie.cleaner_writes_copies.Goals as goal

pub returns : goal.returns
returns c = record { start = cleaner_starts; events = cleaner_writes }
