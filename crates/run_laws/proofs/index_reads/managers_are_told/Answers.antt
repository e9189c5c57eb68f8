use Rattle.run_laws.proofs.index_reads.Covered.{deltas_are_covered}
use Rattle.run_laws.proofs.index_reads.Told.{reports_gather, found_gather, missing_gather, managers_are_told}
use Rattle.run_laws.proofs.index_reads.managers_are_told.Goals as goal

pub returns : goal.returns
returns c = record {
  deltas = deltas_are_covered;
  reports = reports_gather;
  found = found_gather;
  missing = missing_gather;
  events = managers_are_told;
}
