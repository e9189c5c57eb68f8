use Rattle.run_laws.proofs.index_reads.Rows.{rows_are_entries, deltas_are_said}
use Rattle.run_laws.proofs.index_reads.Sayings.{places_are_kept}
use Rattle.run_laws.proofs.index_reads.rows_are_entries.Goals as goal

pub returns : goal.returns
returns c = record { entries = rows_are_entries; deltas = deltas_are_said; places = places_are_kept }
