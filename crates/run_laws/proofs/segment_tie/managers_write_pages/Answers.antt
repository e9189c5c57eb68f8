use Rattle.run_laws.proofs.segment_tie.Managers.{manager_starts, managers_write}
use Rattle.run_laws.proofs.segment_tie.managers_write_pages.Goals as goal

pub returns : goal.returns
returns c = record { start = manager_starts; events = managers_write }
