use Rattle.log_tie.proofs.Scans.{scan_starts, scan_takes}
use Rattle.log_tie.proofs.Staying.{scan_stays}
use Rattle.log_tie.proofs.scan_inputs.Goals as goal

pub returns : goal.returns
returns c = record { starts = scan_starts; takes = scan_takes; stays = scan_stays }
