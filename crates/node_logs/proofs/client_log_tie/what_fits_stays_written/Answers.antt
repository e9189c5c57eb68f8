use Rattle.node_logs.proofs.client_log_tie.Written.{what_fits_stays_written}
use Rattle.node_logs.proofs.client_log_tie.what_fits_stays_written.Goals as goal

pub returns : goal.returns
returns c = what_fits_stays_written
