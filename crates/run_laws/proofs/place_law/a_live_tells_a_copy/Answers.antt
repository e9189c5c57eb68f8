use Rattle.run_laws.proofs.place_law.JobChecks.{jobs_checks_lie}
use Rattle.run_laws.proofs.place_law.Copying.{lives_tell_copies}
use Rattle.run_laws.proofs.place_law.Placing.{checks_are_of_rows}
use Rattle.run_laws.proofs.place_law.a_live_tells_a_copy.Goals as goal

pub returns : goal.returns
returns c = record { checks = jobs_checks_lie; rows = checks_are_of_rows; copies = lives_tell_copies }
