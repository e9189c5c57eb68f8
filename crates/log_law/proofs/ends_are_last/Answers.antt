use Rattle.log_law.proofs.Ends.{ends_are_last, files_its_flight}
use Rattle.log_law.proofs.ends_are_last.Goals as goal

pub returns : goal.returns
returns c = record { last = ends_are_last c.below.ensures; flown = files_its_flight c.below.ensures }
