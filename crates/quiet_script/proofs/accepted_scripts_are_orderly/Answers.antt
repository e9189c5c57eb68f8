use Rattle.quiet_script.proofs.Ranges.{accepted_is_orderly}
use Rattle.quiet_script.proofs.accepted_scripts_are_orderly.Goals as goal

pub returns : goal.returns
returns c = record { orderly = accepted_is_orderly }
