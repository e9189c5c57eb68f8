use Rattle.log_protocol.proofs.StepLaws.{files_what_was_read_always}
use Rattle.log_protocol.proofs.serving_files_what_was_read.Goals as goal

pub returns : goal.returns
returns c = record { files = files_what_was_read_always }
