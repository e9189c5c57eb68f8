use Rattle.run_laws.proofs.segment_law.Flown.{logs_go_on}
use Rattle.run_laws.proofs.segment_law.Lines.{clients_flew}
use Rattle.run_laws.proofs.segment_law.clients_flew_originals.Goals as goal

pub returns : goal.returns
returns c = record { events = logs_go_on; runs = clients_flew }
