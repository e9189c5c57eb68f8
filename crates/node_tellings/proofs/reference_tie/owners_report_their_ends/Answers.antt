use Rattle.node_tellings.proofs.reference_tie.Cleaners.{cleaner_reports}
use Rattle.node_tellings.proofs.reference_tie.Clients.{clients_report}
use Rattle.node_tellings.proofs.reference_tie.owners_report_their_ends.Goals as goal

pub returns : goal.returns
returns c = record { clients = clients_report; cleaner = cleaner_reports }
