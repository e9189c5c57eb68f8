use Rattle.index_tie.proofs.Growth.{clients_file, cleaner_files}
use Rattle.index_tie.proofs.logs_file.Goals as goal

pub returns : goal.returns
returns c = record { clients = clients_file; cleaner = cleaner_files }
