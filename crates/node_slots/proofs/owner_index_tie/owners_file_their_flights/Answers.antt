use Rattle.node_slots.proofs.owner_index_tie.Acting.{cleaner_files_flights, clients_file_flights}
use Rattle.node_slots.proofs.owner_index_tie.owners_file_their_flights.Goals as goal

pub returns : goal.returns
returns c = record { client = clients_file_flights; cleaner = cleaner_files_flights }
