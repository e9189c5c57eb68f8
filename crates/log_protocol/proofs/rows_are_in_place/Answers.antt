use Rattle.log_protocol.proofs.IndexInduction.{rows_in_place_always}
use Rattle.log_protocol.proofs.rows_are_in_place.Goals as goal

pub returns : goal.returns
returns c = record { placed = rows_in_place_always }
