use Rattle.log_protocol.proofs.StateLaws.{book_always, shelves_always, owner_always, horizons_always}
use Rattle.log_protocol.proofs.all_is_in_order.Goals as goal

pub returns : goal.returns
returns c = record { book = book_always; shelves = shelves_always; owner = owner_always; horizons = horizons_always }
