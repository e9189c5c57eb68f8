use Rattle.run_losses.proofs.reader_law.only_readers_say_lost.Goals as goal
use Rattle.run_losses.proofs.reader_law.Saying.{readers_say_lost}

pub returns : goal.returns
returns c = record { readers = readers_say_lost c.nodes_are_seen.ensures c.fetches_lose_what_is_torn.ensures.earned }
