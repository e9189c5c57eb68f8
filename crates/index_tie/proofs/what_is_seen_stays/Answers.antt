use Rattle.index_tie.proofs.Growth.{slots_stay, parts_stay, deltas_stay, more_is_filed}
use Rattle.index_tie.proofs.what_is_seen_stays.Goals as goal

pub returns : goal.returns
returns c = record { slots = slots_stay; parts = parts_stay; deltas = deltas_stay; more = more_is_filed }
