use Rattle.log_protocol.proofs.PickedLists.{gathered_picked, gathered_none}
use Rattle.log_protocol.proofs.pick_is_a_fold.Goals as goal

pub returns : goal.returns
returns c = record { picked = gathered_picked; nothing = gathered_none }
