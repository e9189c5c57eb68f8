use Rattle.token_protocol.proofs.Invariant.{owned}
use Rattle.token_protocol.proofs.Laws.{epoch_promised}
use Rattle.token_protocol.proofs.StampsSeen.{taken, equal, stamped, activated, promised, unheard}
use Rattle.token_protocol.proofs.stamps.Goals as goal

pub returns : goal.returns
returns c = record {
  taken = taken;
  equal = equal;
  stamped = stamped;
  activated = activated;
  promised = promised;
  unheard = λ logs n w steps. unheard w (epoch_promised w (owned logs n w steps));
}
