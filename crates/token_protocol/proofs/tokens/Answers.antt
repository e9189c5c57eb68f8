use Rattle.token_protocol.proofs.Invariant.{owned}
use Rattle.token_protocol.proofs.Laws.{single_owner, epoch_promised, beliefs_cover, acceptable_believed, no_holder_after_fall}
use Rattle.token_protocol.proofs.tokens.Goals as goal

pub returns : goal.returns
returns c = record {
  single_owner = λ logs n w steps. single_owner w (owned logs n w steps);
  epoch_promised = λ logs n w steps. epoch_promised w (owned logs n w steps);
  beliefs_cover = λ logs n w steps. beliefs_cover w (owned logs n w steps);
  acceptable_believed = λ logs n w steps. acceptable_believed w (owned logs n w steps);
  no_holder_after_fall = λ logs n w steps. no_holder_after_fall w (owned logs n w steps);
}
