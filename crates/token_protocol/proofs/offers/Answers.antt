use Rattle.token_protocol.proofs.Invariant.{always}
use Rattle.token_protocol.proofs.Laws.{offers_joined, acceptable_joins, places_filed, index_bounded}
use Rattle.token_protocol.proofs.offers.Goals as goal

pub returns : goal.returns
returns c = record {
  joined = λ n w steps. offers_joined w (always n w steps);
  acceptable = λ n w steps. acceptable_joins w (always n w steps);
  places = λ n w steps. places_filed w (always n w steps);
  index = λ n w steps. index_bounded w (always n w steps);
}
