use Rattle.token_protocol.proofs.Invariant.{always}
use Rattle.token_protocol.proofs.Laws.{flights_new, falls_settled, owners_settled, rows_known}
use Rattle.token_protocol.proofs.logs.Goals as goal

pub returns : goal.returns
returns c = record {
  flights_new = λ n w steps. flights_new w (always n w steps);
  falls_settled = λ n w steps. falls_settled w (always n w steps);
  owners_settled = λ n w steps. owners_settled w (always n w steps);
  rows_known = λ n w steps. rows_known w (always n w steps);
}
