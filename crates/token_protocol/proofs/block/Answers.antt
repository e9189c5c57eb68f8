use Rattle.token_protocol.proofs.Invariant.{always}
use Rattle.token_protocol.proofs.Laws.{holders_newest, reads_legal, join_is_join, join_newest, dirty_leads, falls_legal, returns_legal}
use Rattle.token_protocol.proofs.Told.{acts_legal}
use Rattle.token_protocol.proofs.block.Goals as goal

pub returns : goal.returns
returns c = record {
  holders_newest = λ n w steps. holders_newest w (always n w steps);
  reads_legal = λ n w steps. reads_legal w (always n w steps);
  join_is_join = λ n w steps. join_is_join w (always n w steps);
  join_newest = λ n w steps. join_newest w (always n w steps);
  dirty_leads = λ n w steps. dirty_leads w (always n w steps);
  falls_legal = λ n w steps. falls_legal w (always n w steps);
  returns_legal = λ n w steps. returns_legal w (always n w steps);
  acts_legal = acts_legal;
}
