use Rattle.quiet_flow.proofs.Following.{follows}
use Rattle.quiet_flow.proofs.Lines.{line_ends, line_ends_after_round}
use Rattle.quiet_flow.proofs.plays_follow_the_flow.Goals as goal

pub returns : goal.returns
returns g c = record {
  follow = λ step blind setup n p t waiting end shows drains few room. follows step blind setup n p t waiting end shows drains few room;
  lines = λ step blind setup p t node line n end shows has acts most room drains answered.
      line_ends step blind setup p t shows node has line acts n end most room drains answered;
  rounds = λ step blind setup p t node line m n mid end shows has acts most room drains some_open again answered.
      line_ends_after_round step blind setup p t shows node has line acts m n mid end most room drains some_open again answered;
}
