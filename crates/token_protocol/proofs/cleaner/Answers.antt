use Rattle.std.proofs.Common.{suc, arith}
use Rattle.token_protocol.proofs.Invariant.{owned, always}
use Rattle.token_protocol.proofs.Growing.{grows}
use Rattle.token_protocol.proofs.Laws.{cleaner_idle, cleaner_empty}
use Rattle.token_protocol.specs.World.{start}
use Rattle.token_protocol.specs.Step.Steps.{Done}
use Rattle.token_protocol.proofs.cleaner.Goals as goal

pub returns : goal.returns
returns c = record {
  idle = λ logs n w steps. cleaner_idle w (owned logs n w steps);
  empty = λ n w steps. cleaner_empty w (let same = (grows (suc n) (start (suc n)) w Done steps).members in omega arith) (always (suc n) w steps);
}
