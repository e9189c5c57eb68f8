use Rattle.std.proofs.Common.{refl}
use Rattle.act_tie.proofs.Injection.{number-same}
use Rattle.act_tie.proofs.numbers.Goals as goal

pub returns : goal.returns
returns c = record { absent = refl; apart = number-same }
