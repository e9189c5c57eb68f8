use Rattle.quiet_gives.proofs.FromClean.{puts_from_clean}
use Rattle.quiet_gives.proofs.puts_take_clean_blocks.Goals as goal

pub returns : goal.returns
returns c = record {
  from_clean = λ setup works ok k s t d b value few drained stands next range asks clean.
      puts_from_clean setup works ok k s t d b value few drained stands next range asks clean;
}
