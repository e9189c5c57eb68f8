use Rattle.quiet_law.proofs.Alone.{puts_alone}
use Rattle.quiet_law.proofs.lines_that_ask_are_answered.Goals as goal

pub returns : goal.returns
returns c = record {
  lonely_puts = λ setup works k s t c d stands ok few b value next range asks nobody. puts_alone setup works k s t c d stands ok few b value next range asks nobody;
}
