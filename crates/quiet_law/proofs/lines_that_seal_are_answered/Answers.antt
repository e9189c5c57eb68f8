use Rattle.quiet_law.proofs.Syncing.{syncs_what_waits}
use Rattle.quiet_law.proofs.Writes.{puts_owned}
use Rattle.quiet_law.proofs.lines_that_seal_are_answered.Goals as goal

pub returns : goal.returns
returns c = record {
  syncs = λ setup works k s t c d stands ok few next some. syncs_what_waits setup works k s t c d stands ok few next some;
  owned_puts = λ setup works k s t c d stands ok few b value next range own. puts_owned setup works k s t c d stands ok few b value next range own;
}
