-- The laws of the crates below on which the law of doubtful restarts stands.
use Rattle.log_law.specs.LogLaws.{LogLaws}
use Rattle.loss_law.specs.Losses.{FragmentsGoWithDisks}
use Rattle.run_laws.specs.world_lines.Owners.{StraightFilesStill}

pub record Below : Type 0 where
  pub logs : LogLaws
  pub gone : FragmentsGoWithDisks
  pub straight : StraightFilesStill
