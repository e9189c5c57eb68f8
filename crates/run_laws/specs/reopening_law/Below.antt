-- The laws of the crates below on which the laws of restarts stand.
use Rattle.std.specs.List.{AllByRecursion}
use Rattle.client_log.specs.declared.input.In.{In}
use Rattle.client_log.specs.History.{TellsWhatIsDue}
use Rattle.client_log.specs.LogState.{LogState}
use Rattle.client_log.specs.Transition.{transition}
use Rattle.log_law.specs.LogLaws.{LogLaws}

pub record Below : Type 0 where
  pub logs : LogLaws
  pub due : (s : LogState) (input : In) → AllByRecursion (TellsWhatIsDue s input) (transition s input).outs
