-- The runs for which the line is claimed: no manager's restart, and no opening serves without the premise on losses.
use Rattle.std.specs.Prelude.{◌≡◌}
use Rattle.log_protocol.specs.State.{State}
use Rattle.log_protocol.specs.Step.{Step, Steps}
use Rattle.log_protocol.specs.Step.Step.{Restarts, Serves}
use Rattle.log_protocol.specs.Step.Steps.{Done, More}

-- one step: an opening that serves has the premise, by the guard of its step
abbrev pub SureStep : {w u : State} → Step w u → Type 0
SureStep (Serves path lowest sure can) = sure ≡ 1
SureStep (Restarts can) = ⊥
SureStep step = Unit {0}

-- each step of a run
abbrev pub SureRun : {w u : State} → Steps w u → Type 0
SureRun Done = Unit {0}
SureRun (More run step) = SureRun run × SureStep step
