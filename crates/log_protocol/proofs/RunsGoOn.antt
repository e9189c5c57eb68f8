-- Runs go on: what a run reaches is reached when more steps follow, and what names say stays as it was.
use Rattle.std.proofs.Common.{refl}
use Rattle.log_protocol.specs.State.{State}
use Rattle.log_protocol.specs.Step.{Step, Steps}
use Rattle.log_protocol.specs.Step.Step.{Loses}
use Rattle.log_protocol.specs.Step.Steps.{Done, More}
use Rattle.log_protocol.specs.LogLaws.{Reached}
use Rattle.log_protocol.specs.GrowthLaws.{SameNames}

pub steps_on : (w v u : State) → Steps w v → Steps v u → Steps w u
steps_on w v u run Done = run
steps_on w v u run (More {v = x} more step) = More (steps_on w v x run more) step

reached_step : (w u : State) → Step w u → Reached w → Reached u
reached_step w u (Loses v) reached = record { names = reached.names; run = More reached.run (Loses v) }
reached_step w u step reached = record { names = reached.names; run = More reached.run step }

pub reached_on : (w u : State) → Reached w → Steps w u → Reached u
reached_on w u reached Done = reached
reached_on w u reached (More {v = v} run step) = reached_step v u step (reached_on w v reached run)

names_step : (w m u : State) → Step m u → SameNames w m → SameNames w u
names_step w m u (Loses v) same = same
names_step w m u step same = same

pub names_on : (w u : State) → Steps w u → SameNames w u
names_on w u Done = (refl, refl, refl, refl)
names_on w u (More {v = v} run step) = names_step w v u step (names_on w v run)
