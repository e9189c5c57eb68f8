-- What a name says never changes.
use Rattle.log_protocol.specs.State.{State, Names}
use Rattle.log_protocol.specs.Step.{Step}
use Rattle.log_protocol.specs.Step.Step.{Loses}

pub step_keeps_names : (w u : State) → Step w u → Names w.seq_of w.incarnation_of w.attempt_of → Names u.seq_of u.incarnation_of u.attempt_of
step_keeps_names w u (Loses v) names = names
step_keeps_names w u step names = names
