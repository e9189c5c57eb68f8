use Rattle.registry.proofs.Restarts.{restarted}
use Rattle.registry.proofs.laws.a_restart_raises_its_slots.Goals as goal

pub returns : goal.returns
returns c = restarted
