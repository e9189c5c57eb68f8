use Rattle.std.proofs.Common.{subst}
use Rattle.takeover.specs.Course.{StartsSlot}
use Rattle.manager_slots.proofs.Starting.{has_few}
use Rattle.manager_slots.proofs.takeovers.say.Goals as goal

pub start-requires-clause-room : goal.start-requires-clause-room
start-requires-clause-room c = has_few c.in-Active.index c.in-Active.applied (subst StartsSlot c.in-Active.is c.requires)
