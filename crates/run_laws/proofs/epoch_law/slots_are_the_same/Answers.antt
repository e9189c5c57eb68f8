use Rattle.run_laws.proofs.epoch_law.Slots.{slots_start_same, slots_stay_same}
use Rattle.run_laws.proofs.epoch_law.slots_are_the_same.Goals as goal

pub returns : goal.returns
returns c = record { start = slots_start_same; stay = slots_stay_same }
