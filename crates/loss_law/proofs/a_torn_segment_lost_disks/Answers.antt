use Rattle.loss_law.proofs.Disks.{a_torn_segment_lost_disks}
use Rattle.loss_law.proofs.a_torn_segment_lost_disks.Goals as goal

pub returns : goal.returns
returns c = record { disks = a_torn_segment_lost_disks c.logs_stay_whole.ensures.whole }
