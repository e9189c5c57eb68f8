use Rattle.loss_law.proofs.Disks.{fragments_go_with_disks}
use Rattle.loss_law.proofs.fragments_go_with_disks.Goals as goal

pub returns : goal.returns
returns c = record { gone = fragments_go_with_disks }
