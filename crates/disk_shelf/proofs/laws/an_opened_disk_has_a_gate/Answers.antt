use Rattle.disk_shelf.proofs.Doing.{disks_open_so}
use Rattle.disk_shelf.proofs.laws.an_opened_disk_has_a_gate.Goals as goal

pub returns : goal.returns
returns c = disks_open_so
