use Rattle.log_scan.proofs.Picked.{picked_is}
use Rattle.log_scan.proofs.laws.none_is_newer.Goals as goal

pub returns : goal.returns
returns c = picked_is
