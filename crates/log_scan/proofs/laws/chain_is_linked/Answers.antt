use Rattle.log_scan.proofs.Lines.{all_linked}
use Rattle.log_scan.proofs.laws.chain_is_linked.Goals as goal

pub returns : goal.returns
returns c = all_linked
