use Rattle.token_manager.proofs.Stamps.{in_order}
use Rattle.token_manager.proofs.laws.no_stamp_is_given_out_twice.Goals as goal

pub returns : goal.returns
returns c = in_order
