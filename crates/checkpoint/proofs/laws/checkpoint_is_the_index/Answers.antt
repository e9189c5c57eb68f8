use Rattle.checkpoint.proofs.Covering.{is_the_index}
use Rattle.checkpoint.proofs.laws.checkpoint_is_the_index.Goals as goal

pub returns : goal.returns
returns c = is_the_index
