use Rattle.token_client.proofs.Readings.{dirty_keeps_its_stamp}
use Rattle.token_client.proofs.laws.dirty_keeps_its_stamp.Goals as goal

pub returns : goal.returns
returns c = dirty_keeps_its_stamp
