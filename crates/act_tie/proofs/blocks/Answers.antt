use Rattle.act_tie.proofs.Legality.{are_legal, are_shown}
use Rattle.act_tie.proofs.blocks.Goals as goal

pub returns : goal.returns
returns c = record { legal = are_legal; history = are_shown }
