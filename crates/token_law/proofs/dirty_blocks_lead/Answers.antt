use Rattle.token_law.proofs.Leading.{dirty_blocks_lead}
use Rattle.token_law.proofs.dirty_blocks_lead.Goals as goal

pub returns : goal.returns
returns c = record { lead = dirty_blocks_lead }
