use Rattle.token_tie.proofs.ClientLaws.{takes_inputs, owns_and_writes, owns_and_declines, settles_blocks}
use Rattle.token_tie.proofs.client_inputs.Goals as goal

pub returns : goal.returns
returns c = record { takes = takes_inputs; owns = owns_and_writes; declines = owns_and_declines; settles = settles_blocks }
