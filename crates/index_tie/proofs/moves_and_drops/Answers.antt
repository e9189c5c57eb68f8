use Rattle.index_tie.proofs.Answers.{live_is_filed, moves_are_copies, deads_are_beats}
use Rattle.index_tie.proofs.Cleaning.{moves_and_drops}
use Rattle.index_tie.proofs.JobsStay.{jobs_stay, jobs_begin}
use Rattle.index_tie.proofs.moves_and_drops.Goals as goal

pub returns : goal.returns
returns c = record { live = live_is_filed; moves = moves_are_copies; dead = deads_are_beats; inputs = moves_and_drops; stay = jobs_stay; begin = jobs_begin }
