use Rattle.index_tie.proofs.Checkpoints.{parts_cover, parts_are_read, parts_tell, checkpoints_are_kept}
use Rattle.index_tie.proofs.checkpoints_are_kept.Goals as goal

pub returns : goal.returns
returns c = record { cover = parts_cover; read = parts_are_read; rows = parts_tell; kept = checkpoints_are_kept }
