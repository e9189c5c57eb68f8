use Rattle.log_protocol.proofs.IndexMerge.{merging_joins}
use Rattle.log_protocol.proofs.merging_gives_the_join.Goals as goal

pub returns : goal.returns
returns c = record { join = merging_joins }
