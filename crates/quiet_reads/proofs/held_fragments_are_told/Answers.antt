use Rattle.quiet_reads.proofs.Fetching.{fetch_comes}
use Rattle.quiet_reads.proofs.held_fragments_are_told.Goals as goal

pub returns : goal.returns
returns c = record { told = λ setup works v c ask name held f there named is. fetch_comes setup works v c 0 ask name held f there named is }
