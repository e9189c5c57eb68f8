use Rattle.file_plan.proofs.Versions as versions
use Rattle.file_plan.proofs.laws.writes_are_over_own_reads.Goals as goal

pub returns : goal.returns
returns c = record { own = versions.over_reads; again = versions.reads_again }
