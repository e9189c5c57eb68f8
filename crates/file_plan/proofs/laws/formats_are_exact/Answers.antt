use Rattle.file_plan.proofs.BothWays.{buckets_exact, sizes_exact}
use Rattle.file_plan.proofs.laws.formats_are_exact.Goals as goal

pub returns : goal.returns
returns c = record { buckets = buckets_exact; sizes = sizes_exact }
