use Rattle.usage_table.proofs.FromScratch.{counted_from_nothing}
use Rattle.usage_table.proofs.laws.counts_from_scratch.Goals as goal

pub returns : goal.returns
returns c = counted_from_nothing
