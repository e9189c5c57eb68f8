use Rattle.delta_index.proofs.EntryAlgebra.{first_greatest-swap}
use Rattle.delta_index.proofs.laws.differing_entries_commute.Goals as goal

pub returns : goal.returns
returns c = first_greatest-swap
