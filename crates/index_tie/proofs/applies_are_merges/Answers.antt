use Rattle.index_tie.proofs.Slots.{applies_are_merges}
use Rattle.index_tie.proofs.applies_are_merges.Goals as goal

pub returns : goal.returns
returns c = applies_are_merges
