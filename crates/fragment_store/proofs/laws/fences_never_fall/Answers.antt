use Rattle.fragment_store.proofs.Histories.{never_fall}
use Rattle.fragment_store.proofs.laws.fences_never_fall.Goals as goal

pub returns : goal.returns
returns c = never_fall
