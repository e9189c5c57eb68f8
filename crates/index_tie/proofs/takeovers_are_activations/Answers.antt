use Rattle.index_tie.proofs.Takeovers.{takeovers_are_activations}
use Rattle.index_tie.proofs.takeovers_are_activations.Goals as goal

pub returns : goal.returns
returns c = takeovers_are_activations
