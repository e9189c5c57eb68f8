use Rattle.token_client.proofs.Versions as proof
use Rattle.token_client.proofs.laws.dirty_versions_never_fall.Goals as goal

pub returns : goal.returns
returns c = proof.dirty_versions_never_fall
