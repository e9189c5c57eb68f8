use Rattle.group_map.proofs.FallingGenerations.{never_fall}
use Rattle.group_map.proofs.laws.generations_never_fall.Goals as goal

pub returns : goal.returns
returns c = never_fall
