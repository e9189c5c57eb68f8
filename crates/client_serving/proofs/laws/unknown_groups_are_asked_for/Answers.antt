use Rattle.std.proofs.Common.{cond, ap}
use Rattle.client_serving.proofs.laws.unknown_groups_are_asked_for.Goals as goal
use Rattle.client_serving.specs.Packets.{asks_for_maps, take_body, serving_take}

pub returns : goal.returns
unfolding serving_take
returns c = λ s p unknown. ap (λ t. cond t (take_body s p.from p.body) (asks_for_maps s)) unknown
