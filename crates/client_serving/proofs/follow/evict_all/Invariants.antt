use Rattle.std.proofs.Common.{◌≡◌}
use Rattle.std.specs.Prelude.{fold}
use Rattle.std.specs.Vec.Iter.{into_iter_items}
use Rattle.client_serving.proofs.follow.evict_all.Given as goal
use Rattle.client_serving.specs.Follow.{evict}

abbrev pub invariant-loop-out : goal.invariant-loop-out
invariant-loop-out l = fold evict l.tokens (into_iter_items l.out-iterator) ≡ fold evict l.initial.tokens (into_iter_items l.initial.out-iterator)
