use Rattle.std.proofs.Common.{◌≡◌, length}
use Rattle.std.specs.Prelude.{List as Seq}
use Rattle.std.specs.List.{sum_by}
use Rattle.world_base.specs.NextWorld.{start_world}
use Rattle.journals.specs.declared.moment.Moment.{Moment}
use Rattle.journals.specs.Merging.{heads_of}
use Rattle.journals.proofs.Keeping.{Keeps}
use Rattle.journals.proofs.merging.merge.Given as goal

abbrev pub invariant-loop-merged : goal.invariant-loop-merged
invariant-loop-merged g l =
    Keeps g.N.Actor.transition (start_world g.N.Member.first l.script) l.fn.journals.items l.rests.items l.nodes l.merged × (l.heads.items ≡ heads_of l.rests.items)

-- with each moment that is taken less is left
abbrev pub decreases-loop-merged : goal.decreases-loop-merged
decreases-loop-merged g l = sum_by (λ (r : Seq Moment). length r) l.rests.items
