-- What would happen to a server that is stopped changes nothing.
use Rattle.std.proofs.Common.{◌∙◌, ap, cond, Option}
use Rattle.disk_play.specs.declared.course.Seat.{Seat}
use Rattle.disk_play.specs.Courses.{happens_at, happens_on, happens_to}
use Rattle.disk_play.specs.Stopped.{StoppedTakeNone}

pub take_none : {N : Type 0} → StoppedTakeNone N
unfolding happens_on
take_none step shelf_of d event seat at stopped =
    ap (λ (o : Option Seat). happens_to step shelf_of d o event) at ∙ ap (λ t. cond t d (happens_at step shelf_of d seat event)) stopped
