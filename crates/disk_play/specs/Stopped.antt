-- A server that is stopped takes no event.
use Rattle.std.specs.Prelude.{◌≡◌, true, Option, Some}
use Rattle.fragment_store.specs.ShelfState.{ShelfState}
use Rattle.wire_msg.specs.declared.packet.Do.{Do}
use Rattle.wire_msg.specs.NodeStep.{NodeStep}
use Rattle.world_base.specs.declared.event.Event.{Event}
use Rattle.world_base.specs.Events.{node_of}
use Rattle.disk_play.specs.declared.course.Seat.{Seat}
use Rattle.disk_play.specs.Courses.{Deck, happens_on, seat_of}

-- Whatever would happen to it, the play and the disks are left as they were.
abbrev pub StoppedTakeNone : Type 0 → Type 0
StoppedTakeNone N =
    (step : N → Do → NodeStep N) (shelf_of : N → Option ShelfState) (d : Deck N) (event : Event) (seat : Seat)
    → seat_of d.course.stops (node_of event) ≡ Some seat → seat.stop.stopped ≡ true → happens_on step shelf_of d event ≡ d
