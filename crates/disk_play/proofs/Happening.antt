-- What an event is, by the seat of its node.
use Rattle.std.proofs.Common.{◌≡◌, Bool, true, false, cond, Option, Some, None, refl, ap, ◌∙◌}
use Rattle.fragment_store.specs.ShelfState.{ShelfState}
use Rattle.play.specs.Plays.{player_happen}
use Rattle.wire_msg.specs.declared.packet.Do.{Do}
use Rattle.wire_msg.specs.NodeStep.{NodeStep}
use Rattle.world_base.specs.declared.event.Event.{Event}
use Rattle.world_base.specs.declared.event.Event.TheVariants.{Tick}
use Rattle.world_base.specs.Events.{node_of}
use Rattle.xfs_base.specs.declared.node.NodeId.{NodeId}
use Rattle.disk_play.specs.declared.course.Seat.{Seat}
use Rattle.disk_play.specs.Courses.{Deck, happens_at, happens_on, happens_to, on_course, seat_of, ticks_on, with_player}

module _ {N : Type 0} (step : N → Do → NodeStep N) (shelf_of : N → Option ShelfState) (d : Deck N) where
  -- of a node that has none
  pub on_none : (event : Event) → seat_of d.course.stops (node_of event) ≡ None → happens_on step shelf_of d event
      ≡ on_course (λ c. with_player c (player_happen step c.player event)) d
  unfolding happens_on
  on_none event fact = ap (λ o. happens_to step shelf_of d o event) fact

  -- of a server that is stopped
  pub on_stopped : (event : Event) (seat : Seat) → seat_of d.course.stops (node_of event) ≡ Some seat → seat.stop.stopped ≡ true
      → happens_on step shelf_of d event ≡ d
  unfolding happens_on
  on_stopped event seat fact stopped =
      ap (λ o. happens_to step shelf_of d o event) fact ∙ ap (λ (b : Bool). cond b d (happens_at step shelf_of d seat event)) stopped

  -- of one that runs
  pub on_running : (event : Event) (seat : Seat) → seat_of d.course.stops (node_of event) ≡ Some seat → seat.stop.stopped ≡ false
      → happens_on step shelf_of d event ≡ happens_at step shelf_of d seat event
  unfolding happens_on
  on_running event seat fact runs =
      ap (λ o. happens_to step shelf_of d o event) fact ∙ ap (λ (b : Bool). cond b d (happens_at step shelf_of d seat event)) runs

  pub ticks_is : (node : NodeId) → happens_on step shelf_of d (Tick node) ≡ ticks_on step shelf_of d node
  unfolding ticks_on
  ticks_is node = refl
