-- The play with servers that stop goes by the schedule as each such play does.
use Rattle.std.proofs.Common.{◌≡◌, refl, ◌∙◌, ℕ, length, Option, Some, None, slice_get}
use Rattle.fragment_store.specs.ShelfState.{ShelfState}
use Rattle.play.specs.Lawful.{repeated_keeps, sent_since_keeps}
use Rattle.play.specs.Manner.{IsLawful}
use Rattle.play.specs.declared.player.Player.{Player}
use Rattle.play.specs.Plays.{player_happen}
use Rattle.wire_msg.specs.declared.packet.Do.{Do}
use Rattle.wire_msg.specs.declared.packet.Packet.{Packet}
use Rattle.wire_msg.specs.NodeStep.{NodeStep}
use Rattle.world_base.specs.declared.event.Event.{Event}
use Rattle.world_base.specs.declared.event.Event.TheVariants.{Deliver, Tick}
use Rattle.world_base.specs.declared.world.World.{World}
use Rattle.world_base.specs.Events.{node_of}
use Rattle.world_base.specs.NextWorld.{next_world}
use Rattle.world_base.specs.Schedule.{left}
use Rattle.xfs_base.proofs.Booleans.{by_test}
use Rattle.xfs_base.specs.declared.node.NodeId.{NodeId}
use Rattle.disk_play.specs.declared.course.Seat.{Seat}
use Rattle.disk_play.specs.declared.stop.Fate.{Fate}
use Rattle.disk_play.specs.declared.stop.Fate.TheVariants.{Answered, Unanswered, Lost}
use Rattle.disk_play.specs.Courses.{Deck, delivered_on, delivers_on, fate_for, happens_at, happens_on, happens_to, manner_on, player_by, seat_of, ticks_on}

module _ {N : Type 0} (step : N → Do → NodeStep N) (shelf_of : N → Option ShelfState) where
  abbrev left_of : Deck N → ℕ
  left_of d = left d.course.player.schedule

  settled_keeps : (f : Fate) (p : Player N) (event : Event) (world : World N) → left (player_by f p event world).schedule ≡ left p.schedule
  settled_keeps Answered p event world = sent_since_keeps p.schedule (length p.world.sent) (length world.sent)
  settled_keeps Unanswered p event world = refl
  settled_keeps Lost p event world = refl

  to_keeps : (d : Deck N) (seat : Option Seat) (event : Event) → left_of (happens_to step shelf_of d seat event) ≡ left_of d
  unfolding player_happen
  to_keeps d None event =
      sent_since_keeps d.course.player.schedule (length d.course.player.world.sent) (length (next_world step d.course.player.world event).sent)
  to_keeps d (Some seat) event =
      by_test (λ (x : Deck N). left_of x ≡ left_of d) seat.stop.stopped d (happens_at step shelf_of d seat event) (λ t. refl)
      (λ t. settled_keeps (fate_for seat.stop _) d.course.player event (next_world step d.course.player.world event))

  happens_keeps : (d : Deck N) (event : Event) → left_of (happens_on step shelf_of d event) ≡ left_of d
  unfolding happens_on
  happens_keeps d event = to_keeps d (seat_of d.course.stops (node_of event)) event

  tick_keeps : (d : Deck N) (node : NodeId) → left_of (ticks_on step shelf_of d node) ≡ left_of d
  unfolding ticks_on
  tick_keeps d node = happens_keeps d (Tick node)

  delivers_keeps : (d : Deck N) (number : ℕ) (packet : Option Packet) → left_of (delivers_on step shelf_of d number packet) ≡ left_of d
  delivers_keeps d number None = refl
  delivers_keeps d number (Some packet) =
      repeated_keeps (happens_on step shelf_of d (Deliver packet)).course.player.schedule number ∙ happens_keeps d (Deliver packet)

  delivery_keeps : (d : Deck N) (number : ℕ) → left_of (delivered_on step shelf_of d number) ≡ left_of d
  unfolding delivered_on
  delivery_keeps d number = delivers_keeps d number (slice_get d.course.player.world.sent number)

  pub lawful : IsLawful (manner_on step shelf_of)
  lawful = record {
    told = λ d s. refl;
    as_it_was = λ d. refl;
    as_many = λ d s. refl;
    delivery_keeps = delivery_keeps;
    tick_keeps = tick_keeps;
  }
