-- An event that happens, put together from its parts.
use Rattle.std.proofs.Common.{◌≡◌, refl, ℕ, ◌-◌, List, [], ◌∷◌, ◌++◌, length, drop}
use Rattle.wire_msg.specs.declared.packet.Do.{Do}
use Rattle.wire_msg.specs.NodeStep.{NodeStep}
use Rattle.xfs_base.specs.declared.node.NodeId.{NodeId}
use Rattle.world_base.specs.declared.event.Event.{Event}
use Rattle.world_base.specs.declared.event.Event.TheVariants.{Begin, Deliver, Tick}
use Rattle.world_base.specs.declared.world.World.{World}
use Rattle.world_base.specs.Events.{event_of, node_of, what_of}
use Rattle.world_base.specs.NextWorld.{next_world}
use Rattle.world_base.specs.Schedule.{ScheduleState}
use Rattle.play.specs.declared.player.Player.{Player}
use Rattle.play.specs.Plays.{answers, player_happen, send_since}

pub same_event : (event : Event) → event_of (node_of event) (what_of event) ≡ event
same_event (Begin node) = refl
same_event (Deliver packet) = refl
same_event (Tick node) = refl

module _ {N : Type 0} (step : N → Do → NodeStep N) where
  pub happens_is : (p : Player N) (event : Event) (world : World N) (events : List Event) (schedule : ScheduleState) (unanswered : ℕ)
      → world ≡ next_world step p.world event
      → events ≡ p.events ++ event ∷ []
      → schedule ≡ send_since p.schedule (length p.world.sent) (length world.sent)
      → unanswered ≡ p.unanswered - answers (drop (length p.world.acts) world.acts)
      → ◌≡◌ {A = Player N} (record { world = world; events = events; schedule = schedule; unanswered = unanswered }) (player_happen step p event)
  unfolding player_happen
  happens_is p event world events schedule unanswered w e s u = rw (e, s, u, w) refl
