-- The play with boards goes by the schedule as each such play does.
use Rattle.std.proofs.Common.{◌≡◌, refl, ◌∙◌, ℕ, true, false, cond, ◌++◌, length, Option, Some, None, slice_get}
use Rattle.wire_msg.specs.declared.packet.Do.{Do}
use Rattle.wire_msg.specs.NodeStep.{NodeStep}
use Rattle.xfs_base.specs.declared.node.NodeId.{NodeId}
use Rattle.xfs_base.specs.declared.node.NodeId.TheVariants.{Registry}
use Rattle.xfs_base.specs.Nodes.{same_node}
use Rattle.world_base.specs.declared.event.Event.TheVariants.{Tick}
use Rattle.world_base.specs.Schedule.{left}
use Rattle.play.specs.Lawful.{repeated_keeps, sent_since_keeps}
use Rattle.play.specs.Manner.{IsLawful}
use Rattle.board_world.specs.declared.board_event.BoardEvent.{BoardEvent}
use Rattle.board_world.specs.declared.board_event.BoardEvent.TheVariants.{Far, Beat}
use Rattle.board_world.specs.NextBoards.{is_up}
use Rattle.board_play.specs.declared.player.Player.{Player}
use Rattle.board_play.specs.declared.sent.Sent.{Sent}
use Rattle.board_play.specs.Plays.{player_beat, beat_all, coming, delivered, delivers, player_happen, happen_where, made_by, manner_of, sent_more, ticks, together}

module _ {N : Type 0} (step : N → Do → NodeStep N) where
  happens_keeps : (p : Player N) (event : BoardEvent) → left (player_happen step p event).schedule ≡ left p.schedule
  unfolding player_happen
  happens_keeps p event =
      sent_since_keeps p.schedule (length p.sent) (length (p.sent ++ sent_more event (together p) (made_by step p event)))

  happens_where_keeps : (p : Player N) (event : Option BoardEvent) → left (happen_where step p event).schedule ≡ left p.schedule
  happens_where_keeps p None = refl
  happens_where_keeps p (Some event) = happens_keeps p event

  beat_keeps : (p : Player N) (board : ℕ) → left (player_beat step p board).schedule ≡ left p.schedule
  unfolding player_beat
  beat_keeps p board = elim (is_up p.boards board) as (λ t. left (cond t (player_happen step p (Beat board)) p).schedule ≡ left p.schedule) [
    | true ↦ happens_keeps p (Beat board)
    | false ↦ refl
  ]

  beats_keep : (p : Player N) → left (beat_all step p).schedule ≡ left p.schedule
  beats_keep p =
      let one = player_beat step p 1 in
      let two = player_beat step one 2 in
      beat_keeps two 3 ∙ beat_keeps one 2 ∙ beat_keeps p 1

  tick_keeps : (p : Player N) (node : NodeId) → left (ticks step p node).schedule ≡ left p.schedule
  unfolding ticks
  tick_keeps p node =
      elim (same_node node Registry) as (λ t. left (cond t (beat_all step p) (player_happen step p (Far (Tick node)))).schedule ≡ left p.schedule) [
        | true ↦ beats_keep p
        | false ↦ happens_keeps p (Far (Tick node))
      ]

  delivers_keeps : (p : Player N) (number : ℕ) (sent : Option Sent) → left (delivers step p number sent).schedule ≡ left p.schedule
  delivers_keeps p number None = refl
  delivers_keeps p number (Some sent) =
      let event = coming (together p) sent.sender sent.place in
      repeated_keeps (happen_where step p event).schedule number ∙ happens_where_keeps p event

  delivery_keeps : (p : Player N) (number : ℕ) → left (delivered step p number).schedule ≡ left p.schedule
  unfolding delivered
  delivery_keeps p number = delivers_keeps p number (slice_get p.sent number)

  pub lawful : IsLawful (manner_of step)
  lawful = record {
    told = λ p s. refl;
    as_it_was = λ p. refl;
    as_many = λ p s. refl;
    delivery_keeps = delivery_keeps;
    tick_keeps = tick_keeps;
  }
