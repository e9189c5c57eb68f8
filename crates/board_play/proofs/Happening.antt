-- An event that happens, put together from its parts.
use Rattle.std.proofs.Common.{◌≡◌, refl, ap, ◌∙◌, ℕ, ◌-◌, List, [], ◌∷◌, ◌++◌, length, drop, fold, append_assoc}
use Rattle.wire_msg.specs.declared.packet.Do.{Do}
use Rattle.wire_msg.specs.NodeStep.{NodeStep}
use Rattle.world_base.specs.declared.event.Event.{Event}
use Rattle.world_base.specs.declared.world.World.{World}
use Rattle.world_base.specs.NextWorld.{next_world}
use Rattle.world_base.specs.Schedule.{ScheduleState}
use Rattle.play.specs.Plays.{answers, send_since}
use Rattle.board_world.specs.declared.board_event.BoardEvent.{BoardEvent}
use Rattle.board_world.specs.NextBoards.{BoardsState, boards_take}
use Rattle.board_play.specs.declared.player.Player.{Player}
use Rattle.board_play.specs.declared.sent.Sender.TheVariants.{Boards, Registries}
use Rattle.board_play.specs.declared.sent.Sent.{Sent}
use Rattle.board_play.specs.Plays.{player_happen, send_by, send_far}

-- what went out, in three parts
sent_whole : (sent far registries boards one two three : List Sent) → one ≡ sent ++ far → two ≡ one ++ registries → three ≡ two ++ boards
    → three ≡ sent ++ (far ++ (registries ++ boards))
sent_whole sent far registries boards one two three a b c =
    c
    ∙ ap (λ x. x ++ boards) (b ∙ ap (λ x. x ++ registries) a)
    ∙ append_assoc (sent ++ far) registries boards
    ∙ append_assoc sent far (registries ++ boards)

module _ {N : Type 0} (step : N → Do → NodeStep N) (p : Player N) (event : BoardEvent) where
  pub happens_is : (boards : BoardsState) (outs : List Event) (world : World N) (happened : List BoardEvent) (events : List Event) (one two three : List Sent) (schedule : ScheduleState)
      (unanswered : ℕ)
      → boards ≡ (boards_take p.boards event).state
      → outs ≡ (boards_take p.boards event).outs
      → world ≡ fold (next_world step) p.world outs
      → happened ≡ p.happened ++ event ∷ []
      → events ≡ p.events ++ outs
      → one ≡ p.sent ++ send_far event (length p.world.sent) (length world.sent)
      → two ≡ one ++ send_by Registries (length p.boards.handed) (length boards.handed)
      → three ≡ two ++ send_by Boards (length p.boards.mail) (length boards.mail)
      → schedule ≡ send_since p.schedule (length p.sent) (length three)
      → unanswered ≡ p.unanswered - answers (drop (length p.world.acts) world.acts)
      → ◌≡◌ {A = Player N} (record {
        boards = boards;
        world = world;
        happened = happened;
        events = events;
        sent = three;
        schedule = schedule;
        unanswered = unanswered;
        offered = p.offered;
      }) (player_happen step p event)
  unfolding player_happen
  happens_is boards outs world happened events one two three schedule unanswered b o w h e far registries mail s u =
      let whole =
      sent_whole p.sent (send_far event (length p.world.sent) (length world.sent))
      (send_by Registries (length p.boards.handed) (length boards.handed)) (send_by Boards (length p.boards.mail) (length boards.mail)) one two three far registries mail
      in
      rw (u, s, whole, e, h, w, o, b) refl
