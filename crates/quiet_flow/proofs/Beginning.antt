-- A line begins an item of a node: the play shows the stage after the begin, and the schedule lets the packets be delivered.
use Rattle.std.proofs.Common.{◌≡◌, ℕ, ◌+◌, ◌*◌, ◌^◌, ◌<◌, ◌≤◌, [], ◌∷◌, ◌++◌, length, Some, refl, ap, ◌∙◌, arith}
use Rattle.play.specs.declared.player.Player.{Player}
use Rattle.play.specs.Manner as manner
use Rattle.play.specs.Plays.{player_begin, goes_out, item_told, opens, plays_line, with_one_more, with_schedule}
use Rattle.play.specs.Plays as plays
use Rattle.script_text.specs.declared.script.Line.{Line}
use Rattle.wire_msg.specs.declared.packet.Do.{Do}
use Rattle.wire_msg.specs.NodeStep.{NodeStep}
use Rattle.world_base.specs.Cluster.{HasNode}
use Rattle.world_base.specs.declared.event.Event.TheVariants.{Begin}
use Rattle.world_base.specs.Items.{actor_of}
use Rattle.world_base.specs.Schedule.{schedule_drain, item_begun}
use Rattle.xfs_base.specs.declared.node.NodeId.{NodeId}
use Rattle.xfs_base.specs.declared.setup.Setup.{Setup}
use Rattle.xfs_base.specs.Limits.{max_deliveries}
use Rattle.quiet_flow.specs.Flow.{Done, Stage, one_more}
use Rattle.quiet_flow.specs.Flow as flow
use Rattle.quiet_flow.specs.Follow.{IsBlind, Shows}
use Rattle.quiet_flow.proofs.Happening.{event_follows}

module _ {N : Type 0} (step : N → Do → NodeStep N) (setup : Setup) (p : Player N) (t : Stage N) (node : NodeId) (line : Line) where
  -- the play once the line has begun its item
  pub record Started : Type 0 where
    pub first : Player N
    pub line_is : plays_line step p line ≡ goes_out step first
    pub shows_first : Shows setup first (flow.begins step t node).state (flow.begins step t node).outs
    pub are : first.events ≡ p.events ++ Begin node ∷ []
    pub deliveries : first.schedule.deliveries ≡ max_deliveries
    pub rounds : 40 ≤ first.schedule.rounds
    pub sends : length first.world.sent ≡ length p.world.sent + length (flow.begins step t node).outs

  module _ (is_blind : IsBlind step) (shows : Shows setup p t []) (has : HasNode setup node) (room : length p.events + 1 < 2 ^ 64)
      (actor : actor_of line.work ≡ Some node) where
    abbrev counted : Player N
    counted = with_one_more p

    counted_shows : Shows setup counted (one_more t) []
    counted_shows = record {
      cluster = shows.cluster;
      placed = shows.placed;
      acts = shows.acts;
      unanswered = ap (λ n. n + 1) shows.unanswered;
      clocks = shows.clocks;
      low = shows.low;
      sent_low = shows.sent_low;
      plain = shows.plain;
      waits = shows.waits;
    }

    abbrev begun : Player N
    begun = plays.player_happen step counted (Begin node)

    abbrev now : Done N
    now = flow.begins step t node

    abbrev first : Player N
    first = with_schedule begun (schedule_drain begun.unanswered begun.schedule)

    begun_shows : Shows setup begun now.state now.outs
    begun_shows = (event_follows step is_blind setup counted (one_more t) [] counted_shows (Begin node) has (omega arith) room).after_shows

    schedule_is : item_begun begun.unanswered begun.schedule ≡ schedule_drain begun.unanswered begun.schedule
    unfolding item_begun
    schedule_is = rw begun_shows.plain.holding refl

    told_is : item_told begun ≡ first
    told_is = ap (with_schedule begun) schedule_is

    starts_so : plays_line step p line ≡ goes_out step first
    unfolding manner.play_line opens player_begin
    starts_so = ap (λ o. goes_out step (plays.opens_for step p line.work o)) actor ∙ ap (goes_out step) told_is

    pub starts_line : Started
    starts_line =
        let did = event_follows step is_blind setup counted (one_more t) [] counted_shows (Begin node) has (omega arith) room in
        record {
          first = first;
          line_is = starts_so;
          shows_first = record {
            cluster = did.after_shows.cluster;
            placed = did.after_shows.placed;
            acts = did.after_shows.acts;
            unanswered = did.after_shows.unanswered;
            clocks = did.after_shows.clocks;
            low = did.after_shows.low;
            sent_low = did.after_shows.sent_low;
            plain = record {
              lose = did.after_shows.plain.lose;
              again = did.after_shows.plain.again;
              mixer = did.after_shows.plain.mixer;
              holding = did.after_shows.plain.holding;
            };
            waits = did.after_shows.waits;
          };
          are = did.events_are;
          deliveries = refl;
          rounds = at_least begun.schedule.lose begun.unanswered;
          sends = did.sends;
        }
      where
        at_least : (a b : ℕ) → 40 ≤ 40 + a + 4 * b
        at_least a b = omega arith
