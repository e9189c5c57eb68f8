-- A whole line: it begins its item, packets are delivered, where the item is unanswered then time passes at each node and packets are delivered again, and it
-- stops with nothing on its way.
use Rattle.std.proofs.Common.{◌≡◌, ℕ, suc, ◌+◌, ◌^◌, ◌<◌, ◌≤◌, true, List, [], ◌∷◌, ◌++◌, length, length-append, map, Some, refl, sym, ap, subst, ◌∙◌, append_assoc, arith}
use Rattle.std.specs.List.{count_by}
use Rattle.std.proofs.lemmas.List.{length-map}
use Rattle.std.proofs.lemmas.List.Elements.{filter_map-append}
use Rattle.play.proofs.Manners.{goes_on_done}
use Rattle.play.specs.declared.player.Player.{Player}
use Rattle.play.specs.Lawful.{lawful}
use Rattle.play.specs.Manner as manner
use Rattle.play.specs.Plays.{goes_on, goes_out, manner_of, plays_line}
use Rattle.script_text.specs.declared.script.Line.{Line}
use Rattle.wire_msg.specs.declared.packet.Do.{Do}
use Rattle.wire_msg.specs.declared.packet.Packet.{Packet}
use Rattle.wire_msg.specs.NodeStep.{NodeStep}
use Rattle.world_base.specs.Cluster.{HasNode, cluster_of, node_count, nodes_of}
use Rattle.world_base.specs.declared.event.Event.{Event}
use Rattle.world_base.specs.declared.event.Event.TheVariants.{Begin, Deliver, Tick}
use Rattle.world_base.specs.Items.{actor_of}
use Rattle.world_base.specs.Runs.{begin_of, begun_in}
use Rattle.world_base.specs.Schedule.{schedule_next, is_done}
use Rattle.xfs_base.specs.declared.node.NodeId.{NodeId}
use Rattle.xfs_base.specs.declared.setup.Setup.{Setup}
use Rattle.xfs_base.specs.Limits.{max_deliveries}
use Rattle.quiet_flow.specs.Flow.{Drains, Stage, begins, rounds}
use Rattle.quiet_flow.specs.Follow.{AreAt, Follows, IsBlind, IsShort, LineEnds, Shows}
use Rattle.headline.specs.Bounds.{is_delivery, is_tick_of}
use Rattle.quiet_flow.proofs.Beginning.{Started, starts_line}
use Rattle.quiet_flow.proofs.Counts.{all_deliveries, count_both, no_deliveries, no_ticks, none_begun, none_begun_in_round, ticks_once}
use Rattle.quiet_flow.proofs.Following.{follows}
use Rattle.quiet_flow.proofs.Rounds.{Rounded, everyone, how_many, round_follows}

-- ---- what the events of a line are

abbrev deliveries : List Packet → List Event
deliveries packets = map Deliver packets

short_without : (packets : List Packet) (most : ℕ) → length packets ≤ most → IsShort most (deliveries packets)
short_without packets most few =
    let count = all_deliveries packets in
    record {
      begins = none_begun packets;
      deliveries = omega arith;
      ticks = λ node. let none = no_ticks node packets in omega arith;
    }

module _ (setup : Setup) (first second : List Packet) where
  abbrev round : List Event
  round = map Tick (nodes_of (cluster_of setup))

  abbrev around : List Event
  around = deliveries first ++ (round ++ deliveries second)

  begun_around : begun_in around ≡ []
  begun_around =
      filter_map-append begin_of (deliveries first) (round ++ deliveries second)
      ∙ ap (λ q. q ++ begun_in (round ++ deliveries second)) (none_begun first)
      ∙ filter_map-append begin_of round (deliveries second)
      ∙ ap (λ q. q ++ begun_in (deliveries second)) (none_begun_in_round (nodes_of (cluster_of setup)))
      ∙ none_begun second

  pub delivered_around : count_by is_delivery around ≡ length first + length second
  delivered_around =
      let both = count_both is_delivery (deliveries first) (round ++ deliveries second) in
      let rest = count_both is_delivery round (deliveries second) in
      let one = all_deliveries first in
      let none = no_deliveries (nodes_of (cluster_of setup)) in
      let two = all_deliveries second in
      omega arith

  ticks_around : (node : NodeId) → count_by (is_tick_of node) around ≤ 1
  ticks_around node =
      let both = count_both (is_tick_of node) (deliveries first) (round ++ deliveries second) in
      let rest = count_both (is_tick_of node) round (deliveries second) in
      let one = no_ticks node first in
      let once = ticks_once (cluster_of setup) node in
      let two = no_ticks node second in
      omega arith

  pub short_with : (m n : ℕ) → length first ≤ m → length second ≤ n → IsShort (m + n) around
  short_with m n few more =
      let count = delivered_around in
      record { begins = begun_around; deliveries = omega arith; ticks = ticks_around }

-- ---- the line

module _ {N : Type 0} (step : N → Do → NodeStep N) (is_blind : IsBlind step) (setup : Setup) where
  -- nothing waits and all is answered: the line is done
  over : (q : Player N) (end : Stage N) → Shows setup q end [] → end.unanswered ≡ 0 → is_done (schedule_next q.unanswered q.schedule).next ≡ true
  unfolding schedule_next
  over q end h none = by_queue q.schedule.queue refl
    where
      zero_left : q.unanswered ≡ 0
      zero_left = h.unanswered ∙ none

      by_queue : (queue : List ℕ) → q.schedule.queue ≡ queue → is_done (schedule_next q.unanswered q.schedule).next ≡ true
      by_queue [] is = rw (is, zero_left) refl
      by_queue (n ∷ queue) is = absurd (subst (λ numbers. AreAt q.world.sent numbers []) is h.waits)

  module _ (p : Player N) (t : Stage N) (shows : Shows setup p t []) (node : NodeId) (has : HasNode setup node) (line : Line)
      (actor : actor_of line.work ≡ Some node) where
    -- ---- without a round

    module _ (n : ℕ) (end : Stage N) (most : n ≤ max_deliveries) (room : length p.events + 1 + n < 2 ^ 64)
        (drains : Drains step setup n (begins step t node).state (begins step t node).outs end) (answered : end.unanswered ≡ 0) where
      abbrev start : Started step setup p t node line
      start = starts_line step setup p t node line is_blind shows has (omega arith) actor

      begun_events : length start.first.events ≡ length p.events + 1
      begun_events = ap length start.are ∙ length-append p.events (Begin node ∷ [])

      abbrev rest : Follows step setup start.first (begins step t node).outs n end
      rest =
          let longer = begun_events in
          let may = start.deliveries in
          follows step is_blind setup n start.first (begins step t node).state (begins step t node).outs end start.shows_first drains (omega arith) (omega arith)

      fuel : (a b c m : ℕ) → a + b ≡ c → c + m ≡ b + (a + m)
      fuel a b c m h = omega arith

      goes_is : goes_out step start.first ≡ rest.after
      unfolding manner.playing_go
      goes_is =
          let first = start.first in
          let over_left = rest.after.schedule.deliveries + first.schedule.rounds in
          ap (λ k. goes_on step k first) (fuel rest.after.schedule.deliveries (length rest.packets) first.schedule.deliveries first.schedule.rounds rest.left)
          ∙ rest.goes over_left
          ∙ goes_on_done (manner_of step) (lawful step) rest.after (over rest.after end rest.shows answered) over_left

      pub line_ends : LineEnds step setup p node line n end
      line_ends =
          let is = start.line_is ∙ goes_is in
          let few = rest.few in
          let sent = rest.sends in
          let begun = start.sends in
          let count = all_deliveries rest.packets in
          let long = length-map rest.packets Deliver in
          let ends : length (plays_line step p line).world.sent ≡ length rest.after.world.sent = ap (λ (q : Player N). length q.world.sent) is in
          record {
            shows_end = subst (λ q. Shows setup q end []) (sym is) rest.shows;
            between = deliveries rest.packets;
            are = ap (λ (q : Player N). q.events) is ∙ rest.are ∙ ap (λ es. es ++ deliveries rest.packets) start.are
                ∙ append_assoc p.events (Begin node ∷ []) (deliveries rest.packets);
            short = short_without rest.packets n few;
            few = omega arith;
            sends = omega arith;
          }

    -- ---- with a round

    module _ (m n : ℕ) (mid end : Stage N) (most : m + n ≤ max_deliveries)
        (room : length p.events + 1 + m + node_count (cluster_of setup) + n < 2 ^ 64)
        (drains : Drains step setup m (begins step t node).state (begins step t node).outs mid) (some_open : 1 ≤ mid.unanswered)
        (again : Drains step setup n (rounds step setup mid).state (rounds step setup mid).outs end) (answered : end.unanswered ≡ 0) where
      abbrev opening : Started step setup p t node line
      opening = starts_line step setup p t node line is_blind shows has (omega arith) actor

      one_event : length opening.first.events ≡ length p.events + 1
      one_event = ap length opening.are ∙ length-append p.events (Begin node ∷ [])

      abbrev before : Follows step setup opening.first (begins step t node).outs m mid
      before =
          let longer = one_event in
          let may = opening.deliveries in
          follows step is_blind setup m opening.first (begins step t node).state (begins step t node).outs mid opening.shows_first drains (omega arith) (omega arith)

      before_events : length before.after.events ≡ length p.events + 1 + length before.packets
      before_events =
          let longer = one_event in
          let more = length-append opening.first.events (deliveries before.packets) in
          let long = length-map before.packets Deliver in
          let are : length before.after.events ≡ length (opening.first.events ++ deliveries before.packets) = ap length before.are in
          omega arith

      rounds_left : 1 ≤ before.after.schedule.rounds
      rounds_left = let some = opening.rounds in let same = before.rounds in omega arith

      round_room : length before.after.events + node_count (cluster_of setup) < 2 ^ 64
      round_room = let longer = before_events in let few = before.few in omega arith

      abbrev ticked : Rounded step is_blind setup before.after mid before.shows some_open rounds_left round_room
      ticked = round_follows step is_blind setup before.after mid before.shows some_open rounds_left round_room

      ticked_events : length ticked.after.events ≡ length before.after.events + node_count (cluster_of setup)
      ticked_events =
          let more = length-append before.after.events (map Tick (everyone step is_blind setup)) in
          let long = length-map (everyone step is_blind setup) Tick in
          let count = how_many step is_blind setup in
          let are : length ticked.after.events ≡ length (before.after.events ++ map Tick (everyone step is_blind setup)) = ap length ticked.are in
          omega arith

      abbrev behind : Follows step setup ticked.after (rounds step setup mid).outs n end
      behind =
          let longer = before_events in
          let long = ticked_events in
          let few = before.few in
          let may = opening.deliveries in
          let left = before.left in
          let same = ticked.deliveries in
          follows step is_blind setup n ticked.after (rounds step setup mid).state (rounds step setup mid).outs end ticked.shows_round again (omega arith) (omega arith)

      all_is : goes_out step opening.first ≡ behind.after
      unfolding manner.playing_go
      all_is =
          let first = opening.first in
          let over_left = behind.after.schedule.deliveries + behind.after.schedule.rounds in
          ap (λ k. goes_on step k first) fuel_is
          ∙ before.goes (suc (length behind.packets + over_left))
          ∙ ticked.goes (length behind.packets + over_left)
          ∙ behind.goes over_left
          ∙ goes_on_done (manner_of step) (lawful step) behind.after (over behind.after end behind.shows answered) over_left
        where
          fuel_is : opening.first.schedule.deliveries + opening.first.schedule.rounds
              ≡ length before.packets + suc (length behind.packets + (behind.after.schedule.deliveries + behind.after.schedule.rounds))
          fuel_is =
              let some = rounds_left in
              let one = before.left in
              let two = ticked.deliveries in
              let three = behind.left in
              let four = before.rounds in
              let five = ticked.rounds_left in
              let six = behind.rounds in
              omega arith

      abbrev before_list : List Event
      before_list = deliveries before.packets

      abbrev behind_list : List Event
      behind_list = deliveries behind.packets

      abbrev round_list : List Event
      round_list = map Tick (nodes_of (cluster_of setup))

      events_are : behind.after.events ≡ p.events ++ Begin node ∷ around setup before.packets behind.packets
      events_are =
          behind.are
          ∙ ap (λ es. es ++ behind_list) ticked.are
          ∙ ap (λ es. (es ++ round_list) ++ behind_list) before.are
          ∙ ap (λ es. ((es ++ before_list) ++ round_list) ++ behind_list) opening.are
          ∙ append_assoc ((p.events ++ Begin node ∷ []) ++ before_list) round_list behind_list
          ∙ append_assoc (p.events ++ Begin node ∷ []) before_list (round_list ++ behind_list)
          ∙ append_assoc p.events (Begin node ∷ []) (before_list ++ (round_list ++ behind_list))

      how_long : length (around setup before.packets behind.packets) ≤ m + n + node_count (cluster_of setup)
      how_long =
          let few = before.few in
          let more = behind.few in
          let one = length-append before_list (round_list ++ behind_list) in
          let two = length-append round_list behind_list in
          let three = length-map before.packets Deliver in
          let four = length-map behind.packets Deliver in
          let five = length-map (nodes_of (cluster_of setup)) Tick in
          let six = how_many step is_blind setup in
          omega arith

      pub line_ends_after_round : LineEnds step setup p node line (m + n) end
      line_ends_after_round =
          let is = opening.line_is ∙ all_is in
          let few = before.few in
          let more = behind.few in
          let begun = opening.sends in
          let one = before.sends in
          let two = ticked.sends in
          let three = behind.sends in
          let count = delivered_around setup before.packets behind.packets in
          let ends : length (plays_line step p line).world.sent ≡ length behind.after.world.sent = ap (λ (q : Player N). length q.world.sent) is in
          record {
            shows_end = subst (λ q. Shows setup q end []) (sym is) behind.shows;
            between = around setup before.packets behind.packets;
            are = ap (λ (q : Player N). q.events) is ∙ events_are;
            short = short_with setup before.packets behind.packets m n few more;
            few = how_long;
            sends = omega arith;
          }
