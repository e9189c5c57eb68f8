-- An event happens: where a play shows a stage, the play after it shows the stage after it, whatever the clocks and the numbers of packets are.
use Rattle.std.proofs.Common.{◌≡◌, ℕ, zero, suc, ◌+◌, ◌-◌, ◌^◌, ◌<◌, ◌≤◌, max, true, false, cond, ◌&&◌, nat_lt, List, [], ◌∷◌, ◌++◌, length, length-append, map, drop, fold, slice_get, slice_set, slice_index, All, Some, None, refl, sym, ap, subst, ◌∙◌, arith}
use Rattle.std.specs.List.{range_with_len}
use Rattle.std.proofs.lemmas.Bool.Decides.{nat_tests}
use Rattle.std.proofs.lemmas.Bool.{lt-ltb}
use Rattle.std.proofs.lemmas.List.{length-map}
use Rattle.std.proofs.lemmas.List.Elements.{All-append, All-cons, All-map}
use Rattle.std.proofs.lemmas.Option.{slice_get_within}
use Rattle.std.proofs.Math.ListN.{length-set}
use Rattle.std.proofs.Math.Seq.{drop-append_seam}
use Rattle.play.specs.declared.player.Player.{Player}
use Rattle.play.specs.Plays.{answers, send_since, with_event}
use Rattle.play.specs.Plays as plays
use Rattle.version_model.specs.declared.act.Act.{Act}
use Rattle.wire_msg.specs.declared.packet.Do.{Do}
use Rattle.wire_msg.specs.declared.packet.Do.TheVariants as whats
use Rattle.wire_msg.specs.declared.packet.Packet.{Packet}
use Rattle.wire_msg.specs.NodeStep.{NodeStep}
use Rattle.world_base.proofs.Places.{place_had}
use Rattle.world_base.specs.Cluster.{HasNode, cluster_of, place_of}
use Rattle.world_base.specs.declared.event.Event.{Event}
use Rattle.world_base.specs.declared.world.World.{World}
use Rattle.world_base.specs.Events.{node_of, what_of}
use Rattle.world_base.specs.NextWorld.{clock_at, world_happen, happen_at, next_world, sent_at, turn_of}
use Rattle.world_base.specs.Schedule.{ScheduleState, schedule_send}
use Rattle.xfs_base.proofs.NodeOrder.{same_node_is}
use Rattle.xfs_base.specs.declared.node.NodeId.{NodeId}
use Rattle.xfs_base.specs.declared.setup.Setup.{Setup}
use Rattle.xfs_base.specs.Nodes.{same_node}
use Rattle.quiet_flow.specs.Flow.{Done, Stage, happens, put_node, stepped, turned, unclocked}
use Rattle.quiet_flow.specs.Follow.{IsBlind, Shows, node_in}
use Rattle.quiet_flow.proofs.Numbers.{all_sent, are_both, are_next, are_still}
use Rattle.quiet_flow.proofs.Places.{here, there, not_same}

-- what happens, but for the clock of a packet that comes
abbrev pub unclocked_do : Do → Do
unclocked_do whats.Begin = whats.Begin
unclocked_do (whats.Deliver packet) = whats.Deliver (unclocked packet)
unclocked_do whats.Tick = whats.Tick

-- the clock that comes with it
abbrev pub clock_in : Do → ℕ
clock_in whats.Begin = 0
clock_in (whats.Deliver packet) = packet.clock
clock_in whats.Tick = 0

module _ {N : Type 0} (step : N → Do → NodeStep N) (is_blind : IsBlind step) where
  blind : (node : N) (what : Do) → step node what ≡ step node (unclocked_do what)
  blind node whats.Begin = refl
  blind node (whats.Deliver packet) = is_blind node packet
  blind node whats.Tick = refl

  -- what a turn makes of the world, by the clock of its event
  abbrev pub after_step : World N → ℕ → ℕ → NodeStep N → World N
  after_step w place clock r = record {
    cluster = w.cluster;
    nodes = slice_set w.nodes place r.node;
    clocks = slice_set w.clocks place clock;
    sent = w.sent ++ map (sent_at clock) r.packets;
    acts = w.acts ++ r.acts;
  }

  world_is : (w : World N) (name : NodeId) (what : Do) (place clock : ℕ) (node : N) → place_of w.cluster name ≡ Some place
      → slice_get w.nodes place ≡ Some node → clock_at w place what ≡ Some clock
      → world_happen step w name what ≡ after_step w place clock (step node what)
  unfolding world_happen happen_at turn_of
  world_is w name what place clock node at there clocked = rw (at, clocked, there) refl

  -- the clock of an event, where none is beyond a bound
  pub record Clocked (w : World N) (place bound : ℕ) (what : Do) : Type 0 where
    pub clock : ℕ
    pub is : clock_at w place what ≡ Some clock
    pub low : clock ≤ bound + 1

  module _ (w : World N) (place bound : ℕ) (nodes : place < length w.nodes) (clocks : place < length w.clocks)
      (low : slice_index w.clocks place ≤ bound) (room : bound + 1 < 2 ^ 64) where
    both_there : (nat_lt place (length w.nodes) && nat_lt place (length w.clocks)) ≡ true
    both_there = ap (λ t. t && nat_lt place (length w.clocks)) (lt-ltb place (length w.nodes) nodes) ∙ lt-ltb place (length w.clocks) clocks

    plain_clock : (what : Do) → what ≡ unclocked_do what → (clock_at w place what ≡ cond (nat_lt (slice_index w.clocks place + 1) (2 ^ 64)) (Some (slice_index w.clocks place + 1)) None)
        → Clocked w place bound what
    plain_clock what same is =
        record {
          clock = slice_index w.clocks place + 1;
          is = is ∙ ap (λ t. cond t (Some (slice_index w.clocks place + 1)) None) (lt-ltb (slice_index w.clocks place + 1) (2 ^ 64) (omega arith));
          low = omega arith;
        }

    pub clocked : (what : Do) → clock_in what ≤ bound → Clocked w place bound what
    clocked whats.Begin h = plain_clock whats.Begin refl (rw both_there refl)
    clocked whats.Tick h = plain_clock whats.Tick refl (rw both_there refl)
    clocked (whats.Deliver packet) h =
        let high : max (slice_index w.clocks place) packet.clock ≤ bound = grind (arith, nat_tests) in
        record {
          clock = max (slice_index w.clocks place) packet.clock + 1;
          is = rw both_there
              (ap (λ t. cond t (Some (max (slice_index w.clocks place) packet.clock + 1)) None)
              (lt-ltb (max (slice_index w.clocks place) packet.clock + 1) (2 ^ 64) (omega arith)));
          low = omega arith;
        }

  all_raised : (a b : ℕ) (xs : List ℕ) → a ≤ b → All (λ x. x ≤ a) xs → All (λ x. x ≤ b) xs
  all_raised a b xs h all = λ i d less. up (all i d less) h
    where
      up : {x : ℕ} → x ≤ a → a ≤ b → x ≤ b
      up p q = omega arith

  all_set : (b : ℕ) (xs : List ℕ) (place x : ℕ) → x ≤ b → All (λ y. y ≤ b) xs → All (λ y. y ≤ b) (slice_set xs place x)
  all_set b [] place x h all = all
  all_set b (y ∷ xs) zero x h all = All-cons (λ y. y ≤ b) x xs h (λ i d less. all (suc i) d (omega arith))
  all_set b (y ∷ xs) (suc place) x h all =
      All-cons (λ y. y ≤ b) y (slice_set xs place x) (all 0 y (omega arith)) (all_set b xs place x h (λ i d less. all (suc i) d (omega arith)))

  pub more_events : (p : Player N) (event : Event) → length (p.events ++ event ∷ []) ≡ length p.events + 1
  more_events p event = length-append p.events (event ∷ [])

  module _ (setup : Setup) (p : Player N) (t : Stage N) (waiting : List Packet) (shows : Shows setup p t waiting) (event : Event)
      (has : HasNode setup (node_of event)) (low : clock_in (what_of event) ≤ length p.events) (room : length p.events + 1 < 2 ^ 64) where
    abbrev name : NodeId
    name = node_of event

    abbrev what : Do
    what = what_of event

    abbrev r : NodeStep N
    r = step (t.node name) what

    abbrev now : Done N
    now = happens step t name (unclocked_do what)

    now_is : now ≡ stepped t name r
    unfolding happens
    now_is = ap (stepped t name) (sym (blind (t.node name) what))

    -- the place of the node
    module _ (place : ℕ) (at : place_of (cluster_of setup) name ≡ Some place) where
      at_world : place_of p.world.cluster name ≡ Some place
      at_world = ap (λ c. place_of c name) shows.cluster ∙ at

      node_there : slice_get p.world.nodes place ≡ Some (t.node name)
      node_there = sym (ap (node_in p.world.nodes) at) ∙ shows.placed name has

      pub within : place < length p.world.nodes
      within = slice_get_within p.world.nodes place (t.node name) node_there

      pub within_clocks : place < length p.world.clocks
      within_clocks = subst (λ n. place < n) (sym shows.clocks) within

      abbrev its_clock : Clocked p.world place (length p.events) what
      its_clock = clocked p.world place (length p.events) within within_clocks (shows.low place 0 within_clocks) room what low

      abbrev clock : ℕ
      clock = its_clock.clock

      abbrev world : World N
      world = after_step p.world place clock r

      next_is : next_world step p.world event ≡ world
      next_is = world_is p.world name what place clock (t.node name) at_world node_there its_clock.is

      -- ---- the play after it

      abbrev after : Player N
      after = record {
        world = world;
        events = p.events ++ event ∷ [];
        schedule = record p.schedule { queue = p.schedule.queue ++ range_with_len (length p.world.sent) (length r.packets) };
        unanswered = p.unanswered - answers r.acts;
      }

      pub sent_more : length world.sent ≡ length p.world.sent + length r.packets
      sent_more =
          length-append p.world.sent (map (sent_at clock) r.packets) ∙ ap (λ n. length p.world.sent + n) (length-map r.packets (sent_at clock))

      count_is : length world.sent - length p.world.sent ≡ length r.packets
      count_is = ap (λ n. n - length p.world.sent) sent_more ∙ minus (length p.world.sent) (length r.packets)
        where
          minus : (a b : ℕ) → a + b - a ≡ b
          minus a b = omega arith

      -- as many as the stage has new ones on their way
      pub more_sent : length world.sent ≡ length p.world.sent + length (map unclocked r.packets)
      more_sent = sent_more ∙ ap (λ n. length p.world.sent + n) (sym (length-map r.packets unclocked))

      abbrev played : World N → ScheduleState → List Act → Player N
      played w schedule acts = record { world = w; events = p.events ++ event ∷ []; schedule = schedule; unanswered = p.unanswered - answers acts }

      schedule_is : send_since p.schedule (length p.world.sent) (length world.sent) ≡ after.schedule
      unfolding send_since
      schedule_is =
          ap (λ n. fold schedule_send p.schedule (range_with_len (length p.world.sent) n)) count_is
          ∙ all_sent p.schedule shows.plain.lose (range_with_len (length p.world.sent) (length r.packets))

      pub after_is : plays.player_happen step p event ≡ after
      unfolding plays.player_happen
      after_is =
          ap (λ w. with_event p event w) next_is
          ∙ ap (λ schedule. played world schedule (drop (length p.world.acts) world.acts)) schedule_is
          ∙ ap (λ acts. played world after.schedule acts) (drop-append_seam p.world.acts r.acts)

      -- ---- and it shows the stage after it

      others_stay : (other : NodeId) → HasNode setup other
          → node_in (slice_set p.world.nodes place r.node) (place_of (cluster_of setup) other) ≡ Some (put_node t.node name r.node other)
      others_stay other is =
          elim (same_node other name) as
          (λ b. same_node other name ≡ b → node_in (slice_set p.world.nodes place r.node) (place_of (cluster_of setup) other) ≡ Some (cond b r.node (t.node other))) [
            | true ↦ λ same. subst (λ n. node_in (slice_set p.world.nodes place r.node) (place_of (cluster_of setup) n) ≡ Some r.node) (sym (same_node_is other name same))
                (here (cluster_of setup) p.world.nodes name place at r.node (t.node name) node_there)
            | false ↦ λ differs. there (cluster_of setup) p.world.nodes name place at r.node other (not_same other name differs) ∙ shows.placed other is
          ] refl

      events_more : length after.events ≡ length p.events + 1
      events_more = more_events p event

      sent_low : All (λ (q : Packet). q.clock ≤ length p.events + 1) world.sent
      sent_low =
          All-append (λ (q : Packet). q.clock ≤ length p.events + 1) p.world.sent (map (sent_at clock) r.packets)
          (λ i d less. above (shows.sent_low i d less))
          (All-map (λ (q : Packet). q.clock ≤ length p.events + 1) (sent_at clock) r.packets (λ i d less. its_clock.low))
        where
          above : {a b : ℕ} → a ≤ b → a ≤ b + 1
          above h = omega arith

      turned_shows : Shows setup after (turned t name r) (waiting ++ map unclocked r.packets)
      turned_shows = record {
        cluster = shows.cluster;
        placed = others_stay;
        acts = ap (λ acts. acts ++ r.acts) shows.acts;
        unanswered = ap (λ n. n - answers r.acts) shows.unanswered;
        clocks = length-set p.world.clocks place clock ∙ shows.clocks ∙ sym (length-set p.world.nodes place r.node);
        low = subst (λ n. All (λ c. c ≤ n) world.clocks) (sym events_more)
            (all_set (length p.events + 1) p.world.clocks place clock its_clock.low
            (all_raised (length p.events) (length p.events + 1) p.world.clocks (omega arith) shows.low));
        sent_low = subst (λ n. All (λ (q : Packet). q.clock ≤ n) world.sent) (sym events_more) sent_low;
        plain = record { lose = shows.plain.lose; again = shows.plain.again; mixer = shows.plain.mixer; holding = shows.plain.holding };
        waits = are_both world.sent p.schedule.queue (range_with_len (length p.world.sent) (length r.packets)) waiting (map unclocked r.packets)
            (are_still p.world.sent (map (sent_at clock) r.packets) p.schedule.queue waiting shows.waits)
            (are_next clock p.world.sent r.packets);
      }

    -- what the event makes of the play
    pub record Happened : Type 0 where
      pub after_shows : Shows setup (plays.player_happen step p event) now.state (waiting ++ now.outs)
      pub events_are : (plays.player_happen step p event).events ≡ p.events ++ event ∷ []
      pub deliveries : (plays.player_happen step p event).schedule.deliveries ≡ p.schedule.deliveries
      pub rounds : (plays.player_happen step p event).schedule.rounds ≡ p.schedule.rounds
      -- as many packets are sent as the stage has new ones on their way
      pub sends : length (plays.player_happen step p event).world.sent ≡ length p.world.sent + length now.outs

    pub event_follows : Happened
    event_follows =
        let (place, at) = place_had setup name has in
        let is = after_is place at in
        record {
          after_shows = subst (λ (d : Done N). Shows setup (plays.player_happen step p event) d.state (waiting ++ d.outs)) (sym now_is)
              (subst (λ q. Shows setup q (turned t name r) (waiting ++ map unclocked r.packets)) (sym is) (turned_shows place at));
          events_are = ap (λ (q : Player N). q.events) is;
          deliveries = ap (λ (q : Player N). q.schedule.deliveries) is;
          rounds = ap (λ (q : Player N). q.schedule.rounds) is;
          sends = ap (λ (q : Player N). length q.world.sent) is ∙ more_sent place at ∙ ap (λ (d : Done N). length p.world.sent + length d.outs) (sym now_is);
        }
