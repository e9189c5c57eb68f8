-- The next packet arrives: the schedule takes the oldest that is on its way, and the play after it shows the stage after its delivery, also where there is no
-- such node.
use Rattle.std.proofs.Common.{◌≡◌, ℕ, suc, ◌+◌, ◌-◌, ◌^◌, ◌<◌, ◌≤◌, true, false, ◌==◌, List, [], ◌∷◌, ◌++◌, length, drop, fold, All, None, refl, sym, ap, subst, ◌∙◌, append-nil, arith}
use Rattle.std.specs.List.{range_with_len}
use Rattle.std.proofs.lemmas.Bool.Decides.{nat_tests}
use Rattle.std.proofs.lemmas.Option.{get_or_from_slice_get, slice_get_within}
use Rattle.std.proofs.Math.Seq.{drop-append_seam}
use Rattle.node_base.specs.Nodes.{has_node, peers_of}
use Rattle.play.specs.declared.player.Player.{Player}
use Rattle.play.specs.Manner as manner
use Rattle.play.specs.Plays.{answers, delivered, goes_by, goes_on, send_since, with_event, with_schedule}
use Rattle.play.specs.Plays as plays
use Rattle.version_model.specs.declared.act.Act.{Act}
use Rattle.wire_msg.specs.declared.packet.Do.{Do}
use Rattle.wire_msg.specs.declared.packet.Do.TheVariants as whats
use Rattle.wire_msg.specs.declared.packet.Packet.{Packet}
use Rattle.wire_msg.specs.NodeStep.{NodeStep}
use Rattle.world_base.specs.Cluster.{HasNode, cluster_of, place_of}
use Rattle.world_base.specs.declared.event.Event.TheVariants as events
use Rattle.world_base.specs.declared.schedule.Next.TheVariants as next
use Rattle.world_base.specs.NextWorld.{world_happen, next_world}
use Rattle.world_base.specs.Schedule.{ScheduleState, schedule_next, repeated, schedule_send}
use Rattle.xfs_base.specs.declared.setup.Setup.{Setup}
use Rattle.xfs_base.specs.Steps.{still}
use Rattle.quiet_flow.specs.Flow.{Done, Stage, delivers, happens, unclocked}
use Rattle.quiet_flow.specs.Follow.{AreAt, IsAt, IsBlind, Shows}
use Rattle.quiet_flow.proofs.Happening.{event_follows, more_events}
use Rattle.quiet_flow.proofs.Places.{has_fact, no_place}
use Rattle.quiet_flow.proofs.Scheduling.{scheduled_shows}

module _ {N : Type 0} (step : N → Do → NodeStep N) (is_blind : IsBlind step) where
  -- ---- the next delivery

  module _ (setup : Setup) (p : Player N) (t : Stage N) (n : ℕ) (numbers : List ℕ) (packet : Packet) (waiting : List Packet)
      (shows : Shows setup p t (packet ∷ waiting)) (queue : p.schedule.queue ≡ n ∷ numbers) (some : 0 < p.schedule.deliveries) where
    abbrev popped : Player N
    popped = with_schedule p (record p.schedule { queue = numbers; deliveries = p.schedule.deliveries - 1 })

    abbrev queue_at : AreAt p.world.sent (n ∷ numbers) (packet ∷ waiting)
    queue_at = subst (λ q. AreAt p.world.sent q (packet ∷ waiting)) queue shows.waits

    abbrev the_packet : Packet
    the_packet = queue_at.0.clocked

    pub popped_shows : Shows setup popped t waiting
    popped_shows =
        scheduled_shows setup p t (packet ∷ waiting) waiting shows popped.schedule
        (record { lose = shows.plain.lose; again = shows.plain.again; mixer = shows.plain.mixer; holding = shows.plain.holding }) queue_at.1

    not_none : (p.schedule.deliveries == 0) ≡ false
    not_none = grind (arith, nat_tests)

    pub next_goes : schedule_next p.unanswered p.schedule ≡ record { next = next.Deliver n; state = popped.schedule }
    unfolding schedule_next
    next_goes =
        let some_wait : (length (n ∷ numbers) == 0) ≡ false = grind (arith, nat_tests) in
        simp (queue, some_wait, not_none, shows.plain.mixer)

    abbrev arrived : Player N
    arrived = plays.player_happen step popped (events.Deliver the_packet)

    not_repeated : arrived.schedule.again ≡ 0 → repeated arrived.schedule n ≡ arrived.schedule
    unfolding repeated
    not_repeated none = rw none refl

    pub delivered_is : arrived.schedule.again ≡ 0 → goes_by step p (schedule_next p.unanswered p.schedule) ≡ arrived
    unfolding delivered
    delivered_is none =
        ap (goes_by step p) next_goes
        ∙ ap (plays.delivers step popped n) queue_at.0.there
        ∙ ap (with_schedule arrived) (not_repeated none)

  -- what comes to a node that there isn't changes nothing
  module _ (setup : Setup) (p : Player N) (t : Stage N) (waiting : List Packet) (shows : Shows setup p t waiting) (packet : Packet)
      (nowhere : place_of (cluster_of setup) packet.to ≡ None) where
    abbrev passed : Player N
    passed = plays.player_happen step p (events.Deliver packet)

    world_same : next_world step p.world (events.Deliver packet) ≡ p.world
    unfolding world_happen
    world_same = rw (shows.cluster, nowhere) refl

    nothing_new : (a : ℕ) → a - a ≡ 0
    nothing_new a = omega arith

    schedule_same : send_since p.schedule (length p.world.sent) (length p.world.sent) ≡ p.schedule
    unfolding send_since
    schedule_same =
        ap (λ n. fold schedule_send p.schedule (range_with_len (length p.world.sent) n)) (nothing_new (length p.world.sent))

    none_done : drop (length p.world.acts) p.world.acts ≡ []
    none_done = ap (λ acts. drop (length p.world.acts) acts) (sym (append-nil p.world.acts)) ∙ drop-append_seam p.world.acts []

    abbrev kept : ScheduleState → List Act → Player N
    kept schedule acts = record { world = p.world; events = p.events ++ events.Deliver packet ∷ []; schedule = schedule; unanswered = p.unanswered - answers acts }

    no_less : (a : ℕ) → a - 0 ≡ a
    no_less a = omega arith

    passed_is : passed ≡ record p { events = p.events ++ events.Deliver packet ∷ [] }
    unfolding plays.player_happen
    passed_is =
        ap (λ w. with_event p (events.Deliver packet) w) world_same
        ∙ ap (λ schedule. kept schedule (drop (length p.world.acts) p.world.acts)) schedule_same
        ∙ ap (λ acts. kept p.schedule acts) none_done
        ∙ ap (λ n. record p { events = p.events ++ events.Deliver packet ∷ []; unanswered = n }) (no_less p.unanswered)

    above : {a b : ℕ} → a ≤ b → a ≤ b + 1
    above h = omega arith

    -- the same stage is shown
    pub passed_shows : Shows setup passed t waiting
    passed_shows =
        let more = more_events step is_blind p (events.Deliver packet) in
        subst (λ q. Shows setup q t waiting) (sym passed_is) (record {
          cluster = shows.cluster;
          placed = shows.placed;
          acts = shows.acts;
          unanswered = shows.unanswered;
          clocks = shows.clocks;
          low = subst (λ n. All (λ clock. clock ≤ n) p.world.clocks) (sym more) (λ i d less. above (shows.low i d less));
          sent_low = subst (λ n. All (λ (q : Packet). q.clock ≤ n) p.world.sent) (sym more) (λ i d less. above (shows.sent_low i d less));
          plain = shows.plain;
          waits = shows.waits;
        })

    pub passed_events : passed.events ≡ p.events ++ events.Deliver packet ∷ []
    passed_events = ap (λ (q : Player N). q.events) passed_is

    pub passed_deliveries : passed.schedule.deliveries ≡ p.schedule.deliveries
    passed_deliveries = ap (λ (q : Player N). q.schedule.deliveries) passed_is

    pub passed_rounds : passed.schedule.rounds ≡ p.schedule.rounds
    passed_rounds = ap (λ (q : Player N). q.schedule.rounds) passed_is

    pub passed_sends : length passed.world.sent ≡ length p.world.sent + 0
    passed_sends = ap (λ (q : Player N). length q.world.sent) passed_is ∙ no_more (length p.world.sent)
      where
        no_more : (n : ℕ) → n ≡ n + 0
        no_more n = omega arith

  -- one delivery, and then the rest
  pub record Arrives (setup : Setup) (p : Player N) (packet : Packet) (t : Stage N) (waiting : List Packet) : Type 0 where
    pub after : Player N
    pub clocked : Packet
    pub goes : (more : ℕ) → goes_on step (suc more) p ≡ goes_on step more after
    pub shows : Shows setup after (delivers step setup t packet).state (waiting ++ (delivers step setup t packet).outs)
    pub events_are : after.events ≡ p.events ++ events.Deliver clocked ∷ []
    pub deliveries : after.schedule.deliveries ≡ p.schedule.deliveries - 1
    pub rounds : after.schedule.rounds ≡ p.schedule.rounds
    pub sends : length after.world.sent ≡ length p.world.sent + length (delivers step setup t packet).outs

  next_on : (p q : Player N) → goes_by step p (schedule_next p.unanswered p.schedule) ≡ q → (more : ℕ) → goes_on step (suc more) p ≡ goes_on step more q
  unfolding manner.goes_on
  next_on p q is more = ap (goes_on step more) is

  module _ (setup : Setup) (p : Player N) (t : Stage N) (packet : Packet) (waiting : List Packet) (shows : Shows setup p t (packet ∷ waiting))
      (some : 0 < p.schedule.deliveries) (room : length p.events + 1 < 2 ^ 64) where
    delivers_there : has_node (peers_of setup) packet.to ≡ true → delivers step setup t packet ≡ happens step t packet.to (whats.Deliver packet)
    unfolding delivers
    delivers_there there = rw there refl

    delivers_nowhere : has_node (peers_of setup) packet.to ≡ false → delivers step setup t packet ≡ still t
    unfolding delivers
    delivers_nowhere nowhere = rw nowhere refl

    by_numbers : (numbers : List ℕ) → p.schedule.queue ≡ numbers → Arrives setup p packet t waiting
    by_numbers [] queue = absurd (subst (λ q. AreAt p.world.sent q (packet ∷ waiting)) queue shows.waits)
    by_numbers (n ∷ numbers) queue =
        elim (has_node (peers_of setup) packet.to) as (λ b. has_node (peers_of setup) packet.to ≡ b → Arrives setup p packet t waiting) [
          | true ↦ λ h. comes_there h
          | false ↦ λ h. comes_nowhere h
        ] refl
      where
        at : IsAt p.world.sent n packet
        at = (queue_at setup p t n numbers packet waiting shows queue some).0

        before : Player N
        before = popped setup p t n numbers packet waiting shows queue some

        before_shows : Shows setup before t waiting
        before_shows = popped_shows setup p t n numbers packet waiting shows queue some

        after : Player N
        after = plays.player_happen step before (events.Deliver at.clocked)

        its_low : at.clocked.clock ≤ length p.events
        its_low =
            subst (λ (q : Packet). q.clock ≤ length p.events) (get_or_from_slice_get p.world.sent n at.clocked at.clocked at.there)
            (shows.sent_low n at.clocked (slice_get_within p.world.sent n at.clocked at.there))

        goes_so : after.schedule.again ≡ 0 → (more : ℕ) → goes_on step (suc more) p ≡ goes_on step more after
        goes_so none more = next_on p after (delivered_is setup p t n numbers packet waiting shows queue some none) more

        comes_there : has_node (peers_of setup) packet.to ≡ true → Arrives setup p packet t waiting
        comes_there h =
            let has : HasNode setup at.clocked.to = subst (λ (q : Packet). HasNode setup q.to) (sym at.same) (has_fact setup packet.to h) in
            let did = event_follows step is_blind setup before t waiting before_shows (events.Deliver at.clocked) has its_low room in
            let is : happens step t at.clocked.to (whats.Deliver (unclocked at.clocked)) ≡ delivers step setup t packet =
            ap (λ (q : Packet). happens step t q.to (whats.Deliver q)) at.same ∙ sym (delivers_there h) in
            record {
              after = after;
              clocked = at.clocked;
              goes = goes_so did.after_shows.plain.again;
              shows = subst (λ (d : Done N). Shows setup after d.state (waiting ++ d.outs)) is did.after_shows;
              events_are = did.events_are;
              deliveries = did.deliveries;
              rounds = did.rounds;
              sends = did.sends ∙ ap (λ (d : Done N). length p.world.sent + length d.outs) is;
            }

        comes_nowhere : has_node (peers_of setup) packet.to ≡ false → Arrives setup p packet t waiting
        comes_nowhere h =
            let nowhere : place_of (cluster_of setup) at.clocked.to ≡ None =
            subst (λ (q : Packet). place_of (cluster_of setup) q.to ≡ None) (sym at.same) (no_place setup packet.to h) in
            let shown = passed_shows setup before t waiting before_shows at.clocked nowhere in
            let is : still t ≡ delivers step setup t packet = sym (delivers_nowhere h) in
            record {
              after = after;
              clocked = at.clocked;
              goes = goes_so shown.plain.again;
              shows = subst (λ (d : Done N). Shows setup after d.state (waiting ++ d.outs)) is (subst (λ q. Shows setup after t q) (sym (append-nil waiting)) shown);
              events_are = passed_events setup before t waiting before_shows at.clocked nowhere;
              deliveries = passed_deliveries setup before t waiting before_shows at.clocked nowhere;
              rounds = passed_rounds setup before t waiting before_shows at.clocked nowhere;
              sends = passed_sends setup before t waiting before_shows at.clocked nowhere ∙ ap (λ (d : Done N). length p.world.sent + length d.outs) is;
            }

    pub arrives : Arrives setup p packet t waiting
    arrives = by_numbers p.schedule.queue refl
