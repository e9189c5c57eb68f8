-- A round: nothing is on its way and an item is unanswered, so time passes at each node, in their order.
use Rattle.std.proofs.Common.{◌≡◌, ℕ, zero, suc, ◌+◌, ◌-◌, ◌^◌, ◌<◌, ◌≤◌, ◌==◌, ◌||◌, false, List, [], ◌∷◌, ◌++◌, length, length-append, map, fold, refl, sym, ap, subst, ◌∙◌, append_assoc, append-nil, arith}
use Rattle.std.specs.List.{AllByRecursion, range_with_len}
use Rattle.std.proofs.lemmas.Bool.Decides.{nat_tests}
use Rattle.play.specs.declared.player.Player.{Player}
use Rattle.play.specs.Manner as manner
use Rattle.play.specs.Plays.{goes_by, goes_on, rounded, with_schedule}
use Rattle.play.specs.Plays as plays
use Rattle.wire_msg.specs.declared.packet.Do.{Do}
use Rattle.wire_msg.specs.declared.packet.Packet.{Packet}
use Rattle.wire_msg.specs.NodeStep.{NodeStep}
use Rattle.world_base.proofs.Standing.{stands}
use Rattle.world_base.specs.Cluster.{HasNode, cluster_of, node_at, node_count, nodes_of}
use Rattle.world_base.specs.declared.event.Event.TheVariants.{Tick}
use Rattle.world_base.specs.declared.schedule.Next.TheVariants as next
use Rattle.world_base.specs.Schedule.{schedule_next}
use Rattle.xfs_base.specs.declared.node.NodeId.{NodeId}
use Rattle.xfs_base.specs.declared.setup.Setup.{Setup}
use Rattle.xfs_base.specs.Steps.{steps}
use Rattle.quiet_flow.specs.Flow.{Done, Stage, rounds, ticks}
use Rattle.quiet_flow.specs.Follow.{AreAt, IsBlind, Shows}
use Rattle.quiet_flow.proofs.Happening.{event_follows}
use Rattle.quiet_flow.proofs.Scheduling.{scheduled_shows}

module _ {N : Type 0} (step : N → Do → NodeStep N) (is_blind : IsBlind step) (setup : Setup) where
  -- time passes at these nodes
  pub record Ticked (p : Player N) (t : Stage N) (waiting : List Packet) (names : List NodeId) : Type 0 where
    pub shows : Shows setup (fold (plays.ticks step) p names) (steps (ticks step setup) t names).state (waiting ++ (steps (ticks step setup) t names).outs)
    pub are : (fold (plays.ticks step) p names).events ≡ p.events ++ map Tick names
    pub deliveries : (fold (plays.ticks step) p names).schedule.deliveries ≡ p.schedule.deliveries
    pub rounds : (fold (plays.ticks step) p names).schedule.rounds ≡ p.schedule.rounds
    pub sends : length (fold (plays.ticks step) p names).world.sent ≡ length p.world.sent + length (steps (ticks step setup) t names).outs

  ticks_follow : (p : Player N) (t : Stage N) (waiting : List Packet) (names : List NodeId) → Shows setup p t waiting
      → AllByRecursion (HasNode setup) names → length p.events + length names < 2 ^ 64 → Ticked p t waiting names
  unfolding plays.ticks
  ticks_follow p t waiting [] shows have room = record {
    shows = subst (λ q. Shows setup p t q) (sym (append-nil waiting)) shows;
    are = sym (append-nil p.events);
    deliveries = refl;
    rounds = refl;
    sends = no_more (length p.world.sent);
  }
    where
      no_more : (n : ℕ) → n ≡ n + 0
      no_more n = omega arith
  ticks_follow p t waiting (name ∷ names) shows have room =
      let did = event_follows step is_blind setup p t waiting shows (Tick name) have.0 (omega arith) (omega arith) in
      let after = plays.player_happen step p (Tick name) in
      let now : Done N = ticks step setup t name in
      let longer : length after.events ≡ length p.events + 1 = ap length did.events_are ∙ length-append p.events (Tick name ∷ []) in
      let rest = ticks_follow after now.state (waiting ++ now.outs) names did.after_shows have.1 (omega arith) in
      let others : Done N = steps (ticks step setup) now.state names in
      let queued : length (now.outs ++ others.outs) ≡ length now.outs + length others.outs = length-append now.outs others.outs in
      let first_sent = did.sends in
      let rest_sent = rest.sends in
      record {
        shows = subst (λ q. Shows setup (fold (plays.ticks step) after names) others.state q) (append_assoc waiting now.outs others.outs) rest.shows;
        are = rest.are ∙ ap (λ es. es ++ map Tick names) did.events_are ∙ append_assoc p.events (Tick name ∷ []) (map Tick names);
        deliveries = rest.deliveries ∙ did.deliveries;
        rounds = rest.rounds ∙ did.rounds;
        sends = omega arith;
      }

  all_stand : (places : List ℕ) → AllByRecursion (HasNode setup) (map (node_at (cluster_of setup)) places)
  all_stand [] = tt
  all_stand (p ∷ places) = (stands setup p, all_stand places)

  abbrev pub everyone : List NodeId
  everyone = nodes_of (cluster_of setup)

  pub how_many : length everyone ≡ node_count (cluster_of setup)
  how_many = counted 0 (node_count (cluster_of setup))
    where
      counted : (from n : ℕ) → length (map (node_at (cluster_of setup)) (range_with_len from n)) ≡ n
      counted from zero = refl
      counted from (suc n) = ap suc (counted (from + 1) n)

  -- ---- the schedule says so

  module _ (p : Player N) (t : Stage N) (shows : Shows setup p t []) (some_open : 1 ≤ t.unanswered) (some : 1 ≤ p.schedule.rounds)
      (room : length p.events + node_count (cluster_of setup) < 2 ^ 64) where
    abbrev pub before : Player N
    before = with_schedule p (record p.schedule { rounds = p.schedule.rounds - 1 })

    nothing_waits : p.schedule.queue ≡ []
    nothing_waits = by_queue p.schedule.queue refl
      where
        by_queue : (queue : List ℕ) → p.schedule.queue ≡ queue → queue ≡ []
        by_queue [] is = refl
        by_queue (n ∷ queue) is = absurd (subst (λ numbers. AreAt p.world.sent numbers []) is shows.waits)

    round_is_next : schedule_next p.unanswered p.schedule ≡ record { next = next.Round; state = before.schedule }
    unfolding schedule_next
    round_is_next =
        let one : 1 ≤ p.unanswered = subst (λ n. 1 ≤ n) (sym shows.unanswered) some_open in
        let waits : ((p.unanswered == 0) || (p.schedule.rounds == 0)) ≡ false = grind (arith, nat_tests) in
        rw (nothing_waits, waits) refl

    rounded_is : goes_by step p (schedule_next p.unanswered p.schedule) ≡ fold (plays.ticks step) before everyone
    unfolding manner.playing_round
    rounded_is = ap (goes_by step p) round_is_next ∙ ap (λ c. fold (plays.ticks step) before (nodes_of c)) shows.cluster

    before_shows : Shows setup before t []
    before_shows =
        scheduled_shows setup p t [] [] shows before.schedule
        (record { lose = shows.plain.lose; again = shows.plain.again; mixer = shows.plain.mixer; holding = shows.plain.holding }) shows.waits

    -- the play once time has passed at each node
    pub record Rounded : Type 0 where
      pub after : Player N
      pub goes : (more : ℕ) → goes_on step (suc more) p ≡ goes_on step more after
      pub shows_round : Shows setup after (rounds step setup t).state (rounds step setup t).outs
      pub are : after.events ≡ p.events ++ map Tick everyone
      pub deliveries : after.schedule.deliveries ≡ p.schedule.deliveries
      pub rounds_left : after.schedule.rounds ≡ p.schedule.rounds - 1
      pub sends : length after.world.sent ≡ length p.world.sent + length (rounds step setup t).outs

    next_on : (q : Player N) → goes_by step p (schedule_next p.unanswered p.schedule) ≡ q → (more : ℕ) → goes_on step (suc more) p ≡ goes_on step more q
    unfolding manner.goes_on
    next_on q is more = ap (goes_on step more) is

    pub round_follows : Rounded
    round_follows =
        let count = how_many in
        let did = ticks_follow before t [] everyone before_shows (all_stand (range_with_len 0 (node_count (cluster_of setup)))) (omega arith) in
        record {
          after = fold (plays.ticks step) before everyone;
          goes = λ more. next_on (fold (plays.ticks step) before everyone) rounded_is more;
          shows_round = did.shows;
          are = did.are;
          deliveries = did.deliveries;
          rounds_left = did.rounds;
          sends = did.sends;
        }
