-- What stands through what touches no shelf.
use Rattle.std.proofs.Common.{◌≡◌, ℕ, ◌+◌, ◌-◌, ◌≤◌, ◌<◌, false, not, ◌||◌, ◌==◌, List, Option, Some, None, length, slice_get, refl, sym, ap, subst, ◌∙◌, arith}
use Rattle.std.specs.Prelude.{is_some}
use Rattle.std.proofs.lemmas.Option.{slice_get_within}
use Rattle.disk_shelf.specs.Kept.{Kept}
use Rattle.disk_shelf.specs.MemDisk.{MemState}
use Rattle.fragment_store.specs.ShelfState.{ShelfState}
use Rattle.play.specs.declared.player.Player.{Player}
use Rattle.play.specs.Plays.{player_happen}
use Rattle.script_text.specs.declared.script.Script.{Script}
use Rattle.version_model.specs.declared.work.Work.{Work}
use Rattle.version_model.specs.declared.work.Work.TheVariants as works
use Rattle.wire_msg.specs.declared.packet.Do.{Do}
use Rattle.wire_msg.specs.NodeStep.{NodeStep}
use Rattle.world_base.specs.declared.event.Event.{Event}
use Rattle.world_base.specs.declared.world.World.{World}
use Rattle.world_base.specs.Events.{node_of}
use Rattle.world_base.specs.NextWorld.{next_world, start_world}
use Rattle.world_base.specs.Runs.{IsRun, MayHappen}
use Rattle.xfs_base.proofs.Booleans.{by_test, contrary}
use Rattle.xfs_base.specs.declared.node.NodeId.{NodeId}
use Rattle.xfs_base.specs.declared.node.NodeId.TheVariants as nodes
use Rattle.xfs_base.specs.declared.setup.Setup.{Setup}
use Rattle.disk_play.specs.declared.course.Course.{Course}
use Rattle.disk_play.specs.declared.course.Seat.{Seat}
use Rattle.disk_play.specs.declared.stop.Fate.{Fate}
use Rattle.disk_play.specs.declared.stop.Fate.TheVariants.{Answered, Unanswered, Lost}
use Rattle.disk_play.specs.declared.stop.Stop.{Stop}
use Rattle.disk_play.specs.Courses.{Deck, fate_for, happens_at, player_by, running, seat_of, started_at, stops_at, course_tell, unanswered_of, with_player, with_stop, course_wake, woken_at}
use Rattle.disk_play.specs.Standing.{Follow, Follows, Stands}
use Rattle.disk_play.proofs.Places.{length_set, none_within}
use Rattle.disk_play.proofs.Running.{leads_on}
use Rattle.disk_play.proofs.Seating.{seated}
use Rattle.disk_play.proofs.Turning.{next_cluster, others_stay}

-- ---- how many stops are known

module _ {N : Type 0} where
  -- the same events and the same world, and as many stops
  pub record IsBeside (c d : Course N) : Type 0 where
    pub events : d.player.events ≡ c.player.events
    pub world : d.player.world ≡ c.player.world
    pub stops : length d.stops ≡ length c.stops

  beside : (c : Course N) → IsBeside c c
  beside c = record { events = refl; world = refl; stops = refl }

  put_beside : (c : Course N) (place : ℕ) (stop : Stop) → IsBeside c (with_stop c place stop)
  put_beside c place stop = record { events = refl; world = refl; stops = length_set c.stops place stop }

  pub woken_beside : (c : Course N) (node : NodeId) → IsBeside c (course_wake c node)
  unfolding course_wake
  woken_beside c node = by (seat_of c.stops node)
    where
      by : (o : Option Seat) → IsBeside c (woken_at c o)
      by None = beside c
      by (Some seat) =
          by_test (IsBeside c) seat.stop.stopped (with_stop c seat.place running) c (λ t. put_beside c seat.place running) (λ t. beside c)

  stops_beside : (c : Course N) (node : NodeId) (passes : ℕ) (o : Option Seat) → IsBeside c (stops_at c node passes o)
  stops_beside c node passes None = beside c
  stops_beside c node passes (Some seat) =
      by_test (IsBeside c) (seat.stop.stopped || not (unanswered_of node c.player == 0)) c
      (with_stop c seat.place (record { stopped = false; passes = Some passes })) (λ t. beside c)
      (λ t. put_beside c seat.place (record { stopped = false; passes = Some passes }))

  starts_beside : (c : Course N) (o : Option Seat) → IsBeside c (started_at c o)
  starts_beside c None = beside c
  starts_beside c (Some seat) = put_beside c seat.place running

  told_beside : (c d : Course N) (p : Player N) → IsBeside c d → p.events ≡ d.player.events → p.world ≡ d.player.world → IsBeside c (with_player d p)
  told_beside c d p b events world = record { events = events ∙ b.events; world = world ∙ b.world; stops = b.stops }

  pub tells_beside : (c : Course N) (work : Work) → IsBeside c (course_tell c work)
  unfolding course_tell
  tells_beside c (works.ServerStop server passes) =
      told_beside c _ _ (stops_beside c (nodes.Server server) passes (seat_of c.stops (nodes.Server server))) refl refl
  tells_beside c (works.ServerStart server) = told_beside c _ _ (starts_beside c (seat_of c.stops (nodes.Server server))) refl refl
  tells_beside c _ = told_beside c c _ (beside c) refl refl

-- a line that is no item leaves as many unanswered
module _ {N : Type 0} (c : Course N) where
  stops_unanswered : (node : NodeId) (passes : ℕ) (o : Option Seat) → (stops_at c node passes o).player.unanswered ≡ c.player.unanswered
  stops_unanswered node passes None = refl
  stops_unanswered node passes (Some seat) =
      by_test (λ (d : Course N). d.player.unanswered ≡ c.player.unanswered) (seat.stop.stopped || not (unanswered_of node c.player == 0)) c
      (with_stop c seat.place (record { stopped = false; passes = Some passes })) (λ t. refl) (λ t. refl)

  starts_unanswered : (o : Option Seat) → (started_at c o).player.unanswered ≡ c.player.unanswered
  starts_unanswered None = refl
  starts_unanswered (Some seat) = refl

  pub tells_unanswered : (work : Work) → (course_tell c work).player.unanswered ≡ c.player.unanswered
  unfolding course_tell
  tells_unanswered (works.ServerStop server passes) = stops_unanswered (nodes.Server server) passes (seat_of c.stops (nodes.Server server))
  tells_unanswered (works.ServerStart server) = starts_unanswered (seat_of c.stops (nodes.Server server))
  tells_unanswered _ = refl

module _ {N : Type 0} (step : N → Do → NodeStep N) (first : NodeId → Setup → List Work → N) (shelf_of : N → Option ShelfState) (script : Script) where
  pub stands_beside : (c d : Course N) (shelves : List (Kept MemState)) → IsBeside c d → Stands step first shelf_of script c shelves
      → Stands step first shelf_of script d shelves
  stands_beside c d shelves b stands = record {
    run = subst (λ es. IsRun step first script es d.player.world) (sym b.events)
        (subst (λ w. IsRun step first script c.player.events w) (sym b.world) stands.run);
    stops = b.stops ∙ stands.stops;
    follow = subst (λ w. Follow shelf_of w shelves) (sym b.world) stands.follow;
  }

  -- a line that is no item
  pub stands_told : (c d : Course N) (work : Work) (shelves : List (Kept MemState)) → d ≡ course_tell c work → Stands step first shelf_of script c shelves
      → Stands step first shelf_of script d shelves
  stands_told c d work shelves is stands =
      subst (λ x. Stands step first shelf_of script x shelves) (sym is) (stands_beside c (course_tell c work) shelves (tells_beside c work) stands)

  -- an event of a node that has no seat
  pub elsewhere_stands : (c : Course N) (shelves : List (Kept MemState)) (event : Event) → seat_of c.stops (node_of event) ≡ None
      → MayHappen c.player.world event → Stands step first shelf_of script c shelves
      → Stands step first shelf_of script (with_player c (player_happen step c.player event)) shelves
  unfolding player_happen
  elsewhere_stands c shelves event none may stands = record {
    run = leads_on step (start_world first script) c.player.events c.player.world event stands.run may;
    stops = stands.stops;
    follow = record {
      count = stands.follow.count ∙ ap (λ k. k.servers) (sym (next_cluster step c.player.world event));
      each = λ place shelf fact.
          subst (Follows shelf) (sym (others_stay step c.player.world event shelf_of (nodes.Server (place + 1)) (λ same. apart place shelf fact same)))
          (stands.follow.each place shelf fact);
    };
  }
    where
      known : (place : ℕ) → place < length c.stops → (o : Option Stop) → slice_get c.stops place ≡ o → (stop : Stop) × (slice_get c.stops place ≡ Some stop)
      known place within None fact = absurd (none_within c.stops place within fact)
      known place within (Some stop) fact = (stop, fact)

      apart : (place : ℕ) (shelf : Kept MemState) → slice_get shelves place ≡ Some shelf → nodes.Server (place + 1) ≡ node_of event → ⊥
      apart place shelf fact same =
          let within : place < length c.stops = subst (λ n. place < n) (sym stands.stops) (slice_get_within shelves place shelf fact) in
          let stop = known place within (slice_get c.stops place) refl in
          contrary (sym (ap is_some (sym (seated c.stops place stop.0 stop.1) ∙ ap (seat_of c.stops) same ∙ none)))

  -- ---- no more is unanswered

  no_more : (n m : ℕ) → n - m ≤ n
  no_more n m = omega arith

  as_many : (n : ℕ) → n ≤ n
  as_many n = omega arith

  fewer : (f : Fate) (p : Player N) (event : Event) (world : World N) → (player_by f p event world).unanswered ≤ p.unanswered
  fewer Answered p event world = no_more p.unanswered _
  fewer Unanswered p event world = no_more p.unanswered _
  fewer Lost p event world = as_many p.unanswered

  pub at_fewer : (d : Deck N) (seat : Seat) (event : Event) → (happens_at step shelf_of d seat event).course.player.unanswered ≤ d.course.player.unanswered
  at_fewer d seat event = fewer (fate_for seat.stop _) d.course.player event (next_world step d.course.player.world event)
