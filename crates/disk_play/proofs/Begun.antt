-- The items of a play with servers that stop are begun in the order of their lines, each once.
use Rattle.std.proofs.Common.{◌≡◌, refl, sym, ap, ◌∙◌, ℕ, true, false, List, [], ◌∷◌, ◌++◌, length, filter, Option, Some, None, append-nil, append_assoc, fold, slice_get}
use Rattle.std.specs.List.{cons_option}
use Rattle.fragment_store.specs.ShelfState.{ShelfState}
use Rattle.play.proofs.EachBegun.{for_each, more_begun}
use Rattle.play.proofs.Manners.{line_good}
use Rattle.play.specs.declared.player.Player.{Player}
use Rattle.play.specs.Manner.{play_line}
use Rattle.play.specs.Plays.{actors_of, player_happen}
use Rattle.script_text.specs.declared.script.Line.{Line}
use Rattle.script_text.specs.declared.script.Script.{Script}
use Rattle.version_model.specs.declared.work.Work.{Work}
use Rattle.version_model.specs.declared.work.Work.TheVariants as works
use Rattle.wire_msg.specs.declared.packet.Do.{Do}
use Rattle.wire_msg.specs.declared.packet.Do.TheVariants as whats
use Rattle.wire_msg.specs.declared.packet.Packet.{Packet}
use Rattle.wire_msg.specs.NodeStep.{NodeStep}
use Rattle.world_base.specs.declared.event.Event.{Event}
use Rattle.world_base.specs.declared.event.Event.TheVariants.{Begin, Deliver, Tick}
use Rattle.world_base.specs.declared.world.World.{World}
use Rattle.world_base.specs.Events.{node_of}
use Rattle.world_base.specs.Items.{actor_of}
use Rattle.world_base.specs.NextWorld.{next_world}
use Rattle.world_base.specs.Runs.{BeginsAll, begun_in}
use Rattle.xfs_base.proofs.Booleans.{by_test, contrary}
use Rattle.xfs_base.specs.declared.node.NodeId.{NodeId}
use Rattle.xfs_base.specs.declared.node.NodeId.TheVariants as nodes
use Rattle.xfs_base.specs.declared.setup.Setup.{Setup}
use Rattle.xfs_base.specs.Nodes.{same_node}
use Rattle.disk_play.specs.declared.course.Course.{Course}
use Rattle.disk_play.specs.declared.course.Seat.{Seat}
use Rattle.disk_play.specs.declared.stop.Fate.{Fate}
use Rattle.disk_play.specs.declared.stop.Fate.TheVariants.{Answered, Unanswered, Lost}
use Rattle.disk_play.specs.declared.stop.Stop.{Stop}
use Rattle.disk_play.specs.Courses.{Deck, asked_of, begins_on, delivered_on, delivers_on, fate_for, happens_at, happens_on, happens_to, manner_on, on_course, one_more, opens_on, opens_on_for, played_on, player_by, running, seat_of, shelf_at, started_at, starts_on, stops_at, course_tell, ticks_on, unanswered_of, with_player, with_stop, course_wake, woken_at}
use Rattle.disk_play.proofs.Places.{get_set_same}
use Rattle.disk_play.proofs.Seating.{seat_is, seated}
use Rattle.shelved_nodes.specs.Asking.{only_where}
use Rattle.disk_shelf.specs.declared.ask.Ask.TheVariants as asks
use Rattle.std.proofs.Common.{Bool, ◌||◌, ◌==◌, not, cond, subst, slice_set}
use Rattle.std.proofs.lemmas.Option.{same_Some}
use Rattle.std.specs.Prelude.{is_some}

-- ---- a begin counts

only_loses : (stop : Stop) (new : Bool) → fate_for stop (only_where new asks.Lose) ≡ Answered
only_loses stop true = refl
only_loses stop false = refl

begin_counts : (stop : Stop) (old new : Option ShelfState) → fate_for stop (asked_of whats.Begin old new) ≡ Answered
begin_counts stop None new = refl
begin_counts stop (Some old) None = refl
begin_counts stop (Some old) (Some new) = only_loses stop _

module _ {N : Type 0} (c : Course N) (node : NodeId) where
  pub woken_events : (course_wake c node).player ≡ c.player
  unfolding course_wake
  woken_events = by (seat_of c.stops node)
    where
      by : (o : Option Seat) → (woken_at c o).player ≡ c.player
      by None = refl
      by (Some seat) = by_test (λ (d : Course N). d.player ≡ c.player) seat.stop.stopped (with_stop c seat.place running) c (λ t. refl) (λ t. refl)

  -- a node that was woken isn't stopped
  woken_runs : (seat : Seat) → seat_of (course_wake c node).stops node ≡ Some seat → seat.stop.stopped ≡ false
  unfolding course_wake
  woken_runs seat = by (seat_of c.stops node) refl
    where
      by_stop : (was : Seat) → seat_of c.stops node ≡ Some was → (t : Bool) → was.stop.stopped ≡ t
          → seat_of (cond t (with_stop c was.place running) c).stops node ≡ Some seat → seat.stop.stopped ≡ false
      by_stop was fact true stopped here =
          let so = seat_is c.stops node was fact in
          let there : seat_of (slice_set c.stops was.place running) node ≡ Some (record { place = was.place; stop = running }) =
          subst (λ n. seat_of (slice_set c.stops was.place running) n ≡ Some (record { place = was.place; stop = running })) (sym so.name)
          (seated (slice_set c.stops was.place running) was.place running (get_set_same c.stops was.place running was.stop so.stop)) in
          ap (λ (s : Seat). s.stop.stopped) (same_Some seat (record { place = was.place; stop = running }) (sym here ∙ there))
      by_stop was fact false stopped here = ap (λ (s : Seat). s.stop.stopped) (same_Some seat was (sym here ∙ fact)) ∙ stopped

      by : (o : Option Seat) → seat_of c.stops node ≡ o → seat_of (woken_at c o).stops node ≡ Some seat → seat.stop.stopped ≡ false
      by None fact here = contrary (ap is_some (sym fact ∙ here))
      by (Some was) fact here = by_stop was fact was.stop.stopped refl here

-- ---- all that happens

module _ {N : Type 0} (step : N → Do → NodeStep N) (shelf_of : N → Option ShelfState) where
  abbrev pub begun_of : Course N → List NodeId
  begun_of c = begun_in c.player.events

  settled_begins : (f : Fate) (p : Player N) (event : Event) (world : World N) → begun_in (event ∷ []) ≡ []
      → begun_in (player_by f p event world).events ≡ begun_in p.events
  settled_begins Answered p event world none =
      more_begun p.events (event ∷ []) ∙ ap (λ nodes. begun_in p.events ++ nodes) none ∙ append-nil (begun_in p.events)
  settled_begins Unanswered p event world none =
      more_begun p.events (event ∷ []) ∙ ap (λ nodes. begun_in p.events ++ nodes) none ∙ append-nil (begun_in p.events)
  settled_begins Lost p event world none = refl

  -- what is no Begin begins nothing
  to_begins : (d : Deck N) (seat : Option Seat) (event : Event) → begun_in (event ∷ []) ≡ []
      → begun_of (happens_to step shelf_of d seat event).course ≡ begun_of d.course
  unfolding player_happen
  to_begins d None event none = settled_begins Answered d.course.player event (next_world step d.course.player.world event) none
  to_begins d (Some seat) event none =
      by_test (λ (x : Deck N). begun_of x.course ≡ begun_of d.course) seat.stop.stopped d (happens_at step shelf_of d seat event) (λ t. refl)
      (λ t. settled_begins (fate_for seat.stop _) d.course.player event (next_world step d.course.player.world event) none)

  happens_begins : (d : Deck N) (event : Event) → begun_in (event ∷ []) ≡ [] → begun_of (happens_on step shelf_of d event).course ≡ begun_of d.course
  unfolding happens_on
  happens_begins d event none = to_begins d (seat_of d.course.stops (node_of event)) event none

  -- and a Begin counts at a node that isn't stopped
  begin_begins : (d : Deck N) (node : NodeId) → ((seat : Seat) → seat_of d.course.stops node ≡ Some seat → seat.stop.stopped ≡ false)
      → begun_of (happens_on step shelf_of d (Begin node)).course ≡ begun_of d.course ++ node ∷ []
  unfolding happens_on player_happen
  begin_begins d node runs = by (seat_of d.course.stops node) refl
    where
      c : Course N
      c = d.course

      by : (o : Option Seat) → seat_of c.stops node ≡ o → begun_of (happens_to step shelf_of d o (Begin node)).course ≡ begun_of c ++ node ∷ []
      by None fact = more_begun c.player.events (Begin node ∷ [])
      by (Some seat) fact =
          ap (λ (b : Bool). begun_of (cond b d (happens_at step shelf_of d seat (Begin node))).course) (runs seat fact)
          ∙ ap (λ f. begun_in (player_by f c.player (Begin node) (next_world step c.player.world (Begin node))).events)
          (begin_counts seat.stop (shelf_at shelf_of c.player.world node) (shelf_at shelf_of (next_world step c.player.world (Begin node)) node))
          ∙ more_begun c.player.events (Begin node ∷ [])

  begins_begins : (d : Deck N) (node : NodeId) → begun_of (begins_on step shelf_of d node).course ≡ begun_of d.course ++ node ∷ []
  unfolding begins_on
  begins_begins d node =
      begin_begins (on_course (λ c. one_more (course_wake c node)) d) node (woken_runs d.course node)
      ∙ ap (λ p. begun_in p.events ++ node ∷ []) (woken_events d.course node)

  tick_begins : (d : Deck N) (node : NodeId) → begun_of (ticks_on step shelf_of d node).course ≡ begun_of d.course
  unfolding ticks_on
  tick_begins d node = happens_begins d (Tick node) refl

  delivers_begins : (d : Deck N) (number : ℕ) (packet : Option Packet) → begun_of (delivers_on step shelf_of d number packet).course ≡ begun_of d.course
  delivers_begins d number None = refl
  delivers_begins d number (Some packet) = happens_begins d (Deliver packet) refl

  delivery_begins : (d : Deck N) (number : ℕ) → begun_of (delivered_on step shelf_of d number).course ≡ begun_of d.course
  unfolding delivered_on
  delivery_begins d number = delivers_begins d number (slice_get d.course.player.world.sent number)

  -- a line that is no item begins none
  stops_begin : (c : Course N) (node : NodeId) (passes : ℕ) (o : Option Seat) → begun_of (stops_at c node passes o) ≡ begun_of c
  stops_begin c node passes None = refl
  stops_begin c node passes (Some seat) =
      by_test (λ (d : Course N). begun_of d ≡ begun_of c) (seat.stop.stopped || not (unanswered_of node c.player == 0)) c
      (with_stop c seat.place (record { stopped = false; passes = Some passes })) (λ t. refl) (λ t. refl)

  starts_begin : (c : Course N) (o : Option Seat) → begun_of (started_at c o) ≡ begun_of c
  starts_begin c None = refl
  starts_begin c (Some seat) = refl

  tells_begins : (c : Course N) (work : Work) → begun_of (course_tell c work) ≡ begun_of c
  unfolding course_tell
  tells_begins c (works.ServerStop server passes) = stops_begin c (nodes.Server server) passes (seat_of c.stops (nodes.Server server))
  tells_begins c (works.ServerStart server) = starts_begin c (seat_of c.stops (nodes.Server server))
  tells_begins c _ = refl

  -- any other begins the item that it is
  opens_begins : (d : Deck N) (work : Work) (actor : Option NodeId) (rest : List NodeId)
      → begun_of (opens_on_for step shelf_of d work actor).course ++ rest ≡ begun_of d.course ++ cons_option actor rest
  opens_begins d work None rest = ap (λ nodes. nodes ++ rest) (tells_begins d.course work)
  opens_begins d work (Some node) rest = ap (λ nodes. nodes ++ rest) (begins_begins d node) ∙ append_assoc (begun_of d.course) (node ∷ []) rest

  line_begins : (d : Deck N) (line : Line) (rest : List NodeId)
      → begun_of (play_line (manner_on step shelf_of) d line).course ++ rest ≡ begun_of d.course ++ cons_option (actor_of line.work) rest
  unfolding opens_on
  line_begins d line rest =
      let e = opens_on_for step shelf_of d line.work (actor_of line.work) in
      let played = line_good (manner_on step shelf_of) (λ x. begun_of x.course ≡ begun_of e.course) (λ x s same. same)
      (λ x number same. delivery_begins x number ∙ same) (λ x node same. tick_begins x node ∙ same) d line refl in
      ap (λ nodes. nodes ++ rest) played ∙ opens_begins d line.work (actor_of line.work) rest

  lines_begin : (d : Deck N) (lines : List Line) → begun_of (fold (play_line (manner_on step shelf_of)) d lines).course ≡ begun_of d.course ++ actors_of lines
  lines_begin d [] = sym (append-nil (begun_of d.course))
  lines_begin d (l ∷ lines) = lines_begin (play_line (manner_on step shelf_of) d l) lines ∙ line_begins d l (actors_of lines)

  module _ (first : NodeId → Setup → List Work → N) (script : Script) where
    pub play_begins : begun_in (played_on step shelf_of first script).course.player.events ≡ actors_of script.lines
    unfolding played_on
    play_begins = lines_begin (starts_on first script) script.lines

    pub play_begins_all : BeginsAll script.lines (played_on step shelf_of first script).course.player.events
    play_begins_all node = ap (λ begun. length (filter (λ one. same_node one node) begun)) play_begins ∙ for_each node script.lines
