-- While every server runs and no stop waits, a play with servers that may stop is the play on one thread, step by step.
use Rattle.std.proofs.Common.{true≢false, ◌≡◌, ℕ, zero, suc, ◌-◌, nat_lt, Bool, true, false, cond, not, List, [], ◌∷◌, fold, replicate, slice_get, Option, Some, None, refl, sym, ap, subst, ◌∙◌}
use Rattle.std.specs.List.{AllByRecursion}
use Rattle.std.specs.Prelude.{IfSome}
use Rattle.std.proofs.lemmas.Bool.{and_parts}
use Rattle.disk_shelf.specs.declared.ask.Ask.{Ask}
use Rattle.disk_shelf.specs.Stops.{is_answered, is_there, passes_after}
use Rattle.fragment_store.specs.ShelfState.{ShelfState}
use Rattle.play.specs.declared.player.Player.{Player}
use Rattle.play.specs.Manner as manner
use Rattle.play.specs.Plays.{delivered, delivers, item_told, left_by, manner_of, opens, opens_for, player_begin, player_happen, player_play, player_start, ticks, told_of, with_event, with_one_more, with_schedule}
use Rattle.play.specs.Plays as plays
use Rattle.script_text.specs.declared.script.Line.{Line}
use Rattle.script_text.specs.declared.script.Script.{Script}
use Rattle.version_model.specs.declared.work.Work.{Work}
use Rattle.version_model.specs.declared.work.Work.TheVariants as works
use Rattle.wire_msg.specs.declared.packet.Do.{Do}
use Rattle.wire_msg.specs.declared.packet.Packet.{Packet}
use Rattle.wire_msg.specs.NodeStep.{NodeStep}
use Rattle.world_base.specs.Cluster.{nodes_of}
use Rattle.world_base.specs.declared.event.Event.{Event}
use Rattle.world_base.specs.declared.event.Event.TheVariants.{Begin, Deliver, Tick}
use Rattle.world_base.specs.declared.schedule.Next.{Next}
use Rattle.world_base.specs.declared.schedule.Next.TheVariants as next
use Rattle.world_base.specs.Events.{node_of}
use Rattle.world_base.specs.Items.{actor_of}
use Rattle.world_base.specs.NextWorld.{next_world}
use Rattle.world_base.specs.Schedule.{ScheduleState, left}
use Rattle.xfs_base.proofs.Alls.{all_put, all_read}
use Rattle.xfs_base.specs.declared.node.NodeId.{NodeId}
use Rattle.xfs_base.specs.declared.node.NodeId.TheVariants as nodes
use Rattle.xfs_base.specs.declared.setup.Setup.{Setup}
use Rattle.disk_play.specs.Courses.{Deck, asked_at, begins_on, counts, course_tell, course_wake, delivered_on, delivers_on, down, fate_by, fate_for, happens_at, happens_on, happens_to, manner_on, on_course, one_more, opens_on, opens_on_for, played_on, player_by, running, seat_of, seat_with, starts_on, stop_for, ticks_on, with_player, with_stop, woken_at}
use Rattle.disk_play.specs.declared.course.Course.{Course}
use Rattle.disk_play.specs.declared.course.Seat.{Seat}
use Rattle.disk_play.specs.declared.stop.Fate.TheVariants.{Answered}
use Rattle.disk_play.specs.declared.stop.Stop.{Stop}
use Rattle.disk_play.specs.Unstopped.{StopsNone, UnstoppedIsPlayed, is_stop}

-- ---- stops

abbrev AllRun : List Stop → Type 0
AllRun stops = AllByRecursion (λ (s : Stop). s ≡ running) stops

runs_with : (place : ℕ) (o : Option Stop) → IfSome o (λ (s : Stop). s ≡ running) → IfSome (seat_with place o) (λ (seat : Seat). seat.stop ≡ running)
runs_with place None runs = tt
runs_with place (Some stop) runs = runs

seat_runs : (stops : List Stop) → AllRun stops → (node : NodeId) → IfSome (seat_of stops node) (λ (seat : Seat). seat.stop ≡ running)
seat_runs stops all (nodes.Server number) =
    elim (nat_lt 0 number) as (λ t. IfSome (cond t (seat_with (number - 1) (slice_get stops (number - 1))) None) (λ (seat : Seat). seat.stop ≡ running)) [
      | true ↦ runs_with (number - 1) (slice_get stops (number - 1)) (all_read (λ (s : Stop). s ≡ running) stops (number - 1) all)
      | false ↦ tt
    ]
seat_runs stops all (nodes.Client number) = tt
seat_runs stops all (nodes.Manager number) = tt
seat_runs stops all nodes.Cleaner = tt
seat_runs stops all nodes.Registry = tt

-- each change counts, and no stop comes of it
counts_all : (call : Option Ask) → fate_for running call ≡ Answered
counts_all None = refl
counts_all (Some call) = elim (counts call) as (λ t. fate_by (is_answered (cond t None None)) (is_there (cond t None None)) ≡ Answered) [ true ↦ refl | false ↦ refl ]

runs_on : (call : Option Ask) → stop_for running call ≡ running
runs_on None = refl
runs_on (Some call) = elim (counts call) as (λ t. cond (not t) running (cond (not (is_answered None)) down (record { stopped = false; passes = passes_after None })) ≡ running) [
  | true ↦ refl
  | false ↦ refl
]

all_running : (n : ℕ) → AllRun (replicate n running)
all_running zero = tt
all_running (suc n) = (refl, all_running n)

-- ---- both plays, side by side

module _ {N : Type 0} (step : N → Do → NodeStep N) (shelf_of : N → Option ShelfState) where
  -- the play with servers that may stop stands where the play on one thread does, and all servers run
  record Same (d : Deck N) (p : Player N) : Type 0 where
    player : d.course.player ≡ p
    runs : AllRun d.course.stops

  same_at : (d : Deck N) (p : Player N) (seat : Seat) (event : Event) → Same d p → seat.stop ≡ running
      → Same (happens_at step shelf_of d seat event) (player_happen step p event)
  unfolding player_happen
  same_at d p seat event same runs =
      let call = asked_at step shelf_of d.course event in
      record {
        player =
            ap (λ f. player_by f d.course.player event (next_world step d.course.player.world event)) (ap (λ s. fate_for s call) runs ∙ counts_all call)
            ∙ ap (λ q. with_event q event (next_world step q.world event)) same.player;
        runs = all_put (λ (s : Stop). s ≡ running) d.course.stops seat.place (stop_for seat.stop call) (ap (λ s. stop_for s call) runs ∙ runs_on call) same.runs;
      }

  same_to : (d : Deck N) (p : Player N) (o : Option Seat) (event : Event) → Same d p → IfSome o (λ (seat : Seat). seat.stop ≡ running)
      → Same (happens_to step shelf_of d o event) (player_happen step p event)
  same_to d p None event same runs = record { player = ap (λ q. player_happen step q event) same.player; runs = same.runs }
  same_to d p (Some seat) event same runs =
      subst (λ t. Same (cond t d (happens_at step shelf_of d seat event)) (player_happen step p event)) (sym (ap (λ (s : Stop). s.stopped) runs))
      (same_at d p seat event same runs)

  same_happens : (d : Deck N) (p : Player N) (event : Event) → Same d p → Same (happens_on step shelf_of d event) (player_happen step p event)
  unfolding happens_on
  same_happens d p event same = same_to d p (seat_of d.course.stops (node_of event)) event same (seat_runs d.course.stops same.runs (node_of event))

  same_ticks : (d : Deck N) (p : Player N) (node : NodeId) → Same d p → Same (ticks_on step shelf_of d node) (ticks step p node)
  unfolding ticks_on ticks
  same_ticks d p node same = same_happens d p (Tick node) same

  same_delivers : (d : Deck N) (p : Player N) (number : ℕ) (o : Option Packet) → Same d p → Same (delivers_on step shelf_of d number o) (delivers step p number o)
  same_delivers d p number None same = same
  same_delivers d p number (Some packet) same =
      let s = same_happens d p (Deliver packet) same in record { player = ap (plays.delivery_told number) s.player; runs = s.runs }

  same_delivered : (d : Deck N) (p : Player N) (number : ℕ) → Same d p → Same (delivered_on step shelf_of d number) (delivered step p number)
  unfolding delivered_on delivered
  same_delivered d p number same =
      subst (λ (q : Player N). Same (delivers_on step shelf_of d number (slice_get d.course.player.world.sent number)) (delivers step p number (slice_get q.world.sent number)))
      same.player (same_delivers d p number (slice_get d.course.player.world.sent number) same)

  -- no server is to be started
  woken_none : (c : Course N) (o : Option Seat) → IfSome o (λ (seat : Seat). seat.stop ≡ running) → woken_at c o ≡ c
  woken_none c None runs = refl
  woken_none c (Some seat) runs = ap (λ (s : Stop). cond s.stopped (with_stop c seat.place running) c) runs

  same_begins : (d : Deck N) (p : Player N) (node : NodeId) → Same d p → Same (begins_on step shelf_of d node) (player_begin step p node)
  unfolding begins_on player_begin course_wake
  same_begins d p node same =
      (let asks : course_wake d.course node ≡ d.course = woken_none d.course (seat_of d.course.stops node) (seat_runs d.course.stops same.runs node) in
      let ready : Same (on_course (λ c. one_more (course_wake c node)) d) (with_one_more p) =
      record {
        player = ap (λ (c : Course N). with_one_more c.player) asks ∙ ap with_one_more same.player;
        runs = subst (λ (c : Course N). AllRun c.stops) (sym asks) same.runs;
      } in
      let s = same_happens (on_course (λ c. one_more (course_wake c node)) d) (with_one_more p) (Begin node) ready in
      record { player = ap item_told s.player; runs = s.runs })

  same_told : (d : Deck N) (p : Player N) (work : Work) → Same d p → Same (on_course (λ c. with_player c (told_of c.player work)) d) (told_of p work)
  same_told d p work same = record { player = ap (λ q. told_of q work) same.player; runs = same.runs }

  same_tells : (d : Deck N) (p : Player N) (work : Work) → is_stop work ≡ false → Same d p → Same (on_course (λ c. course_tell c work) d) (told_of p work)
  unfolding course_tell
  same_tells d p (works.ServerStop server passes) none same = absurd (true≢false none)
  same_tells d p (works.ServerStart server) none same = absurd (true≢false none)
  same_tells d p work none same = same_told d p work same

  same_opens_for : (d : Deck N) (p : Player N) (work : Work) (o : Option NodeId) → is_stop work ≡ false → Same d p
      → Same (opens_on_for step shelf_of d work o) (opens_for step p work o)
  same_opens_for d p work None none same = same_tells d p work none same
  same_opens_for d p work (Some node) none same = same_begins d p node same

  same_opens : (d : Deck N) (p : Player N) (work : Work) → is_stop work ≡ false → Same d p → Same (opens_on step shelf_of d work) (opens step p work)
  unfolding opens_on opens
  same_opens d p work none same = same_opens_for d p work (actor_of work) none same

  -- ---- by the schedule

  abbrev on : manner.Manner (Deck N)
  on = manner_on step shelf_of

  abbrev off : manner.Manner (Player N)
  off = manner_of step

  same_scheduled : (d : Deck N) (p : Player N) (s : ScheduleState) → Same d p → Same (on.with_schedule d s) (off.with_schedule p s)
  same_scheduled d p s same = record { player = ap (λ q. with_schedule q s) same.player; runs = same.runs }

  same_ticks_all : (names : List NodeId) (d : Deck N) (p : Player N) → Same d p → Same (fold on.ticks d names) (fold off.ticks p names)
  same_ticks_all [] d p same = same
  same_ticks_all (name ∷ names) d p same = same_ticks_all names (on.ticks d name) (off.ticks p name) (same_ticks d p name same)

  same_rounded : (d : Deck N) (p : Player N) → Same d p → Same (manner.playing_round on d) (manner.playing_round off p)
  unfolding manner.playing_round
  same_rounded d p same =
      subst (λ (q : Player N). Same (fold on.ticks d (nodes_of d.course.player.world.cluster)) (fold off.ticks p (nodes_of q.world.cluster))) same.player
      (same_ticks_all (nodes_of d.course.player.world.cluster) d p same)

  same_comes : (d : Deck N) (p : Player N) (coming : Next) → Same d p → Same (manner.playing_come on d coming) (manner.playing_come off p coming)
  same_comes d p (next.Deliver number) same = same_delivered d p number same
  same_comes d p next.Round same = same_rounded d p same
  same_comes d p next.Done same = same

  same_goes_by : (d : Deck N) (p : Player N) → Same d p
      → Same (manner.goes_by on d (manner.what_next on d)) (manner.goes_by off p (manner.what_next off p))
  same_goes_by d p same =
      let going = manner.what_next off d.course.player in
      subst (λ (q : Player N). Same (manner.goes_by on d going) (manner.goes_by off p (manner.what_next off q))) same.player
      (same_comes (on.with_schedule d going.state) (off.with_schedule p going.state) going.next (same_scheduled d p going.state same))

  same_goes_on : (count : ℕ) (d : Deck N) (p : Player N) → Same d p → Same (manner.goes_on on count d) (manner.goes_on off count p)
  unfolding manner.goes_on
  same_goes_on zero d p same = same
  same_goes_on (suc count) d p same =
      same_goes_on count (manner.goes_by on d (manner.what_next on d)) (manner.goes_by off p (manner.what_next off p)) (same_goes_by d p same)

  same_line : (d : Deck N) (p : Player N) (line : Line) → is_stop line.work ≡ false → Same d p → Same (manner.play_line on d line) (manner.play_line off p line)
  unfolding manner.play_line manner.playing_go
  same_line d p line none same =
      (let s = same_opens d p line.work none same in
      let first = on.opens d line.work in
      subst (λ (q : Player N). Same (manner.goes_on on (left first.course.player.schedule) first) (manner.goes_on off (left q.schedule) (off.opens p line.work))) s.player
      (same_goes_on (left first.course.player.schedule) first (off.opens p line.work) s))

  not_true : (t : Bool) → not t ≡ true → t ≡ false
  not_true true same = sym same
  not_true false same = refl

  same_lines : (lines : List Line) (d : Deck N) (p : Player N) → StopsNone lines → Same d p
      → Same (fold (manner.play_line on) d lines) (fold (plays.plays_line step) p lines)
  same_lines [] d p none same = same
  same_lines (line ∷ lines) d p none same =
      let both = and_parts (not (is_stop line.work)) _ none in
      same_lines lines (manner.play_line on d line) (plays.plays_line step p line) both.1 (same_line d p line (not_true (is_stop line.work) both.0) same)

  same_played : (first : NodeId → Setup → List Work → N) (script : Script) → StopsNone script.lines → Same (played_on step shelf_of first script) (player_play step first script)
  unfolding played_on player_play
  same_played first script none =
      same_lines script.lines (starts_on first script) (player_start first script) none (record { player = refl; runs = all_running script.setup.servers })

pub unstopped_plays : {N : Type 0} → UnstoppedIsPlayed N
unstopped_plays {N} step shelf_of first script none =
    ap (λ (p : Player N). left_by script p) (same_played step shelf_of first script none).player
