-- The registry begins its items in their order, each once.
use Rattle.std.proofs.Common.{◌≡◌, ◌==◌, ℕ, ◌+◌, ◌-◌, ◌≤◌, Bool, true, false, not, ◌&&◌, ◌||◌, nat_lt, List, [], ◌∷◌, ◌++◌, drop, filter, if◌then◌else◌, length, refl, ap, ◌∙◌, length-append, arith}
use Rattle.std.specs.Prelude.{None, Option, Some, nat_le, slice_get}
use Rattle.std.proofs.lemmas.Bool.Decides.{nat_tests}
use Rattle.std.proofs.lemmas.List.Elements.{filter-append, filter_map-append}
use Rattle.xfs_base.proofs.Booleans.{and_first, and_second, by_test}
use Rattle.xfs_base.proofs.NodeOrder.{same_node_is}
use Rattle.xfs_base.specs.Nodes.{same_node}
use Rattle.xfs_base.specs.Steps.{Stepped, still}
use Rattle.xfs_base.specs.declared.node.NodeId.{NodeId}
use Rattle.xfs_base.specs.declared.node.NodeId.TheVariants.{Registry}
use Rattle.wire_msg.specs.declared.packet.Do.{Do}
use Rattle.wire_msg.specs.declared.packet.Do.TheVariants as whats
use Rattle.world_base.specs.declared.event.Event.{Event}
use Rattle.world_base.specs.declared.event.Event.TheVariants as events
use Rattle.world_base.specs.Events.{event_of, node_of}
use Rattle.world_base.specs.Runs.{begin_of, begins_of, begun_in}
use Rattle.wire_msg.specs.Kinds.{is_begin}
use Rattle.board.specs.State.{chosen_part}
use Rattle.board.specs.declared.command.Command.{Command}
use Rattle.board.specs.declared.input.In as inputs
use Rattle.board.specs.declared.input.In.TheVariants as input
use Rattle.board_world.specs.declared.board_event.BoardEvent.{BoardEvent}
use Rattle.board_world.specs.declared.board_event.BoardEvent.TheVariants.{Far, Offer, Mail, Beat, Stop, Start}
use Rattle.board_world.specs.declared.board_node.BoardNode.{BoardNode}
use Rattle.board_world.specs.BoardRuns.{MayCome, Together}
use Rattle.board_world.specs.BoardTurns.{board_node_take}
use Rattle.board_world.specs.NextBoards.{BoardsState, boards_happen, command_at, boards_take, boards_offer, boards_turn, turned_by}
use Rattle.board_world.specs.Projection.{event_by, is_due, is_next, project, project_all}

begins_both : (first second : List Event) → begins_of Registry (first ++ second) ≡ begins_of Registry first + begins_of Registry second
begins_both first second =
    ap (λ nodes. length (filter (λ begun. same_node begun Registry) nodes)) (filter_map-append begin_of first second)
    ∙ ap length (filter-append (λ begun. same_node begun Registry) (begun_in first) (begun_in second))
    ∙ length-append (filter (λ begun. same_node begun Registry) (begun_in first)) (filter (λ begun. same_node begun Registry) (begun_in second))

-- So many were begun before, and so many are then, of so many items.
pub record Begins (items before : ℕ) (events : List Event) (now : ℕ) : Type 0 where
  pub count : begins_of Registry events + before ≡ now
  pub within : now ≤ items

pub nothing : (items before : ℕ) → before ≤ items → Begins items before [] before
nothing items before within = record { count = omega arith; within = within }

one_begins : (items before item : ℕ) (what : Do) → before ≤ items → (not (is_begin what) || is_next items before item) ≡ true
    → Begins items before (event_of Registry what ∷ []) (if is_begin what then item else before)
one_begins items before item whats.Begin within due =
    let next : (item == before + 1) ≡ true = and_first (item == before + 1) (nat_le item items) due in
    let most : nat_le item items ≡ true = and_second (item == before + 1) (nat_le item items) due in
    record { count = grind (arith, nat_tests, next); within = grind (arith, nat_tests, most) }
one_begins items before item (whats.Deliver packet) within due = record { count = omega arith; within = within }
one_begins items before item whats.Tick within due = record { count = omega arith; within = within }

command_begins : (items before : ℕ) (c : Command) → before ≤ items
    → Begins items before (project items before c).outs (project items before c).state
unfolding project
command_begins items before c within =
    by_test (λ made. Begins items before made.outs made.state) (is_due items before c) (event_by before c) (still before)
    (λ due. one_begins items before c.item c.what within due) (λ e. nothing items before within)

pub then_begins : (items before middle now : ℕ) (first second : List Event) → Begins items before first middle → Begins items middle second now
    → Begins items before (first ++ second) now
then_begins items before middle now first second f g =
    record { count = grind (arith, begins_both first second, f.count, g.count); within = g.within }

commands_begin : (items before : ℕ) (commands : List Command) → before ≤ items
    → Begins items before (project_all items before commands).outs (project_all items before commands).state
commands_begin items before [] within = nothing items before within
commands_begin items before (c ∷ commands) within =
    let one = command_begins items before c within in
    let middle = (project items before c).state in
    then_begins items before middle (project_all items middle commands).state (project items before c).outs (project_all items middle commands).outs one
    (commands_begin items middle commands one.within)

-- ---- by events of boards

pub record EventBegins (w : BoardsState) (made : Stepped BoardsState Event) : Type 0 where
  pub items : made.state.items ≡ w.items
  pub begins : Begins w.items w.begun made.outs made.state.begun

module _ (w : BoardsState) (within : w.begun ≤ w.items) where
  stays : EventBegins w (still w)
  stays = record { items = refl; begins = nothing w.items w.begun within }

  by_node : (place : ℕ) (what : inputs.In) (found : Option BoardNode) → EventBegins w (turned_by w place what found)
  by_node place what None = stays
  by_node place what (Some node) = record {
    items = refl;
    begins = commands_begin w.items w.begun (drop (length w.chosen) (chosen_part (board_node_take w.items node what).node.board)) within;
  }

  turn_begins : (place : ℕ) (what : inputs.In) → EventBegins w (boards_turn w place what)
  unfolding boards_turn
  turn_begins place what = by_node place what (slice_get w.nodes place)

  board_begins : (number : ℕ) (what : inputs.In) → EventBegins w (boards_happen w number what)
  board_begins number what =
      by_test (EventBegins w) (nat_lt 0 number && nat_le number (length w.nodes)) (boards_turn w (number - 1) what) (still w)
      (λ e. turn_begins (number - 1) what) (λ e. stays)

  offer_begins : (number : ℕ) (o : Option Command) → EventBegins w (boards_offer w number o)
  offer_begins number None = stays
  offer_begins number (Some command) = board_begins number (input.Offer command)

  -- What happens to another node begins no item of the registry.
  not_registry : (node : NodeId) → (node ≡ Registry → ⊥) → (t : Bool) → same_node node Registry ≡ t
      → length (if t then node ∷ [] else []) ≡ 0
  not_registry node other true e = absurd (other (same_node_is node Registry e))
  not_registry node other false e = refl

  far_count : (event : Event) → (node_of event ≡ Registry → ⊥) → begins_of Registry (event ∷ []) ≡ 0
  far_count (events.Begin node) other = not_registry node other (same_node node Registry) refl
  far_count (events.Deliver packet) other = refl
  far_count (events.Tick node) other = refl

  far_begins : (event : Event) → (node_of event ≡ Registry → ⊥) → EventBegins w (boards_take w (Far event))
  far_begins event other = record { items = refl; begins = record { count = ap (λ n. n + w.begun) (far_count event other) ∙ omega arith; within = within } }

pub event_begins : {N : Type 0} (t : Together N) → t.boards.begun ≤ t.boards.items → (event : BoardEvent) → MayCome t event
    → EventBegins t.boards (boards_take t.boards event)
event_begins t within (Far event) may = far_begins t.boards within event may.1
event_begins t within (Offer number what item) may = offer_begins t.boards within number (command_at what item)
event_begins t within (Mail packet) may = board_begins t.boards within packet.to (input.Mail packet)
event_begins t within (Beat number) may = board_begins t.boards within number input.Beat
event_begins t within (Stop number) may = board_begins t.boards within number input.Stop
event_begins t within (Start number) may = board_begins t.boards within number input.Start
