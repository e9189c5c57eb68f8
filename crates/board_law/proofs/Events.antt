-- After every list of events the boards are tied to the abstract protocol, so they have one list.
use Rattle.std.proofs.Common.{◌≡◌, ℕ, ◌-◌, ◌≤◌, true, ◌&&◌, nat_lt, List, [], ◌∷◌, ◌++◌, length, drop, take, sym, ap, ◌∙◌, subst}
use Rattle.std.specs.Prelude.{None, Option, Some, nat_le, slice_get}
use Rattle.xfs_base.proofs.Booleans.{by_test}
use Rattle.xfs_base.proofs.StepLoops.{steps_both}
use Rattle.xfs_base.specs.Steps.{steps, still}
use Rattle.script_text.specs.declared.script.Script.{Script}
use Rattle.board_protocol.specs.Basics.{Prefix}
use Rattle.board_protocol.proofs.Prefixes.{longer, no_longer, same, through}
use Rattle.board.specs.State.{chosen_part}
use Rattle.board.specs.declared.command.Command.{Command}
use Rattle.board.specs.declared.input.In as inputs
use Rattle.board.specs.declared.input.In.TheVariants as input
use Rattle.board_world.specs.declared.board_event.BoardEvent.{BoardEvent}
use Rattle.board_world.specs.declared.board_event.BoardEvent.TheVariants.{Far, Offer, Mail, Beat, Stop, Start}
use Rattle.board_world.specs.declared.board_node.BoardNode.{BoardNode}
use Rattle.board_world.specs.BoardRuns.{MailCame, MayMail}
use Rattle.board_world.specs.BoardTurns.{board_node_take}
use Rattle.board_world.specs.NextBoards.{BoardsState, boards_happen, boards_after, command_at, boards_start, boards_take, node_at, boards_offer, boards_turn, turned_by}
use Rattle.board_world.specs.Replicas.{applied_all, replica_start}
use Rattle.board_law.specs.OneList.{HaveOneList, IsBehind}
use Rattle.board_law.proofs.Tied.{AreTied, Seated, first_tied}
use Rattle.board_law.proofs.Turns.{board_tied}

-- ---- tied

module _ (script : Script) where
  offered_tied : (w : BoardsState) (number : ℕ) (o : Option Command) → AreTied script w → AreTied script (boards_offer w number o).state
  offered_tied w number None tied = tied
  offered_tied w number (Some command) tied = board_tied script w number (input.Offer command) (λ p t. tt) tied

  pub event_tied : (w : BoardsState) (event : BoardEvent) → MayMail w event → AreTied script w → AreTied script (boards_take w event).state
  event_tied w (Far event) may tied = tied
  event_tied w (Offer number what item) may tied = offered_tied w number (command_at what item) tied
  event_tied w (Mail packet) may tied = board_tied script w packet.to (input.Mail packet) (λ p t. t.mail packet may) tied
  event_tied w (Beat number) may tied = board_tied script w number input.Beat (λ p t. tt) tied
  event_tied w (Stop number) may tied = board_tied script w number input.Stop (λ p t. tt) tied
  event_tied w (Start number) may tied = board_tied script w number input.Start (λ p t. tt) tied

  pub events_tied : (w : BoardsState) (events : List BoardEvent) → MailCame w events → AreTied script w → AreTied script (steps boards_take w events).state
  events_tied w [] came tied = tied
  events_tied w (event ∷ events) came tied = events_tied (boards_take w event).state events came.1 (event_tied w event came.0 tied)

  pub run_tied : (events : List BoardEvent) → MailCame (boards_start script) events → AreTied script (boards_after script events).state
  run_tied events came = events_tied (boards_start script) events came (first_tied script)

-- ---- one list

-- the board of a number stands at the place before it
pub there : (w : BoardsState) (number : ℕ) (node : BoardNode) → node_at w number ≡ Some node
    → (nat_lt 0 number ≡ true) × (slice_get w.nodes (number - 1) ≡ Some node)
there w number node got =
    by_test (λ o. o ≡ Some node → (nat_lt 0 number ≡ true) × (slice_get w.nodes (number - 1) ≡ Some node)) (nat_lt 0 number) (slice_get w.nodes (number - 1)) None
    (λ e at. (e, at)) (λ e at. absurd (cc)) got

module _ (script : Script) (w : BoardsState) (tied : AreTied script w) where
  seat : (number : ℕ) (node : BoardNode) → node_at w number ≡ Some node → Seated script w.items w.chosen tied.0 (number - 1) node
  seat number node got = tied.1.seated (number - 1) node (there w number node got).1

  behind : (number : ℕ) (node : BoardNode) → node_at w number ≡ Some node → IsBehind script w node
  behind number node got =
      let s = seat number node got in
      let applied = (tied.0.board (number - 1)).applied in
      let front : applied ≡ take node.board.applied w.chosen = sym s.applied ∙ ap (λ n. take n w.chosen) s.shows.applied in
      record {
        within = subst (λ n. n ≤ length w.chosen) s.shows.applied (no_longer applied w.chosen s.applied);
        registry = s.registry ∙ ap (λ list. (applied_all w.items (replica_start script) list).state) front;
      }

  pub have_one_list : HaveOneList script w
  have_one_list = record {
    shown = λ number node got. (seat number node got).shown;
    behind = behind;
    handed = tied.1.handed;
    protocol = record {
      moment = tied.0;
      reached = tied.1.reached;
      shows = λ place node got. (tied.1.seated place node got).shows;
      chosen = tied.1.chosen;
    };
  }

-- ---- it only grows

module _ (w : BoardsState) where
  by_node : (place : ℕ) (what : inputs.In) (found : Option BoardNode) → Prefix w.chosen (turned_by w place what found).state.chosen
  by_node place what None = same w.chosen
  by_node place what (Some node) =
      longer w.chosen (drop (length w.chosen) (chosen_part (board_node_take w.items node what).node.board))

  turn_grows : (place : ℕ) (what : inputs.In) → Prefix w.chosen (boards_turn w place what).state.chosen
  unfolding boards_turn
  turn_grows place what = by_node place what (slice_get w.nodes place)

  board_grows : (number : ℕ) (what : inputs.In) → Prefix w.chosen (boards_happen w number what).state.chosen
  board_grows number what =
      by_test (λ made. Prefix w.chosen made.state.chosen) (nat_lt 0 number && nat_le number (length w.nodes)) (boards_turn w (number - 1) what) (still w)
      (λ e. turn_grows (number - 1) what) (λ e. same w.chosen)

  offer_grows : (number : ℕ) (o : Option Command) → Prefix w.chosen (boards_offer w number o).state.chosen
  offer_grows number None = same w.chosen
  offer_grows number (Some command) = board_grows number (input.Offer command)

  event_grows : (event : BoardEvent) → Prefix w.chosen (boards_take w event).state.chosen
  event_grows (Far event) = same w.chosen
  event_grows (Offer number what item) = offer_grows number (command_at what item)
  event_grows (Mail packet) = board_grows packet.to (input.Mail packet)
  event_grows (Beat number) = board_grows number input.Beat
  event_grows (Stop number) = board_grows number input.Stop
  event_grows (Start number) = board_grows number input.Start

pub events_grow : (w : BoardsState) (events : List BoardEvent) → Prefix w.chosen (steps boards_take w events).state.chosen
events_grow w [] = same w.chosen
events_grow w (event ∷ events) =
    let next = (boards_take w event).state in
    through w.chosen next.chosen (steps boards_take next events).state.chosen (event_grows w event) (events_grow next events)

pub chosen_grows : (script : Script) (events more : List BoardEvent) → Prefix (boards_after script events).state.chosen (boards_after script (events ++ more)).state.chosen
chosen_grows script events more =
    subst (λ (v : BoardsState). Prefix (boards_after script events).state.chosen v.chosen) (sym (steps_both boards_take (boards_start script) events more))
    (events_grow (boards_after script events).state more)
