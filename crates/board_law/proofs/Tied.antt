-- How the boards stand to a moment of the abstract protocol.
use Rattle.std.proofs.Common.{◌≡◌, ℕ, zero, suc, ◌<◌, List, [], refl, sym, subst, arith}
use Rattle.std.specs.Prelude.{Some, slice_get}
use Rattle.std.proofs.lemmas.Option.{same_Some}
use Rattle.script_text.specs.declared.script.Script.{Script}
use Rattle.wire_msg.specs.declared.packet.Packet.{Packet}
use Rattle.world_base.specs.Runs.{WasSent}
use Rattle.board_protocol.specs.Basics.{Prefix}
use Rattle.board_protocol.specs.Laws.{Chosen}
use Rattle.board_protocol.specs.Step.{Steps}
use Rattle.board_protocol.specs.Step.Steps.{Done}
use Rattle.board_protocol.specs.World.{World, start}
use Rattle.board.specs.declared.command.Command.{Command}
use Rattle.board.specs.declared.packet.BoardPacket.{BoardPacket}
use Rattle.board.specs.State.{chosen_part}
use Rattle.board_law.specs.board_tie.Sent.{Sent}
use Rattle.board_law.specs.board_tie.Shown.{Shows, owner}
use Rattle.board_law.proofs.board_tie.Inputs.{starts_so}
use Rattle.board_world.specs.declared.board_node.BoardNode.{BoardNode}
use Rattle.board_world.specs.BoardRuns.{WasMailed}
use Rattle.board_world.specs.BoardTurns.{board_node_start}
use Rattle.board_world.specs.NextBoards.{BoardsState, boards_start}
use Rattle.board_world.specs.Replicas.{applied_all, replica_start}
use Rattle.board_law.specs.OneList.{one_registry}
use Rattle.board_law.proofs.Places.{nowhere}
use Rattle.board_law.proofs.Showing.{none_chosen}

-- A board at a place, where these commands are chosen: it is the protocol's, what it shows and what it has applied are the front of what is chosen, and its
-- registry is the one that what it has applied makes.
pub record Seated (script : Script) (items : ℕ) (chosen : List Command) (p : World Command) (place : ℕ) (node : BoardNode) : Type 0 where
  pub below : place < 3
  pub shows : Shows place (p.board place) node.board
  pub shown : Prefix (chosen_part node.board) chosen
  pub applied : Prefix (p.board place).applied chosen
  pub registry : node.registry ≡ (applied_all items (replica_start script) (p.board place).applied).state

pub record Tied (script : Script) (w : BoardsState) (p : World Command) : Type 0 where
  pub reached : Steps (start owner) p
  pub seated : (place : ℕ) (node : BoardNode) → slice_get w.nodes place ≡ Some node → Seated script w.items w.chosen p place node
  pub mail : (packet : BoardPacket) → WasMailed w.mail packet → Sent p packet
  pub chosen : Chosen p w.chosen
  pub handed : (packet : Packet) → WasSent w.handed packet → WasSent (one_registry script w).outs packet

-- There is such a moment.
abbrev pub AreTied : Script → BoardsState → Type 0
AreTied script w = (p : World Command) × Tied script w p

-- ---- at the start

module _ (script : Script) (items : ℕ) where
  first_seated : (place : ℕ) → place < 3 → Seated script items [] (start owner) place (board_node_start script (suc place))
  first_seated zero below = record { below = below; shows = starts_so zero below; shown = refl; applied = refl; registry = refl }
  first_seated (suc zero) below = record { below = below; shows = starts_so 1 below; shown = refl; applied = refl; registry = refl }
  first_seated (suc (suc zero)) below = record { below = below; shows = starts_so 2 below; shown = refl; applied = refl; registry = refl }
  first_seated (suc (suc (suc place))) below = absurd (omega (arith, below))

  seated_at : (place number : ℕ) (node : BoardNode) → number ≡ suc place → place < 3 → Some (board_node_start script number) ≡ Some node
      → Seated script items [] (start owner) place node
  seated_at place number node is below got =
      subst (Seated script items [] (start owner) place) (same_Some (board_node_start script number) node got)
      (subst (λ n. Seated script items [] (start owner) place (board_node_start script n)) (sym is) (first_seated place below))

  first_ones : (place : ℕ) (node : BoardNode) → slice_get (boards_start script).nodes place ≡ Some node → Seated script items [] (start owner) place node
  first_ones zero node got = seated_at 0 1 node refl (omega arith) got
  first_ones (suc zero) node got = seated_at 1 2 node refl (omega arith) got
  first_ones (suc (suc zero)) node got = seated_at 2 3 node refl (omega arith) got
  first_ones (suc (suc (suc place))) node got = absurd (cc)

pub first_tied : (script : Script) → AreTied script (boards_start script)
first_tied script = (
  start owner,
  record {
    reached = Done;
    seated = first_ones script (boards_start script).items;
    mail = λ packet at. nowhere packet at;
    chosen = none_chosen (start owner);
    handed = λ packet at. nowhere packet at;
  },
)
