-- What is asked of a fact of the registry's board, and of what it does then, so that each event keeps it; and that each event does.
use Rattle.std.proofs.Common.{◌≡◌, ℕ, true, ◌==◌, cond, [], ◌∷◌, refl}
use Rattle.std.specs.Prelude.{nat_lt}
use Rattle.std.specs.List.{AllByRecursion}
use Rattle.node_base.specs.declared.effects.Effect.{Effect}
use Rattle.registry.specs.Board.{Made, can_move, checkpointed, done, hears_manager, hears_server, hello, is_kept, keep, manager_hello, manager_restarted, moved, reassign, server_hello, server_lost, transition}
use Rattle.registry.specs.BoardState.{BoardState}
use Rattle.registry.specs.declared.input.In.{In}
use Rattle.registry.specs.declared.output.Out.TheVariants.{Changed, Kept}
use Rattle.registry_node.specs.declared.node.RegistryNode.{RegistryNode}
use Rattle.registry_node.specs.Events.{takes}
use Rattle.wire_msg.specs.declared.body.Body.TheVariants as body
use Rattle.wire_msg.specs.declared.packet.Do.{Do}
use Rattle.wire_msg.specs.declared.packet.Packet.{Packet}
use Rattle.wire_msg.specs.declared.registry.CkptDone.{CkptDone}
use Rattle.wire_msg.specs.declared.registry.Hello.{Hello}
use Rattle.xfs_base.proofs.Alls.{all_weaker}
use Rattle.xfs_base.proofs.Booleans.{by_test}
use Rattle.xfs_base.proofs.Leaving.{Leaves}
use Rattle.xfs_base.specs.declared.node.NodeId.{NodeId}
use Rattle.xfs_base.specs.declared.node.NodeId.TheVariants.{Client, Manager, Server, Cleaner, Registry}
use Rattle.xfs_base.specs.Limits.{u32_end}
use Rattle.xfs_base.specs.Steps.{still}
use Rattle.node_moves.proofs.registry_moves.Events.{registry_events_are_moves}
use Rattle.node_moves.specs.registry_moves.Moves.{Given, Said, Turned}
use Rattle.node_moves.specs.registry_moves.Moves.Given.{CheckpointCame, HelloCame, MoveAsked}
use Rattle.node_moves.specs.registry_moves.Moves.Turned.{Rests, Takes}
use Rattle.node_moves.specs.server_moves.Moves.{Came}

-- An event that begins with this registry keeps a fact of the board, whatever an input makes of it: a manager has restarted, a server has lost its disk, a slot
-- is moved, or a checkpoint is kept. What is done then is `D`, of the board as it is then.
pub record Keeps (first : RegistryNode) (what : Do) (B : BoardState → Type 0) (D : BoardState → Effect → Type 0) : Type 0 where
  pub restarts : (packet : Packet) (m : Hello) (manager : ℕ) → Came what packet (body.Hello m) → packet.from ≡ Manager manager
      → hears_manager first.board manager m.inc ≡ true → B first.board → B (manager_restarted first.board manager m.inc)
  pub loses : (packet : Packet) (m : Hello) (server : ℕ) → Came what packet (body.Hello m) → packet.from ≡ Server server
      → hears_server first.board server m.inc ≡ true → B first.board → B (server_lost first.board server m.inc)
  pub moves : (slot manager : ℕ) → can_move first.board slot ≡ true → B first.board → B (moved first.board slot manager)
  pub checkpoints : (packet : Packet) (m : CkptDone) → Came what packet (body.CkptDone m) → is_kept first.board m.slot m.epoch m.horizon ≡ true
      → B first.board → B (checkpointed first.board m.slot m.parts m.horizon)
  pub says : (now : BoardState) (e : Effect) → B now → Said first what now e → D now e

module _ (first : RegistryNode) (what : Do) (B : BoardState → Type 0) (D : BoardState → Effect → Type 0) (keeps : Keeps first what B D) (h : B first.board) where
  abbrev Holds : Made → Type 0
  Holds made = B made.state

  hello_keeps : (packet : Packet) (m : Hello) → Came what packet (body.Hello m) → (from : NodeId) → packet.from ≡ from → Holds (hello first.board from m.inc)
  unfolding manager_hello server_hello
  hello_keeps packet m came (Manager k) fact =
      by_test Holds (hears_manager first.board k m.inc) (record { state = manager_restarted first.board k m.inc; outs = Changed ∷ [] }) (still first.board)
      (λ t. keeps.restarts packet m k came fact t h) (λ t. h)
  hello_keeps packet m came (Server v) fact =
      by_test Holds (hears_server first.board v m.inc) (record { state = server_lost first.board v m.inc; outs = Changed ∷ [] }) (still first.board)
      (λ t. keeps.loses packet m v came fact t h) (λ t. h)
  hello_keeps packet m came _ fact = h

  move_keeps : (slot manager : ℕ) → Holds (reassign first.board slot manager)
  unfolding reassign
  move_keeps slot manager =
      by_test Holds (can_move first.board slot) (record { state = moved first.board slot manager; outs = _ }) (still first.board)
      (λ t. keeps.moves slot manager t h) (λ t. h)

  checkpoint_keeps : (packet : Packet) (m : CkptDone) → Came what packet (body.CkptDone m) → is_kept first.board m.slot m.epoch m.horizon ≡ true
      → Holds (keep first.board m.slot m.epoch m.parts m.horizon)
  unfolding keep
  checkpoint_keeps packet m came fact =
      by_test Holds (first.board.version == u32_end) (still first.board)
      (record { state = checkpointed first.board m.slot m.parts m.horizon; outs = Kept m.epoch ∷ [] }) (λ t. h)
      (λ t. keeps.checkpoints packet m came fact h)

  done_keeps : (packet : Packet) (m : CkptDone) → Came what packet (body.CkptDone m) → Holds (done first.board m.slot m.epoch m.parts m.horizon)
  unfolding done
  done_keeps packet m came =
      by_test Holds (nat_lt 7 m.slot) (still first.board)
      (cond (is_kept first.board m.slot m.epoch m.horizon) (keep first.board m.slot m.epoch m.parts m.horizon) (record { state = first.board; outs = _ }))
      (λ t. h)
      (λ t. by_test Holds (is_kept first.board m.slot m.epoch m.horizon) (keep first.board m.slot m.epoch m.parts m.horizon)
      (record { state = first.board; outs = _ }) (λ fact. checkpoint_keeps packet m came fact) (λ u. h))

  given_keeps : (given : In) → Given first what given → Holds (transition first.board given)
  given_keeps given (HelloCame packet m came) = hello_keeps packet m came packet.from refl
  given_keeps given (CheckpointCame packet m came) = done_keeps packet m came
  given_keeps given (MoveAsked number slot manager begins asked) = move_keeps slot manager

  turned_keeps : (now : BoardState) → Turned first what now → B now
  turned_keeps now Rests = h
  turned_keeps now (Takes given came) = given_keeps given came

  -- whatever happens to the registry
  pub event_keeps : Leaves (λ (node : RegistryNode). B node.board) (D (takes first what).state.board) (takes first what)
  event_keeps =
      let moves = registry_events_are_moves first what in
      let now : BoardState = (takes first what).state.board in
      let kept : B now = turned_keeps now moves.board in
      record { state = kept; outs = all_weaker (Said first what now) (D now) (λ e said. keeps.says now e kept said) (takes first what).outs moves.says }

-- nothing is asked for but what is done
pub event_says : (first : RegistryNode) (what : Do) (P : Effect → Type 0) → ((now : BoardState) (e : Effect) → Said first what now e → P e)
    → AllByRecursion P (takes first what).outs
event_says first what P each =
    let now : BoardState = (takes first what).state.board in
    all_weaker (Said first what now) P (each now) (takes first what).outs (registry_events_are_moves first what).says
