-- The moves of the registry: what it does in an event, and what for. Its board takes an input or none, once; what it does then is of the board as that left it.
use Rattle.std.specs.Prelude.{◌≡◌, ℕ, true, Some}
use Rattle.std.specs.List.{AllByRecursion}
use Rattle.node_base.specs.Beginning.{work_at}
use Rattle.node_base.specs.declared.effects.Effect.{Effect}
use Rattle.node_base.specs.declared.effects.Effect.TheVariants.{Answer as Answers, Send}
use Rattle.node_base.specs.Room.{has_room}
use Rattle.registry.specs.Board.{transition}
use Rattle.registry.specs.BoardState.{BoardState}
use Rattle.registry.specs.declared.input.In.{In}
use Rattle.registry.specs.declared.input.In.TheVariants as input
use Rattle.registry_node.specs.declared.node.RegistryNode.{RegistryNode}
use Rattle.registry_node.specs.Events.{Done, news_of, takes}
use Rattle.version_model.specs.declared.answer.Answer.TheVariants as answers
use Rattle.version_model.specs.declared.work.Work.TheVariants as work
use Rattle.wire_msg.specs.declared.body.Body.TheVariants as body
use Rattle.wire_msg.specs.declared.packet.Do.{Do}
use Rattle.wire_msg.specs.declared.packet.Do.TheVariants.{Begin}
use Rattle.wire_msg.specs.declared.packet.Packet.{Packet}
use Rattle.wire_msg.specs.declared.registry.CkptDone.{CkptDone}
use Rattle.wire_msg.specs.declared.registry.Hello.{Hello}
use Rattle.xfs_base.specs.declared.node.NodeId.{NodeId}
use Rattle.node_moves.specs.server_moves.Moves.{Came}

-- ---- because of what the board takes an input

pub data Given (first : RegistryNode) (what : Do) : In → Type 0 where
  HelloCame : (packet : Packet) (m : Hello) → Came what packet (body.Hello m) → Given first what (input.Hello packet.from m.inc)
  CheckpointCame : (packet : Packet) (m : CkptDone) → Came what packet (body.CkptDone m)
      → Given first what (input.Done m.slot m.epoch m.parts m.horizon)
  MoveAsked : (number slot manager : ℕ) → what ≡ Begin → work_at first.items number ≡ Some (work.Move slot manager)
      → Given first what (input.Reassign slot manager)

-- ---- the moves

-- what becomes of the board
pub data Turned (first : RegistryNode) (what : Do) : BoardState → Type 0 where
  Rests : Turned first what first.board
  Takes : (given : In) → Given first what given → Turned first what (transition first.board given).state

-- what the registry does, whose board is this then
pub data Said (first : RegistryNode) (what : Do) (now : BoardState) : Effect → Type 0 where
  TellsMaps : (to : NodeId) → Said first what now (Send to (body.MapNews (news_of now)))
  -- It answers a Hello, which its board has taken.
  Welcomes : (packet : Packet) (m : Hello) → Came what packet (body.Hello m) → has_room first.board.version ≡ true
      → now ≡ (transition first.board (input.Hello packet.from m.inc)).state
      → Said first what now (Send packet.from (body.Welcome (record { inc = m.inc; ask = m.ask; news = news_of now })))
  Acknowledges : (packet : Packet) (m : CkptDone) (epoch : ℕ) → Came what packet (body.CkptDone m)
      → Said first what now (Send packet.from (body.CkptAck (record { slot = m.slot; epoch = epoch; ask = m.ask })))
  AnswersItem : (number epoch : ℕ) → Said first what now (Answers number (answers.Epoch epoch))

-- An event of these moves. It may note, too, that an item is begun.
pub record Moves (first : RegistryNode) (what : Do) (d : Done) : Type 0 where
  pub peers : d.state.peers ≡ first.peers
  pub works : d.state.items.works ≡ first.items.works
  pub board : Turned first what d.state.board
  pub says : AllByRecursion (Said first what d.state.board) d.outs

-- Each event of the registry is made of moves.
abbrev pub RegistryEventsAreMoves : Type 0
RegistryEventsAreMoves = (node : RegistryNode) (what : Do) → Moves node what (takes node what)
