-- What logs owe an event of a node, where they keep their word; and what the event makes of the books of the small world.
use Rattle.std.specs.Prelude.{◌≡◌, ℕ, Bool}
use Rattle.cleaner_node.specs.CleanerEvents as cleaners
use Rattle.cleaner_node.specs.declared.cleaner.Cleaner.{Cleaner as CleanerNode}
use Rattle.client_node.specs.declared.client.Client.{Client as ClientNode}
use Rattle.client_node.specs.declared.phase.Phase.{Phase as ClientPhase}
use Rattle.client_node.specs.Phases as clients
use Rattle.core_world.specs.declared.any_node.AnyNode.{AnyNode}
use Rattle.core_world.specs.declared.any_node.AnyNode.TheVariants as any
use Rattle.node_slots.specs.node_tie.CleanerEvents as cleaner
use Rattle.node_slots.specs.node_tie.CleanerLogs.{CleanerTold, OwnGoes, its_log}
use Rattle.node_slots.specs.node_tie.ClientEvents as client
use Rattle.node_slots.specs.node_tie.ClientEvents.{EndsInTime, LogGoes, ReadsSo}
use Rattle.node_slots.specs.node_tie.Sight.{SameLog}
use Rattle.token_law.specs.Net.{Net}
use Rattle.token_protocol.specs.Premises.{Premise}
use Rattle.wire_msg.specs.declared.packet.Do.{Do}
use Rattle.wire_msg.specs.declared.packet.Do.TheVariants.{Begin, Deliver, Tick}
use Rattle.xfs_base.specs.declared.node.NodeId.{NodeId}
use Rattle.xfs_base.specs.declared.node.NodeId.TheVariants.{Cleaner, Client, Manager}
use Rattle.run_laws.specs.world_law.Owes.{ManagerTold}

-- what a client reads, and where the opening of its log ends
module _ (part last_epoch : ℕ) (n : Net) where
  abbrev pub ClientTold : ℕ → ClientPhase → Do → Type 0
  ClientTold c p Begin = Unit {0}
  ClientTold c p (Deliver packet) = ReadsSo part last_epoch c n p packet
  ClientTold c p Tick = EndsInTime part last_epoch c n p

-- Of the node of this name; servers and the registry are owed nothing, nor are a client and the cleaner of an event that is not taken. Of the cleaner it is
-- said whether an opening that ends has what was in flight.
abbrev pub NodeTold : Bool → (members part last_epoch : ℕ) → Net → NodeId → AnyNode → Do → Type 0
NodeTold adopted members part last_epoch n (Client c) (any.Client node) what = client.IsTaken node what → ClientTold part last_epoch n c node.phase what
NodeTold adopted members part last_epoch n (Manager j) (any.Manager node) what = ManagerTold members part n node.phase what
NodeTold adopted members part last_epoch n Cleaner (any.Cleaner node) what = cleaner.IsTaken node what → CleanerTold n.books adopted node.phase what
NodeTold adopted members part last_epoch n name node what = Unit {0}

-- what logs owe this event of this node, where they keep their word
abbrev pub TurnOwes : (logs adopted : Bool) → (members part last_epoch : ℕ) → Net → NodeId → AnyNode → Do → Type 0
TurnOwes logs adopted members part last_epoch n name node what = Premise logs (NodeTold adopted members part last_epoch n name node what)

module _ (logs adopted : Bool) (n next : Net) where
  -- of logs a client's own alone changes, and goes on
  pub record ClientBooks (c : ℕ) (node : ClientNode) (what : Do) : Type 0 where
    pub others : (l : ℕ) → (l ≡ c → ⊥) → SameLog n.books next.books l
    pub own : Premise logs (LogGoes n next.books c (clients.takes node what).outs node.phase (clients.takes node what).state)

  -- and so it is of the cleaner
  pub record CleanerBooks (node : CleanerNode) (what : Do) : Type 0 where
    pub others : (l : ℕ) → (l ≡ its_log → ⊥) → SameLog n.books next.books l
    pub own : Premise logs (OwnGoes n.books next.books adopted node.phase (cleaners.takes node.peers node.phase what).state)

  -- other nodes leave the books as they are
  abbrev pub BooksGo : NodeId → AnyNode → Do → Type 0
  BooksGo (Client c) (any.Client node) what = ClientBooks c node what
  BooksGo Cleaner (any.Cleaner node) what = CleanerBooks node what
  BooksGo name node what = next.books ≡ n.books
