-- For which item each act of blocks is, over the events of a run.
use Rattle.std.specs.List.{filter}
use Rattle.std.specs.Prelude.{◌≡◌, ℕ, Bool, false, ◌==◌, List, [], ◌∷◌, ◌++◌, Option, Some, None, slice_get}
use Rattle.client_call.specs.Calls.{call_of}
use Rattle.client_call.specs.declared.call.Call.{Call}
use Rattle.client_call.specs.declared.call.Going.{Going}
use Rattle.client_call.specs.declared.call.Going.TheVariants.{On}
use Rattle.client_node.specs.declared.client.Client.{Client}
use Rattle.client_node.specs.Phases.{client_step, lasting_of}
use Rattle.core_world.specs.declared.any_node.AnyNode.{AnyNode}
use Rattle.core_world.specs.declared.any_node.AnyNode.TheVariants as any
use Rattle.token_protocol.specs.Basics.{In}
use Rattle.version_model.specs.declared.act.Act.{Act}
use Rattle.version_model.specs.declared.act.Act.TheVariants as act
use Rattle.version_model.specs.declared.answer.Answer.{Answer}
use Rattle.version_model.specs.declared.answer.Answer.TheVariants as answer
use Rattle.version_model.specs.declared.work.Work.{Work}
use Rattle.version_model.specs.declared.work.Work.TheVariants as work
use Rattle.world_base.specs.declared.estate.Estate.{Estate}
use Rattle.world_base.specs.declared.event.Event.{Event}
use Rattle.world_base.specs.Events.{node_of, what_of}
use Rattle.world_base.specs.Items.{items_of}
use Rattle.xfs_base.specs.declared.node.NodeId.{NodeId}
use Rattle.xfs_base.specs.declared.node.NodeId.TheVariants as nodes
use Rattle.headline.specs.Calls.{EventActs, IsClients, Opens, Stretch, call_in, of_items, open_in}
use Rattle.headline.specs.Files.{BeganBehind}
use Rattle.headline.specs.Items.{IsFileCall, asked_at}
use Rattle.headline.specs.Moments.{acts_in, moment, node_named}
use Rattle.headline.specs.Standings.{IsRestart}

abbrev pub IsOfBlocks : Act → Type 0
IsOfBlocks (act.Wrote client block value) = Unit {0}
IsOfBlocks (act.Read client block ver value) = Unit {0}
IsOfBlocks (act.Synced client) = Unit {0}
IsOfBlocks _ = ⊥

-- such an act names this client
abbrev pub IsBy : ℕ → Act → Type 0
IsBy client (act.Wrote c block value) = c ≡ client
IsBy client (act.Read c block ver value) = c ≡ client
IsBy client (act.Synced c) = c ≡ client
IsBy client _ = Unit {0}

-- it is what such an answer tells of, to an item that asks for one call on blocks
abbrev pub IsToldOf : Option Work → Act → Answer → Type 0
IsToldOf (Some (work.Bget c block)) (act.Read d b ver value) (answer.Got v x) = (b ≡ block) × ((v ≡ ver) × (x ≡ value))
IsToldOf (Some (work.Bput c block value)) (act.Wrote d b x) (answer.Version ver) = (b ≡ block) × (x ≡ value)
IsToldOf (Some (work.Sync c)) (act.Synced d) answer.Done = Unit {0}
IsToldOf _ _ _ = ⊥

-- for which item it is, among these acts of items of an event
pub data IsFor (client item : ℕ) (w : Option Work) (acts : List Act) (a : Act) : Type 0 where
  -- The item asks for a call on files.
  OfFile : IsFileCall w → IsBy client a → IsFor client item w acts a
  -- The item asks for one call on blocks, and is answered so: the two acts are all.
  OfBlock : (x : Answer) → acts ≡ a ∷ act.Answered (nodes.Client client) item x ∷ [] → IsToldOf w a x → IsBy client a → IsFor client item w acts a

-- The event is one of this client, and these are its acts.
pub record IsClientsEvent (e : Estate AnyNode) (count : ℕ) (event : Event) (c : Client) : Type 0 where
  pub there : node_named (moment e count) (node_of event) ≡ Some (any.Client c)
  pub acts : acts_in (moment e count) event ≡ (client_step c (what_of event)).acts

pub record ClientsActForItems (e : Estate AnyNode) : Type 0 where
  -- what clients alone do is acted by events of clients
  pub own : (count : ℕ) (event : Event) → slice_get e.events count ≡ Some event → (a : Act) → IsClients a → In a (acts_in (moment e count) event)
      → (c : Client) × IsClientsEvent e count event c
  -- each event of a client acts for its items, and nothing else
  pub events : (count : ℕ) (event : Event) → slice_get e.events count ≡ Some event → (c : Client)
      → node_named (moment e count) (node_of event) ≡ Some (any.Client c) → EventActs c (what_of event)
  -- and each act of blocks in it is for an item
  pub blocks : (count : ℕ) (event : Event) → slice_get e.events count ≡ Some event → (c : Client)
      → node_named (moment e count) (node_of event) ≡ Some (any.Client c) → (a : Act) → IsOfBlocks a → In a (client_step c (what_of event)).acts
      → (item : ℕ)
      × IsFor (lasting_of c.phase).number item (asked_at (items_of e.script.lines (node_of event)) item) (of_items (client_step c (what_of event)).acts) a
  -- while a client opens its log, as it does where it is back behind an event, its open item asks for a restart
  pub opening : (count : ℕ) (name : NodeId) (c : Client) → node_named (moment e count) name ≡ Some (any.Client c) → Opens c.phase → (item : ℕ)
      → open_in c.phase ≡ Some item → IsRestart (asked_at (items_of e.script.lines name) item)

-- the client acts it of blocks
abbrev pub is_block_of : ℕ → Act → Bool
is_block_of client (act.Wrote c block value) = c == client
is_block_of client (act.Read c block ver value) = c == client
is_block_of client (act.Synced c) = c == client
is_block_of client _ = false

abbrev pub blocks_by : ℕ → List Act → List Act
blocks_by client acts = filter (is_block_of client) acts

-- Since the item began, behind the first of these acts of the run, the client has acted of blocks just what its call tells of, from where it began to this call;
-- `more` are the acts of items behind them, and `after` the call that is open then.
pub record HasRun (e : Estate AnyNode) (client item : ℕ) (acts more : List Act) (after : Option Call) : Type 0 where
  pub wanted : Work
  pub asks : asked_at (items_of e.script.lines (nodes.Client client)) item ≡ Some wanted
  pub going : Going
  pub makes : call_of wanted item client ≡ Some going
  pub first : List Act
  pub since : List Act
  pub all : acts ≡ first ++ since
  pub begins : BeganBehind e client item first
  pub run : Stretch client (Some item) going (blocks_by client since ++ more) after

-- At each moment it is so of the open call of a client, with no more acts.
abbrev pub OpenCallsHaveRun : Estate AnyNode → Type 0
OpenCallsHaveRun e =
    (count : ℕ) (client : ℕ) (c : Client) → node_named (moment e count) (nodes.Client client) ≡ Some (any.Client c) → (call : Call) → call_in c.phase ≡ Some call
    → (item : ℕ) × ((open_in c.phase ≡ Some item) × HasRun e client item (moment e count).acts [] (Some call))

-- And of an event in which it goes on, with the acts of items of the event: up to its answer, where it is answered.
abbrev pub CallsGoOn : Estate AnyNode → Type 0
CallsGoOn e =
    (count : ℕ) (client : ℕ) (c : Client) → node_named (moment e count) (nodes.Client client) ≡ Some (any.Client c) → (call : Call) → call_in c.phase ≡ Some call
    → (acts : List Act) (after : Option Call) → Stretch client (open_in c.phase) (On call) acts after
    → (item : ℕ) × ((open_in c.phase ≡ Some item) × HasRun e client item (moment e count).acts acts after)

-- an answer that a call gets where it is done
abbrev pub IsOfCall : Answer → Type 0
IsOfCall answer.Busy = ⊥
IsOfCall answer.Down = ⊥
IsOfCall answer.Up = ⊥
IsOfCall answer.Cut = ⊥
IsOfCall (answer.Lost name) = ⊥
IsOfCall _ = Unit {0}

-- the item is a call of this client
pub record IsItsCall (w : Option Work) (item client : ℕ) : Type 0 where
  pub wanted : Work
  pub asks : w ≡ Some wanted
  pub going : Going
  pub makes : call_of wanted item client ≡ Some going

abbrev pub CallsAreAnswered : Estate AnyNode → Type 0
CallsAreAnswered e =
    (count : ℕ) (event : Event) → slice_get e.events count ≡ Some event → (client : ℕ) → nodes.Client client ≡ node_of event → (c : Client)
    → node_named (moment e count) (node_of event) ≡ Some (any.Client c) → (item : ℕ) (a : Answer) → IsOfCall a
    → In (act.Answered (nodes.Client client) item a) (of_items (client_step c (what_of event)).acts)
    → IsItsCall (asked_at (items_of e.script.lines (nodes.Client client)) item) item client
    → HasRun e client item (moment e count).acts (of_items (client_step c (what_of event)).acts) None
