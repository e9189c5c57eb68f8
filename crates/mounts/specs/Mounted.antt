-- What is claimed of the calls and the replies of a run with applications.
use Rattle.std.specs.Prelude.{◌≡◌, ℕ, ◌+◌, ◌≤◌, Bool, true, List, length, slice_get, Some}
use Rattle.script_text.specs.declared.script.Script.{Script}
use Rattle.version_model.specs.declared.act.Act.{Act}
use Rattle.version_model.specs.declared.work.Work.{Work}
use Rattle.wire_msg.specs.declared.packet.Do.{Do}
use Rattle.wire_msg.specs.NodeStep.{NodeStep}
use Rattle.xfs_base.specs.declared.node.NodeId.{NodeId}
use Rattle.xfs_base.specs.declared.node.NodeId.TheVariants as nodes
use Rattle.xfs_base.specs.declared.setup.Setup.{Setup}
use Rattle.world_base.specs.declared.estate.Estate.{Estate}
use Rattle.world_base.specs.declared.event.Event.{Event}
use Rattle.world_base.specs.Items.{items_of}
use Rattle.world_base.specs.NextWorld.{first_node}
use Rattle.journals.specs.Journals.{acts_in, begins}
use Rattle.journals.specs.Merging.{whats_of}
use Rattle.live_links.specs.Answered.{answers_by}
use Rattle.mounts.specs.declared.reply.Reply.{Reply}
use Rattle.mounts.specs.Ports.{items_to}
use Rattle.mounts.specs.Replies.{replies_of}

-- the client whose calls and replies stand at a place
abbrev pub client_at : ℕ → NodeId
client_at p = nodes.Client (p + 1)

-- What was called at a node are its first items, in their order, each once; each that it began is among them; and in a full run they are all its items.
pub record AreCalled (full : Bool) (script : Script) (events : List Event) (node : NodeId) (calls : List ℕ) : Type 0 where
  pub in_order : calls ≡ items_to (length calls)
  pub most : length calls ≤ length (items_of script.lines node)
  pub begun : begins (whats_of node events) ≤ length calls
  pub all : full ≡ true → length calls ≡ length (items_of script.lines node)

module _ {N : Type 0} (step : N → Do → NodeStep N) (first : NodeId → Setup → List Work → N) where
  -- what a node did in the events of a run that happened to it
  abbrev pub acts_of : Estate N → NodeId → List Act
  acts_of e node = acts_in step (first_node first e.script node) (whats_of node e.events)

  -- Of a run with applications, full or given up, and of the calls and the replies, client by client:
  pub record IsMounted (full : Bool) (e : Estate N) (calls : List (List ℕ)) (replies : List (List Reply)) : Type 0 where
    -- there is one list of each for each client
    pub calls_count : length calls ≡ e.script.setup.clients
    pub replies_count : length replies ≡ e.script.setup.clients
    -- what was called at a client are its first items, in their order, each once, in a full run all
    pub called : (p : ℕ) (cs : List ℕ) → slice_get calls p ≡ Some cs → AreCalled full e.script e.events (client_at p) cs
    -- what was replied is what it answered to its items in the run, in that order, each once
    pub replied : (p : ℕ) (rs : List Reply) → slice_get replies p ≡ Some rs → rs ≡ replies_of (answers_by (client_at p) (acts_of e (client_at p)))
