-- What is claimed of a run by worker threads.
use Rattle.std.specs.Prelude.{◌≡◌, ℕ, ◌≤◌, Bool, true, false, List, Option, Some, None, length, slice_get}
use Rattle.std.specs.List.{AllByRecursion}
use Rattle.node_base.specs.Setups.{IsSetup}
use Rattle.script_text.specs.declared.script.Line.{Line}
use Rattle.script_text.specs.declared.script.Script.{Script}
use Rattle.version_model.specs.declared.work.Work.{Work}
use Rattle.wire_msg.specs.declared.packet.Do.{Do}
use Rattle.wire_msg.specs.NodeStep.{NodeStep}
use Rattle.xfs_base.specs.declared.node.NodeId.{NodeId}
use Rattle.xfs_base.specs.declared.setup.Setup.{Setup}
use Rattle.world_base.specs.declared.estate.Estate.{Estate}
use Rattle.world_base.specs.Cluster.{HasNode}
use Rattle.world_base.specs.Dues.{dues_of}
use Rattle.world_base.specs.Items.{actor_of, items_of}
use Rattle.world_base.specs.NextWorld.{first_node, start_world}
use Rattle.world_base.specs.Runs.{BeginsAll, IsRun}
use Rattle.journals.specs.Answers.{AreAnswered}
use Rattle.journals.specs.Journals.{MeetsDues}
use Rattle.journals.specs.Merging.{Rises, whats_of}
use Rattle.live_links.specs.Answered.{waited_in}
use Rattle.live_links.specs.Ending.{last_wait}

-- a work is an item of a node that the setup has, or of none
abbrev pub IsOfNode : Setup → Option NodeId → Type 0
IsOfNode setup None = Unit {0}
IsOfNode setup (Some node) = HasNode setup node

abbrev pub IsLineOfNode : Setup → Line → Type 0
IsLineOfNode setup line = IsOfNode setup (actor_of line.work)

-- the lines of a script ask nothing of nodes that its setup has not
abbrev pub NamesNodes : Script → Type 0
NamesNodes script = AllByRecursion (IsLineOfNode script.setup) script.lines

-- what stands at a place of one list stands there in another
abbrev pub IsFront : {X : Type 0} → List X → List X → Type 0
IsFront {X} xs all = (k : ℕ) (x : X) → slice_get xs k ≡ Some x → slice_get all k ≡ Some x

module _ {N : Type 0} (step : N → Do → NodeStep N) (first : NodeId → Setup → List Work → N) where
  -- In a full run each node begins its items, each once and none left out, and each item of each node is answered.
  pub record IsFull (e : Estate N) : Type 0 where
    pub complete : BeginsAll e.script.lines e.events
    pub answered : (node : NodeId) → AreAnswered node (length (items_of e.script.lines node)) e.world.acts

  -- In a run that was given up time passed at each node so often behind its last answer to an item of its own.
  abbrev pub IsGivenUp : Estate N → Type 0
  IsGivenUp e = (node : NodeId) → HasNode e.script.setup node → last_wait ≤ waited_in step node 0 (first_node first e.script node) (whats_of node e.events)

  abbrev pub EndsSo : Bool → Estate N → Type 0
  EndsSo true e = IsFull e
  EndsSo false e = IsGivenUp e

  -- A run by workers, full or given up.
  pub record IsLive (full : Bool) (e : Estate N) : Type 0 where
    -- its events are one run of its script, from the start to its world
    pub setup : IsSetup e.script.setup
    pub one_run : IsRun step first e.script e.events e.world
    -- they rise strictly by clock and node
    pub rises : Rises step (start_world first e.script) 0 0 e.events
    -- each node begins its items in order, each once, and each at its due: after as many events of its own as the line says, and, but for a crash and the loss of
    -- a disk, with each earlier item of its own answered
    pub met : (node : NodeId) → HasNode e.script.setup node
        → MeetsDues step node (first_node first e.script node) (dues_of e.script.lines node) (whats_of node e.events)
    pub ends : EndsSo full e
