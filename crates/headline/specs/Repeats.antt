-- What is not acknowledged is said again whenever time passes: fragments and deltas of a log, recalls, polls and checkpoints of a manager.
use Rattle.std.specs.Prelude.{◌≡◌, ◌<◌, ◌+◌, ℕ, true, false, List, Some, None, slice_get}
use Rattle.cleaner_node.specs.declared.cleaner.Phase.TheVariants as cleaners
use Rattle.cleaner_serving.specs.declared.emptying.Emptying.{Emptying}
use Rattle.client_log.specs.LogState.{LogState}
use Rattle.client_node.specs.declared.phase.Phase.TheVariants as clients
use Rattle.core_world.specs.AnyNode.{any_step}
use Rattle.core_world.specs.declared.any_node.AnyNode.{AnyNode}
use Rattle.core_world.specs.declared.any_node.AnyNode.TheVariants as any
use Rattle.delta_feed.specs.FeedState.{FeedState, acked_of}
use Rattle.delta_feed.specs.Transition.{rows_after}
use Rattle.group_map.specs.declared.group.Member.{Member}
use Rattle.log_flight.specs.Flights.{FlightState, is_noted}
use Rattle.log_owner.specs.declared.promised.Managers.{Managers}
use Rattle.log_owner.specs.Promised.{manager_of}
use Rattle.manager_node.specs.declared.phase.Phase.{Phase}
use Rattle.manager_node.specs.declared.phase.Phase.TheVariants.{Down, Serving as Serves, Waiting}
use Rattle.manager_serving.specs.declared.serving.Serving.{Serving}
use Rattle.manager_slots.specs.declared.slot_phase.Active.{Active}
use Rattle.manager_slots.specs.declared.slot_phase.SlotPhase.{SlotPhase}
use Rattle.manager_slots.specs.declared.slot_phase.SlotPhase.TheVariants as phase
use Rattle.manager_slots.specs.declared.slot_phase.Taking.{Taking}
use Rattle.slot_beliefs.specs.declared.job.Awaited.{Awaited}
use Rattle.slot_beliefs.specs.declared.job.Job.{Job}
use Rattle.takeover.specs.Transition.{awaited}
use Rattle.token_protocol.specs.Basics.{In}
use Rattle.wire_msg.specs.declared.body.Body.{Body}
use Rattle.wire_msg.specs.declared.body.Body.TheVariants as body
use Rattle.wire_msg.specs.declared.packet.Do.TheVariants.{Tick}
use Rattle.wire_msg.specs.declared.packet.Packet.{Packet}
use Rattle.wire_msg.specs.declared.registry.CkptDone.{CkptDone}
use Rattle.world_base.specs.declared.estate.Estate.{Estate}
use Rattle.world_base.specs.declared.event.Event.{Event}
use Rattle.world_base.specs.Events.{node_of, what_of}
use Rattle.xfs_base.specs.declared.block.BlockId.{BlockId}
use Rattle.xfs_base.specs.declared.node.NodeId.{NodeId}
use Rattle.xfs_base.specs.declared.node.NodeId.TheVariants as nodes
use Rattle.xfs_base.specs.Limits.{slot_count}
use Rattle.headline.specs.Checkpoints.{awaited_in}
use Rattle.headline.specs.Dues.{has_counters}
use Rattle.headline.specs.Items.{name_in}
use Rattle.headline.specs.Moments.{moment, node_named}
use Rattle.headline.specs.Servers.{piece}
use Rattle.client_serving.specs.declared.serving.Serving.{Serving as Client}

-- of a node, and of what it sends
module _ (me : NodeId) (packets : List Packet) where
  -- it says this to a node
  abbrev pub SaysTo : NodeId → Body → Type 0
  SaysTo to said = In (record { from = me; to = to; clock = 0; body = said }) packets

  -- each fragment of the segment in flight is to be stored that its server isn't known to hold, at the member's generation
  abbrev pub StoresAgain : LogState → Type 0
  StoresAgain log =
      (f : FlightState) → log.flight ≡ Some f → (place : ℕ) (member : Member) → slice_get f.group.members place ≡ Some member → is_noted f.noted place ≡ false
      → SaysTo (nodes.Server member.server) (body.Store (record { fragment = piece f.segment f.group place; generation = member.generation }))

  -- the manager of each slot that hasn't acknowledged the log up to its end is told the rest
  abbrev pub TellsAgain : Managers → FeedState → Type 0
  TellsAgain managers feed =
      (slot : ℕ) → slot < slot_count → acked_of feed slot < feed.end
      → SaysTo (manager_of managers slot)
      (body.Deltas (record { slot = slot; first = acked_of feed slot + 1; upto = feed.end; rows = rows_after slot (acked_of feed slot) feed.filed }))

  -- in each slot that is managed, each client from which a want awaits a block is asked for it again, under the same stamp
  abbrev pub RecallsAgain : List SlotPhase → Type 0
  RecallsAgain slots =
      (slot : ℕ) (active : Active) → slot < slot_count → slice_get slots slot ≡ Some (phase.Active active) → (block : BlockId) (job : Job)
      → In (block, job) active.slot.jobs → (a : Awaited) → In a job.awaited → a.end ≡ None
      → SaysTo (nodes.Client a.client) (body.Recall (record { block = block; stamp = a.stamp; keep = a.keep }))

  -- of each slot that is taken over, each node whose report isn't in is asked for it again
  abbrev pub PollsAgain : List SlotPhase → Type 0
  PollsAgain slots =
      (slot : ℕ) (taking : Taking) → slot < slot_count → slice_get slots slot ≡ Some (phase.Taking taking) → (node : NodeId) → In node (awaited taking.take)
      → SaysTo node (body.Poll (record { slot = slot; epoch = taking.epoch }))

  -- a client that serves
  pub record ClientRepeats (s : Client) : Type 0 where
    pub stores : StoresAgain s.log
    pub tells : TellsAgain s.managers s.feed

  -- the cleaner, where it serves
  pub record CleanerRepeats (s : Emptying) : Type 0 where
    pub stores : StoresAgain s.log
    pub tells : TellsAgain s.promised.managers s.feed

  -- a manager that serves
  pub record ManagerRepeats (s : Serving) : Type 0 where
    pub stores : StoresAgain s.log
    pub recalls : RecallsAgain s.slots
    pub polls : PollsAgain s.slots
    -- the registry is told again of the checkpoint whose answer is awaited
    pub registers : (done : CkptDone) → awaited_in (Serves s) ≡ Some done → SaysTo nodes.Registry (body.CkptDone done)

  -- one that awaits the maps asks for them again
  abbrev pub PhaseRepeats : Phase → Type 0
  PhaseRepeats (Down kept) = Unit {0}
  PhaseRepeats (Waiting kept hello) = SaysTo nodes.Registry (body.Hello (record { inc = kept.inc; ask = hello }))
  PhaseRepeats (Serves s) = ManagerRepeats s

  abbrev pub Repeats : AnyNode → Type 0
  Repeats (any.Client c) = (s : Client) → c.phase ≡ clients.Serving s → ClientRepeats s
  Repeats (any.Manager m) = PhaseRepeats m.phase
  Repeats (any.Server v) = Unit {0}
  Repeats (any.Cleaner c) = (s : Emptying) → c.phase ≡ cleaners.Serving s → CleanerRepeats s
  Repeats (any.Registry r) = Unit {0}

-- So it is as time passes at a node whose counters are far from their ends.
abbrev pub RepeatsInTime : AnyNode → Type 0
RepeatsInTime node = has_counters node ≡ true → Repeats (name_in node) (any_step node Tick).packets node

-- and so in each event of a run in which time passes
abbrev pub EachIsRepeated : Estate AnyNode → Type 0
EachIsRepeated e =
    (count : ℕ) (event : Event) → slice_get e.events count ≡ Some event → what_of event ≡ Tick → (node : AnyNode)
    → node_named (moment e count) (node_of event) ≡ Some node → RepeatsInTime node
