-- Each event of the world keeps it that its owners of logs write so: so they do at each moment of each run.
use Rattle.std.proofs.Common.{◌≡◌, ℕ, zero, suc, List, [], ◌∷◌, Option, Some, None, map, take}
use Rattle.std.specs.List.{AllByRecursion, fold}
use Rattle.core_world.specs.AnyNode.{any_start, any_step}
use Rattle.core_world.specs.declared.any_node.AnyNode.{AnyNode}
use Rattle.core_world.specs.declared.any_node.AnyNode.TheVariants as any
use Rattle.run_laws.proofs.filed_law.Telling.{all_got, all_set}
use Rattle.node_tellings.proofs.filed_tie.Frames.{all_before}
use Rattle.node_slots.specs.node_tie.AskingEvents.{PhaseAsks}
use Rattle.node_slots.proofs.node_tie.AsksEvents.{first_asks, phase_asks}
use Rattle.script_text.specs.declared.script.Script.{Script}
use Rattle.version_model.specs.declared.act.Act.{Act}
use Rattle.version_model.specs.declared.work.Work.{Work}
use Rattle.wire_msg.specs.declared.packet.Do.{Do}
use Rattle.wire_msg.specs.declared.packet.Packet.{Packet}
use Rattle.world_base.specs.Cluster.{cluster_of, nodes_of}
use Rattle.world_base.specs.declared.event.Event.{Event}
use Rattle.world_base.specs.declared.event.Event.TheVariants.{Begin, Deliver, Tick}
use Rattle.world_base.specs.declared.world.World.{World}
use Rattle.world_base.specs.Cluster.{place_of}
use Rattle.world_base.specs.Events.{what_of}
use Rattle.world_base.specs.NextWorld.{first_node, next_world, sent_at, start_world}
use Rattle.world_base.specs.Runs.{Leads, MayHappen}
use Rattle.headline.specs.Moments.{moment, node_in}
use Rattle.run_laws.proofs.world_law.Turning.{next_keeps}
use Rattle.xfs_base.specs.declared.node.NodeId.{NodeId}
use Rattle.xfs_base.specs.declared.node.NodeId.TheVariants as nodes
use Rattle.xfs_base.specs.declared.setup.Setup.{Setup}
use Rattle.run_laws.specs.segment_tie.Cleaners.{BringsVersions}
use Rattle.run_laws.specs.segment_tie.Clients.{ClientWrites}
use Rattle.run_laws.specs.segment_tie.Runs.{NodeWrites, NodeCopies, PacketTellsVersion, RunsWriteOriginals, RunsWriteCopies}
use Rattle.run_laws.proofs.segment_tie.Cleaners.{cleaner_starts, cleaner_writes}
use Rattle.run_laws.proofs.segment_tie.Clients.{client_starts, clients_write}
use Rattle.run_laws.proofs.segment_tie.Managers.{manager_starts, managers_write}

-- ---- one node

-- a client that asks for its call, or a manager
abbrev Stands : AnyNode → Type 0
Stands (any.Client node) = PhaseAsks node.phase × ClientWrites node.phase
Stands (any.Manager node) = NodeWrites (any.Manager node)
Stands _ = Unit {0}

stands_first : (node : NodeId) (setup : Setup) (items : List Work) → Stands (any_start node setup items)
stands_first (nodes.Client number) setup items = (first_asks number setup items, client_starts number setup items)
stands_first (nodes.Manager number) setup items = manager_starts number setup items
stands_first (nodes.Server number) setup items = tt
stands_first nodes.Cleaner setup items = tt
stands_first nodes.Registry setup items = tt

copies_first : (node : NodeId) (setup : Setup) (items : List Work) → NodeCopies (any_start node setup items)
copies_first (nodes.Client number) setup items = tt
copies_first (nodes.Manager number) setup items = tt
copies_first (nodes.Server number) setup items = tt
copies_first nodes.Cleaner setup items = cleaner_starts setup items
copies_first nodes.Registry setup items = tt

stands_on : (node : AnyNode) (what : Do) → Stands node → Stands (any_step node what).node
stands_on (any.Client node) what h = (phase_asks node what h.0, clients_write node what h.0 h.1)
stands_on (any.Manager node) what h = managers_write node what h
stands_on (any.Server node) what h = tt
stands_on (any.Cleaner node) what h = tt
stands_on (any.Registry node) what h = tt

copies_on : (node : AnyNode) (what : Do) → BringsVersions what → NodeCopies node → NodeCopies (any_step node what).node
copies_on (any.Client node) what fact h = tt
copies_on (any.Manager node) what fact h = tt
copies_on (any.Server node) what fact h = tt
copies_on (any.Cleaner node) what fact h = cleaner_writes node what fact h
copies_on (any.Registry node) what fact h = tt

writes : (node : AnyNode) → Stands node → NodeWrites node
writes (any.Client node) h = h.1
writes (any.Manager node) h = h
writes (any.Server node) h = tt
writes (any.Cleaner node) h = tt
writes (any.Registry node) h = tt

-- ---- one event

-- the cleaner writes so where what was sent tells versions from 1 on
abbrev AllSo : List AnyNode → List Packet → List Act → Type 0
AllSo all sent acts = AllByRecursion Stands all × (AllByRecursion PacketTellsVersion sent → AllByRecursion NodeCopies all)

abbrev WorldSo : World AnyNode → Type 0
WorldSo w = AllSo w.nodes w.sent w.acts

delivered : (w : World AnyNode) (event : Event) → MayHappen w event → AllByRecursion PacketTellsVersion w.sent → BringsVersions (what_of event)
delivered w (Begin node) may all = tt
delivered w (Deliver packet) may all = all_got PacketTellsVersion w.sent may.0 packet all may.1
delivered w (Tick node) may all = tt

event_keeps : (w : World AnyNode) (event : Event) → MayHappen w event → WorldSo w → WorldSo (next_world any_step w event)
event_keeps w event may h =
    next_keeps any_step AllSo w event h (λ place node clock at fact.
    let what : Do = what_of event in
    let more : List Packet = map (sent_at clock) (any_step node what).packets in (
      all_set Stands w.nodes place (any_step node what).node h.0 (stands_on node what (all_got Stands w.nodes place node h.0 fact)),
      λ all.
          let before : AllByRecursion PacketTellsVersion w.sent = all_before PacketTellsVersion w.sent more all in
          all_set NodeCopies w.nodes place (any_step node what).node (h.1 before)
          (copies_on node what (delivered w event may before) (all_got NodeCopies w.nodes place node (h.1 before) fact)),
    ))

-- ---- runs

first_stand : (script : Script) (ids : List NodeId) → AllByRecursion Stands (map (first_node any_start script) ids)
first_stand script [] = tt
first_stand script (id ∷ ids) = (stands_first id script.setup _, first_stand script ids)

first_copy : (script : Script) (ids : List NodeId) → AllByRecursion NodeCopies (map (first_node any_start script) ids)
first_copy script [] = tt
first_copy script (id ∷ ids) = (copies_first id script.setup _, first_copy script ids)

start_so : (script : Script) → WorldSo (start_world any_start script)
unfolding start_world
start_so script = (first_stand script (nodes_of (cluster_of script.setup)), λ all. first_copy script (nodes_of (cluster_of script.setup)))

front : (events : List Event) (count : ℕ) (w end : World AnyNode) → Leads any_step w events end → WorldSo w
    → WorldSo (fold (next_world any_step) w (take count events))
front [] zero w end leads h = h
front [] (suc count) w end leads h = h
front (event ∷ events) zero w end leads h = h
front (event ∷ events) (suc count) w end leads h = front events count (next_world any_step w event) end leads.1 (event_keeps w event leads.0 h)

-- the node of a name is among the nodes
found : (P : AnyNode → Type 0) (all : List AnyNode) (place : Option ℕ) (node : AnyNode) → AllByRecursion P all → node_in all place ≡ Some node → P node
found P all None node h fact = (let clash : None ≡ Some node = fact in absurd (cc))
found P all (Some place) node h fact = all_got P all place node h fact

pub runs_write : RunsWriteOriginals
runs_write e run count name node fact =
    let w : World AnyNode = moment e count in
    writes node (found Stands w.nodes (place_of w.cluster name) node
    (front e.events count (start_world any_start e.script) e.world run (start_so e.script)).0 fact)

pub runs_copy : RunsWriteCopies
runs_copy e run count all name node fact =
    let w : World AnyNode = moment e count in
    found NodeCopies w.nodes (place_of w.cluster name) node
    ((front e.events count (start_world any_start e.script) e.world run (start_so e.script)).1 all) fact
