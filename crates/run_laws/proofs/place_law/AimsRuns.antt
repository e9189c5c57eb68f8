-- In every run each client reads a block where its fetch has it.
use Rattle.std.proofs.Common.{◌≡◌, ℕ, zero, suc, List, [], ◌∷◌, Option, None, Some, map, take}
use Rattle.std.specs.List.{AllByRecursion, fold}
use Rattle.client_node.specs.declared.client.Client.{Client}
use Rattle.core_world.specs.AnyNode.{any_start, any_step}
use Rattle.core_world.specs.declared.any_node.AnyNode.{AnyNode}
use Rattle.core_world.specs.declared.any_node.AnyNode.TheVariants as any
use Rattle.run_laws.proofs.filed_law.Telling.{all_got, all_set}
use Rattle.script_text.specs.declared.script.Script.{Script}
use Rattle.version_model.specs.declared.work.Work.{Work}
use Rattle.wire_msg.specs.declared.packet.Do.{Do}
use Rattle.world_base.specs.Cluster.{cluster_of, nodes_of, place_of}
use Rattle.world_base.specs.declared.event.Event.{Event}
use Rattle.world_base.specs.declared.world.World.{World}
use Rattle.world_base.specs.Events.{what_of}
use Rattle.world_base.specs.NextWorld.{first_node, next_world, start_world}
use Rattle.run_laws.proofs.world_law.Turning.{next_keeps}
use Rattle.headline.specs.Moments.{moment, node_in}
use Rattle.xfs_base.specs.declared.node.NodeId.{NodeId}
use Rattle.xfs_base.specs.declared.node.NodeId.TheVariants as nodes
use Rattle.xfs_base.specs.declared.setup.Setup.{Setup}
use Rattle.run_laws.specs.place_law.Fetches.{PhaseReadsItsFetch, RunsReadTheirFetches}
use Rattle.run_laws.proofs.place_law.AimsClients.{clients_keep_so, clients_start_so}

-- of other nodes nothing is said
abbrev AnyReads : AnyNode → Type 0
AnyReads (any.Client node) = PhaseReadsItsFetch node.phase
AnyReads (any.Manager node) = Unit {0}
AnyReads (any.Server node) = Unit {0}
AnyReads (any.Cleaner node) = Unit {0}
AnyReads (any.Registry node) = Unit {0}

any_starts : (node : NodeId) (setup : Setup) (items : List Work) → AnyReads (any_start node setup items)
any_starts (nodes.Client number) setup items = clients_start_so number setup items
any_starts (nodes.Manager number) setup items = tt
any_starts (nodes.Server number) setup items = tt
any_starts nodes.Cleaner setup items = tt
any_starts nodes.Registry setup items = tt

any_keeps : (node : AnyNode) (what : Do) → AnyReads node → AnyReads (any_step node what).node
any_keeps (any.Client node) what h = clients_keep_so node what h
any_keeps (any.Manager node) what h = tt
any_keeps (any.Server node) what h = tt
any_keeps (any.Cleaner node) what h = tt
any_keeps (any.Registry node) what h = tt

abbrev AllRead : World AnyNode → Type 0
AllRead w = AllByRecursion AnyReads w.nodes

first_ones : (script : Script) (ids : List NodeId) → AllByRecursion AnyReads (map (first_node any_start script) ids)
first_ones script [] = tt
first_ones script (id ∷ ids) = (any_starts id script.setup _, first_ones script ids)

start_reads : (script : Script) → AllRead (start_world any_start script)
unfolding start_world
start_reads script = first_ones script (nodes_of (cluster_of script.setup))

event_reads : (w : World AnyNode) (event : Event) → AllRead w → AllRead (next_world any_step w event)
event_reads w event h =
    next_keeps any_step (λ xs sent acts. AllByRecursion AnyReads xs) w event h
    (λ place node clock at fact.
    all_set AnyReads w.nodes place (any_step node (what_of event)).node h (any_keeps node (what_of event) (all_got AnyReads w.nodes place node h fact)))

front_reads : (events : List Event) (count : ℕ) (w : World AnyNode) → AllRead w → AllRead (fold (next_world any_step) w (take count events))
front_reads [] zero w h = h
front_reads [] (suc count) w h = h
front_reads (event ∷ more) zero w h = h
front_reads (event ∷ more) (suc count) w h = front_reads more count (next_world any_step w event) (event_reads w event h)

named_reads : (xs : List AnyNode) (o : Option ℕ) (node : Client) → AllByRecursion AnyReads xs → node_in xs o ≡ Some (any.Client node)
    → PhaseReadsItsFetch node.phase
named_reads xs None node all fact = absurd (let clash : None ≡ Some (any.Client node) = fact in cc)
named_reads xs (Some place) node all fact = all_got AnyReads xs place (any.Client node) all fact

pub runs_read_their_fetches : RunsReadTheirFetches
runs_read_their_fetches e count c node fact =
    named_reads (moment e count).nodes (place_of (moment e count).cluster (nodes.Client c)) node
    (front_reads e.events count (start_world any_start e.script) (start_reads e.script)) fact
