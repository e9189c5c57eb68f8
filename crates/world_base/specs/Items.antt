-- Which node a line of a script is for.
use Rattle.std.specs.Prelude.{Bool, false, List, Option, Some, None, map, filter}
use Rattle.xfs_base.specs.declared.node.NodeId.{NodeId}
use Rattle.xfs_base.specs.declared.node.NodeId.TheVariants as nodes
use Rattle.xfs_base.specs.Nodes.{same_node}
use Rattle.version_model.specs.declared.work.Work.{Work}
use Rattle.version_model.specs.declared.work.Work.TheVariants as works
use Rattle.script_text.specs.declared.script.Line.{Line}

-- the node of whose list a work is an item: none for what the network, a board or a disk is asked
abbrev pub actor_of : Work → Option NodeId
actor_of (works.Bput client block value) = Some (nodes.Client client)
actor_of (works.Bget client block) = Some (nodes.Client client)
actor_of (works.Sync client) = Some (nodes.Client client)
actor_of (works.File client call) = Some (nodes.Client client)
actor_of (works.Crash node) = Some node
actor_of (works.Restart node) = Some node
actor_of (works.Checkpoint manager) = Some (nodes.Manager manager)
actor_of (works.Lose server) = Some (nodes.Server server)
actor_of (works.Rebuild server) = Some (nodes.Server server)
actor_of (works.Move slot manager) = Some nodes.Registry
actor_of (works.Clean count) = Some nodes.Cleaner
actor_of work = None

abbrev pub is_for_actor : NodeId → Option NodeId → Bool
is_for_actor node None = false
is_for_actor node (Some actor) = same_node actor node

-- whether a work is an item of a node's list
abbrev pub is_for : NodeId → Work → Bool
is_for node work = is_for_actor node (actor_of work)

-- what the lines of a script ask for, in their order
abbrev pub works_of : List Line → List Work
works_of lines = map (λ line. line.work) lines

-- the items of a node: what its lines ask for, in their order
abbrev pub items_of : List Line → NodeId → List Work
items_of lines node = filter (is_for node) (works_of lines)
