-- The nodes of a run, in their order: clients, managers, servers, the cleaner, the registry.
use Rattle.std.specs.Prelude.{ℕ, ◌+◌, ◌-◌, ◌&&◌, ◌≤◌, nat_lt, nat_le, ◌==◌, List, map, Option, Some, None, if◌then◌else◌}
use Rattle.std.specs.List.{range_with_len}
use Rattle.xfs_base.specs.declared.node.NodeId.{NodeId}
use Rattle.xfs_base.specs.declared.node.NodeId.TheVariants as nodes
use Rattle.xfs_base.specs.declared.setup.Setup.{Setup}
use Rattle.world_base.specs.declared.cluster.Cluster.{Cluster}

-- the nodes that a setup names
abbrev pub cluster_of : Setup → Cluster
cluster_of setup = record { clients = setup.clients; managers = setup.managers; servers = setup.servers }

-- where the managers begin, the servers, and where the cleaner stands
abbrev pub first_manager : Cluster → ℕ
first_manager c = c.clients

abbrev pub first_server : Cluster → ℕ
first_server c = c.clients + c.managers

abbrev pub cleaner_place : Cluster → ℕ
cleaner_place c = c.clients + c.managers + c.servers

-- how many nodes there are
abbrev pub node_count : Cluster → ℕ
node_count c = cleaner_place c + 2

-- the place of the node of this number, from 1, among so many of a kind
abbrev pub place_behind : ℕ → ℕ → ℕ → Option ℕ
place_behind first count number =
    if nat_lt 0 number && nat_le number count then Some (first + number - 1) else None

-- the place of a node, where there is such a node
abbrev pub place_of : Cluster → NodeId → Option ℕ
place_of c (nodes.Client k) = place_behind 0 c.clients k
place_of c (nodes.Manager k) = place_behind (first_manager c) c.managers k
place_of c (nodes.Server k) = place_behind (first_server c) c.servers k
place_of c nodes.Cleaner = Some (cleaner_place c)
place_of c nodes.Registry = Some (cleaner_place c + 1)

-- a setup has such a node
abbrev pub HasNode : Setup → NodeId → Type 0
HasNode setup (nodes.Client k) = (1 ≤ k) × (k ≤ setup.clients)
HasNode setup (nodes.Manager k) = (1 ≤ k) × (k ≤ setup.managers)
HasNode setup (nodes.Server k) = (1 ≤ k) × (k ≤ setup.servers)
HasNode setup nodes.Cleaner = Unit {0}
HasNode setup nodes.Registry = Unit {0}

-- the node at a place
abbrev pub node_at : Cluster → ℕ → NodeId
node_at c p =
    if nat_lt p (first_manager c) then nodes.Client (p + 1)
    else if nat_lt p (first_server c) then nodes.Manager (p - first_manager c + 1)
    else if nat_lt p (cleaner_place c) then nodes.Server (p - first_server c + 1)
    else if p == cleaner_place c then nodes.Cleaner
    else nodes.Registry

-- all nodes, in their order
abbrev pub nodes_of : Cluster → List NodeId
nodes_of c = map (node_at c) (range_with_len 0 (node_count c))
