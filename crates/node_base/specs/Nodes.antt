-- The nodes of a run.
use Rattle.std.specs.Prelude.{ℕ, ◌+◌, Bool, true, ◌&&◌, not, nat_le, List, [], ◌∷◌, ◌++◌, Option, Some, None, map, filter}
use Rattle.std.specs.List.{range_with_len}
use Rattle.xfs_base.specs.declared.node.NodeId.{NodeId}
use Rattle.xfs_base.specs.declared.node.NodeId.TheVariants.{Client, Manager, Server, Cleaner, Registry}
use Rattle.xfs_base.specs.declared.setup.Setup.{Setup}
use Rattle.xfs_base.specs.Nodes.{same_node}
use Rattle.node_base.specs.declared.peers.Peers.{Peers}

-- the nodes of a setup
abbrev pub peers_of : Setup → Peers
peers_of setup = record { clients = setup.clients; managers = setup.managers; servers = setup.servers }

abbrev pub is_one_of : ℕ → ℕ → Bool
is_one_of count number = nat_le 1 number && nat_le number count

-- whether there is such a node
abbrev pub has_node : Peers → NodeId → Bool
has_node peers (Client number) = is_one_of peers.clients number
has_node peers (Manager number) = is_one_of peers.managers number
has_node peers (Server number) = is_one_of peers.servers number
has_node peers Cleaner = true
has_node peers Registry = true

-- the number of a server; none where the node is no server
abbrev pub server_in : NodeId → Option ℕ
server_in (Server number) = Some number
server_in (Client number) = None
server_in (Manager number) = None
server_in Cleaner = None
server_in Registry = None

-- the client after so many
abbrev pub nth_client : ℕ → NodeId
nth_client before = Client (before + 1)

abbrev pub clients : ℕ → List NodeId
clients count = map nth_client (range_with_len 0 count)

-- the manager after so many
abbrev pub nth_manager : ℕ → NodeId
nth_manager before = Manager (before + 1)

abbrev pub managers : ℕ → List NodeId
managers count = map nth_manager (range_with_len 0 count)

-- the server after so many
abbrev pub nth_server : ℕ → NodeId
nth_server before = Server (before + 1)

abbrev pub servers : ℕ → List NodeId
servers count = map nth_server (range_with_len 0 count)

-- all nodes, in order
abbrev pub peers_all : Peers → List NodeId
peers_all peers = clients peers.clients ++ (managers peers.managers ++ (servers peers.servers ++ Cleaner ∷ Registry ∷ []))

abbrev pub is_other : NodeId → NodeId → Bool
is_other node other = not (same_node other node)

-- all nodes but this one, in order
abbrev pub others : Peers → NodeId → List NodeId
others peers node = filter (is_other node) (peers_all peers)
