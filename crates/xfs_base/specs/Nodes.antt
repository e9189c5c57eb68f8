-- The order of nodes.
use Rattle.std.specs.Prelude.{ℕ, Bool}
use Rattle.std.specs.Ordering.{is_eq, nat_cmp, ordering_then}
use Rattle.std.specs.declared.cmp.Ordering.{Ordering}
use Rattle.xfs_base.specs.declared.node.NodeId.{NodeId}
use Rattle.xfs_base.specs.declared.node.NodeId.TheVariants.{Client, Manager, Server, Cleaner, Registry}

-- clients, managers, servers, the cleaner, the registry
abbrev pub kind_rank : NodeId → ℕ
kind_rank (Client n) = 0
kind_rank (Manager n) = 1
kind_rank (Server n) = 2
kind_rank Cleaner = 3
kind_rank Registry = 4

-- the number among the nodes of its kind, 0 where there is one alone
abbrev pub number_of : NodeId → ℕ
number_of (Client n) = n
number_of (Manager n) = n
number_of (Server n) = n
number_of Cleaner = 0
number_of Registry = 0

-- by kind, then by number
abbrev pub node_cmp : NodeId → NodeId → Ordering
node_cmp a b = ordering_then (nat_cmp (kind_rank a) (kind_rank b)) (nat_cmp (number_of a) (number_of b))

-- both name one node
abbrev pub same_node : NodeId → NodeId → Bool
same_node a b = is_eq (node_cmp a b)
