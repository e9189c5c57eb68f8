-- The order by which tables of nodes and of items are kept is that of nodes and items.
use mathlib.Core.Path.{fun_ext}
use Rattle.std.proofs.Common.{◌≡◌, refl, ap}
use Rattle.std.specs.Ordering.{nat_cmp, ordering_then}
use Rattle.std.specs.declared.cmp.Ordering.{Ordering}
use Rattle.xfs_base.specs.Nodes.{node_cmp}
use Rattle.xfs_base.specs.declared.node.NodeId.{NodeId}
use Rattle.xfs_base.specs.declared.node.NodeId.TheVariants.{Client, Manager, Server, Cleaner, Registry}
use Rattle.xfs_base.specs.contracts.node.NodeIdOrd.TheImpl.{cmp-value}
use Rattle.transcript.specs.contracts.replies.ItemNameOrd.TheImpl.{cmp-value as item-cmp-value}
use Rattle.transcript.specs.declared.replies.ItemName.{ItemName}
use Rattle.transcript.specs.Replies.{item_cmp}

abbrev pub derived_node_cmp : NodeId → NodeId → Ordering
derived_node_cmp = cmp-value.it

pub node_by_node : (a b : NodeId) → derived_node_cmp a b ≡ node_cmp a b
node_by_node (Client n) (Client m) = refl
node_by_node (Client n) (Manager m) = refl
node_by_node (Client n) (Server m) = refl
node_by_node (Client n) Cleaner = refl
node_by_node (Client n) Registry = refl
node_by_node (Manager n) (Client m) = refl
node_by_node (Manager n) (Manager m) = refl
node_by_node (Manager n) (Server m) = refl
node_by_node (Manager n) Cleaner = refl
node_by_node (Manager n) Registry = refl
node_by_node (Server n) (Client m) = refl
node_by_node (Server n) (Manager m) = refl
node_by_node (Server n) (Server m) = refl
node_by_node (Server n) Cleaner = refl
node_by_node (Server n) Registry = refl
node_by_node Cleaner (Client m) = refl
node_by_node Cleaner (Manager m) = refl
node_by_node Cleaner (Server m) = refl
node_by_node Cleaner Cleaner = refl
node_by_node Cleaner Registry = refl
node_by_node Registry (Client m) = refl
node_by_node Registry (Manager m) = refl
node_by_node Registry (Server m) = refl
node_by_node Registry Cleaner = refl
node_by_node Registry Registry = refl

pub node_order : derived_node_cmp ≡ node_cmp
node_order = fun_ext (λ a. fun_ext (node_by_node a))

abbrev pub derived_item_cmp : ItemName → ItemName → Ordering
derived_item_cmp = item-cmp-value.it

pub item_by_item : (a b : ItemName) → derived_item_cmp a b ≡ item_cmp a b
item_by_item a b = ap (λ o. ordering_then o (nat_cmp a.number b.number)) (node_by_node a.node b.node)

pub item_order : derived_item_cmp ≡ item_cmp
item_order = fun_ext (λ a. fun_ext (item_by_item a))
