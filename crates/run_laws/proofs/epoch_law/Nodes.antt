-- At a moment at which both small worlds stand they have the same nodes.
use Rattle.std.proofs.Common.{◌≡◌, ℕ, ◌≤◌, ◌<◌, List, Option, None, Some, refl, sym, ap, ◌∙◌}
use Rattle.core_world.specs.declared.any_node.AnyNode.{AnyNode}
use Rattle.core_world.specs.declared.any_node.AnyNode.TheVariants as any
use Rattle.manager_node.specs.declared.manager.Manager.{Manager as ManagerNode}
use Rattle.registry_node.specs.declared.node.RegistryNode.{RegistryNode}
use Rattle.world_base.specs.Cluster.{place_of}
use Rattle.world_base.specs.declared.cluster.Cluster.{Cluster}
use Rattle.run_laws.proofs.world_law.Places.{behind}
use Rattle.run_laws.proofs.world_law.Turns.{one_node}
use Rattle.headline.specs.Moments.{node_in}
use Rattle.xfs_base.specs.declared.node.NodeId.TheVariants.{Manager}

-- the node, where it is a manager, or the registry
abbrev manager_or : ManagerNode → AnyNode → ManagerNode
manager_or other (any.Manager m) = m
manager_or other (any.Client m) = other
manager_or other (any.Server m) = other
manager_or other (any.Cleaner m) = other
manager_or other (any.Registry m) = other

abbrev registry_or : RegistryNode → AnyNode → RegistryNode
registry_or other (any.Registry r) = r
registry_or other (any.Client m) = other
registry_or other (any.Manager m) = other
registry_or other (any.Server m) = other
registry_or other (any.Cleaner m) = other

pub one_manager : (a b : ManagerNode) (o : Option AnyNode) → o ≡ Some (any.Manager a) → o ≡ Some (any.Manager b) → a ≡ b
one_manager a b o at_a at_b = ap (manager_or a) (one_node (any.Manager a) (any.Manager b) (sym at_a ∙ at_b))

pub one_registry : (a b : RegistryNode) (o : Option AnyNode) → o ≡ Some (any.Registry a) → o ≡ Some (any.Registry b) → a ≡ b
one_registry a b o at_a at_b = ap (registry_or a) (one_node (any.Registry a) (any.Registry b) (sym at_a ∙ at_b))

-- a manager that stands somewhere is one of the cluster's
pub record IsOne (k : Cluster) (j : ℕ) : Type 0 where
  pub some : 0 < j
  pub limit : j ≤ k.managers

pub is_one : (k : Cluster) (nodes : List AnyNode) (j : ℕ) (node : AnyNode) → node_in nodes (place_of k (Manager j)) ≡ Some node → IsOne k j
is_one k nodes j node fact = by (place_of k (Manager j)) refl
  where
    by : (o : Option ℕ) → place_of k (Manager j) ≡ o → IsOne k j
    by None none = let clash : None ≡ Some node = sym (ap (node_in nodes) none) ∙ fact in absurd (cc)
    by (Some p) at = let b = behind k.clients k.managers j p at in record { some = b.some; limit = b.within }
