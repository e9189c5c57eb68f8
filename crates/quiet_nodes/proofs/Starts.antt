-- Before the first event each node is as the first scene has it.
use Rattle.std.proofs.Common.{◌≡◌, ◌≤◌, List, refl}
use Rattle.core_world.specs.AnyNode.{any_start}
use Rattle.version_model.specs.declared.work.Work.{Work}
use Rattle.xfs_base.specs.declared.node.NodeId.{NodeId}
use Rattle.xfs_base.specs.declared.node.NodeId.TheVariants.{Client, Manager, Server, Cleaner, Registry}
use Rattle.xfs_base.specs.declared.setup.Setup.{Setup}
use Rattle.quiet_nodes.specs.Scene.{node_at}
use Rattle.quiet_nodes.specs.Start.{start_scene}
use Rattle.quiet_nodes.proofs.Tests.{zero_test}

module _ (setup : Setup) (works : NodeId → List Work) (managers : 1 ≤ setup.managers) where
  pub starts_as : (name : NodeId) → any_start name setup (works name) ≡ node_at setup works start_scene name
  starts_as (Client c) = refl
  starts_as (Manager j) = rw (zero_test setup.managers managers) refl
  starts_as (Server v) = refl
  starts_as Cleaner = refl
  starts_as Registry = refl
