-- The small world of the first slot beside a run, for what is so of each slot.
use Rattle.std.proofs.Common.{◌≡◌, ℕ, ◌<◌, false, arith}
use Rattle.core_world.specs.AnyNode.{any_start, any_step}
use Rattle.core_world.specs.declared.any_node.AnyNode.{AnyNode}
use Rattle.node_base.specs.Setups.{IsSetup}
use Rattle.node_slots.specs.node_tie.RegistryEvents.{RegistrySound}
use Rattle.run_laws.proofs.world_law.Laws.{NodeLaws, front}
use Rattle.headline.specs.Moments.{moment}
use Rattle.run_laws.specs.world_law.Standing.{Scene, Stands}
use Rattle.world_base.specs.Cluster.{cluster_of}
use Rattle.world_base.specs.declared.estate.Estate.{Estate}
use Rattle.world_base.specs.Runs.{IsRun}
use Rattle.xfs_base.specs.Limits.{slot_count}

module _ (laws : NodeLaws) (e : Estate AnyNode) (setup : IsSetup e.script.setup) (run : IsRun any_step any_start e.script e.events e.world) (count : ℕ) where
  pub first_slot : 0 < slot_count
  first_slot = omega arith

  abbrev pub scene : Scene
  scene = (front laws e setup run count 0 first_slot).1.0

  pub stands : Stands false (cluster_of e.script.setup) 0 (moment e count).nodes (moment e count).sent (moment e count).acts RegistrySound scene
  stands = (front laws e setup run count 0 first_slot).1.1

  pub cluster_is : (moment e count).cluster ≡ cluster_of e.script.setup
  cluster_is = (front laws e setup run count 0 first_slot).0
