-- How a moment of a run stands to a moment of the small world of one slot's index: each node is seen there, and what packets tell of where blocks lie is so.
use Rattle.std.specs.Prelude.{◌≡◌, ◌<◌, ◌≤◌, ℕ, true}
use Rattle.node_slots.specs.node_tie.ManagerEvents.{HeldAt, Names, epoch_in, is_serving}
use Rattle.wire_msg.specs.declared.packet.Do.{Do}
use Rattle.world_base.specs.declared.cluster.Cluster.{Cluster}
use Rattle.xfs_base.specs.declared.node.NodeId.{NodeId}
use Rattle.xfs_base.specs.declared.node.NodeId.TheVariants.{Manager}
use Rattle.run_laws.specs.world_index.Standing.{Scene, holder}

-- An epoch at which nobody was active yet has got a manager in an event of the node of this name: one that serves then and knows the epoch, and that held it
-- before, or was given it in the event.
pub record Came (k : Cluster) (part : ℕ) (s t : Scene) (name : NodeId) (what : Do) (e : ℕ) : Type 0 where
  pub manager : ℕ
  pub some : 0 < manager
  pub limit : manager ≤ k.managers
  pub named : name ≡ Manager manager
  pub serves : is_serving (t.manager manager).phase ≡ true
  pub knows : e ≤ epoch_in part (t.manager manager).phase
  pub by : (HeldAt (holder part s manager) e → ⊥) → (Names part manager e what → ⊥) → ⊥
