-- What the delivery of packets makes of a scene. Nothing is said here of what else a stage has: from every stage whose nodes are those of the scene, the
-- packets are delivered so, and its nodes are those of the next scene then.
use Rattle.std.specs.Prelude.{◌≡◌, ◌-◌, ◌++◌, ℕ, List}
use Rattle.core_world.specs.AnyNode.{any_step}
use Rattle.core_world.specs.declared.any_node.AnyNode.{AnyNode}
use Rattle.play.specs.Plays.{answers}
use Rattle.quiet_flow.specs.Flow.{Delivers, Drains, Stage}
use Rattle.version_model.specs.declared.act.Act.{Act}
use Rattle.version_model.specs.declared.work.Work.{Work}
use Rattle.wire_msg.specs.declared.packet.Packet.{Packet}
use Rattle.world_base.specs.Cluster.{HasNode}
use Rattle.xfs_base.specs.declared.node.NodeId.{NodeId}
use Rattle.xfs_base.specs.declared.setup.Setup.{Setup}
use Rattle.quiet_nodes.specs.Scene.{Scene, node_at}

module _ (setup : Setup) (works : NodeId → List Work) where
  -- each node that there is stands as the scene has it
  abbrev pub IsPlaced : Scene → (NodeId → AnyNode) → Type 0
  IsPlaced s node = (name : NodeId) → HasNode setup name → node name ≡ node_at setup works s name

  -- but for one node, two scenes are the same
  abbrev pub IsFrame : NodeId → Scene → Scene → Type 0
  IsFrame name s t = (other : NodeId) → (other ≡ name → ⊥) → node_at setup works s other ≡ node_at setup works t other

  -- a later stage has the nodes of the next scene, and this was acted on the way
  pub record IsAfter (t : Stage AnyNode) (done : List Act) (u : Scene) (end : Stage AnyNode) : Type 0 where
    pub placed : IsPlaced u end.node
    pub acted : end.acts ≡ t.acts ++ done
    pub answered : end.unanswered ≡ t.unanswered - answers done

  pub record Moved (t : Stage AnyNode) (layer outs : List Packet) (done : List Act) (u : Scene) : Type 0 where
    pub end : Stage AnyNode
    pub delivers : Delivers any_step setup t layer outs end
    pub is_after : IsAfter t done u end

  -- a layer of packets leads from a scene to the next: it sends these packets, and this is acted
  abbrev pub Moves : Scene → List Packet → List Packet → List Act → Scene → Type 0
  Moves s layer outs done u = (t : Stage AnyNode) → IsPlaced s t.node → Moved t layer outs done u

  pub record Emptied (n : ℕ) (t : Stage AnyNode) (waiting : List Packet) (done : List Act) (u : Scene) : Type 0 where
    pub end : Stage AnyNode
    pub drains : Drains any_step setup n t waiting end
    pub is_after : IsAfter t done u end

  -- with so many deliveries all that waits is delivered, and all that this sends
  abbrev pub Empties : ℕ → Scene → List Packet → List Act → Scene → Type 0
  Empties n s waiting done u = (t : Stage AnyNode) → IsPlaced s t.node → Emptied n t waiting done u
