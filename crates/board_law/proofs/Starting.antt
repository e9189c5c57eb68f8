-- Before the first event the registry stands in the world as it starts.
use Rattle.std.proofs.Common.{◌≡◌, ℕ, zero, suc, ◌+◌, ◌<◌, List, refl, sym, ap, ◌∙◌, arith}
use Rattle.std.specs.Prelude.{Some, replicate, slice_get}
use Rattle.script_text.specs.declared.script.Script.{Script}
use Rattle.version_model.specs.declared.work.Work.{Work}
use Rattle.wire_msg.specs.declared.packet.Do.{Do}
use Rattle.wire_msg.specs.NodeStep.{NodeStep}
use Rattle.xfs_base.specs.declared.node.NodeId.{NodeId}
use Rattle.xfs_base.specs.declared.node.NodeId.TheVariants.{Registry}
use Rattle.xfs_base.specs.declared.setup.Setup.{Setup}
use Rattle.world_base.specs.Cluster.{cleaner_place, cluster_of, node_count}
use Rattle.world_base.specs.Items.{items_of}
use Rattle.world_base.specs.NextWorld.{first_node, start_world}
use Rattle.world_base.proofs.Places.{node_there}
use Rattle.world_base.proofs.Starting.{first_at_place}
use Rattle.board_world.specs.Replicas.{replica_start}
use Rattle.board_law.specs.OneRun.{HasRegistry}
use Rattle.board_law.proofs.Worlds.{InWorld}

zeros_at : (n k : ℕ) → k < n → slice_get {X = ℕ} (replicate n 0) k ≡ Some 0
zeros_at zero k lt = absurd (omega arith)
zeros_at (suc n) zero lt = refl
zeros_at (suc n) (suc k) lt = zeros_at n k (omega arith)

module _ {N : Type 0} (step : N → Do → NodeStep N) (first : NodeId → Setup → List Work → N) (has : HasRegistry step first) (script : Script) where
  pub starts_in_world : InWorld step has.of (start_world first script) (replica_start script)
  unfolding start_world
  starts_in_world =
      let c = cluster_of script.setup in
      let p = cleaner_place c + 1 in
      record {
        node =
            first_at_place first script p (omega arith)
            ∙ ap (λ node. Some (first_node first script node)) (sym (node_there c Registry p refl))
            ∙ ap Some (has.starts script.setup (items_of script.lines Registry));
        clock = zeros_at (node_count c) p (omega arith);
      }
