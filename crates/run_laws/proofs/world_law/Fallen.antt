-- While a client that fell with a block isn't back, no client holds the block: so it is in the small world, in which its tokens have the block dirty. And falls
-- are apart, since its acts are those of the run.
use Rattle.std.proofs.Common.{◌≡◌, ℕ, ◌<◌, false, subst, arith}
use Rattle.version_model.specs.Falls.{FallsApart}
use Rattle.token_client.specs.State.{TokensState, held_of}
use Rattle.node_slots.proofs.node_tie.SmallWorld.{with_promise}
use Rattle.token_law.specs.Laws.{FallsAreApart, NobodyHoldsAfterFall}
use Rattle.world_base.specs.Cluster.{cluster_of}
use Rattle.world_base.specs.declared.cluster.Cluster.{Cluster}
use Rattle.world_base.specs.declared.world.World.{World}
use Rattle.run_laws.proofs.world_law.WaitingFalls.{WaitsDirty}
use Rattle.run_laws.proofs.world_law.Laws.{GoodWorld, NodeLaws, front, slot_scene, slot_serves, slot_stands}
use Rattle.run_laws.proofs.world_law.RegistryTurns.{slot_below}
use Rattle.run_laws.specs.world_law.Standing.{members}
use Rattle.run_laws.specs.world_law.Fallen.{EveryRunHasFallsApart, NobodyHoldsWhatFell}
use Rattle.headline.specs.Falls.{NobodyHolds}
use Rattle.headline.specs.Moments.{moment}
use Rattle.core_world.specs.declared.any_node.AnyNode.{AnyNode}
use Rattle.xfs_base.specs.Blocks.{slot_of}
use Rattle.xfs_base.specs.Modes.{is_held}
use Rattle.xfs_base.proofs.Booleans.{equal_itself}
use Rattle.xfs_base.specs.Limits.{slot_count}

module _ (laws : NodeLaws) (small : NobodyHoldsAfterFall) where
  nobody_now : (w : World AnyNode) (k : Cluster) → w.cluster ≡ k → ((part : ℕ) (of_eight : part < slot_count) → GoodWorld laws k part of_eight w) → NobodyHolds w
  nobody_now w k cluster good b c d t fallen at_d =
      let part = slot_of b.ino.0 in
      let waits : WaitsDirty (members k part) (slot_scene laws w k good b).net b c = (good part (slot_below b.ino.0)).2 b c fallen in
      let y = slot_serves laws w k good b cluster d t at_d in
      subst (λ (x : TokensState). is_held (held_of x.blocks b).mode ≡ false) y.tokens
      (small false (members k part) part (with_promise 1 (slot_scene laws w k good b).net) b
      (record { run = (slot_stands laws w k good b).runs; inside = equal_itself part }) c d
      (record { some = waits.some; within = waits.within }) y.client waits.down waits.dirty y.up)

  pub nobody_holds : NobodyHoldsWhatFell
  nobody_holds e setup run count =
      nobody_now (moment e count) (cluster_of e.script.setup) (front laws e setup run count 0 (omega arith)).0
      (λ part of_eight. (front laws e setup run count part of_eight).1)

-- the acts of a run are those of the small world, in which falls are apart
pub falls_apart : NodeLaws → FallsAreApart → EveryRunHasFallsApart
falls_apart laws small e setup run count =
    (let good = (front laws e setup run count 0 (omega arith)).1 in
    subst FallsApart good.1.acts (small false (members (cluster_of e.script.setup) 0) 0 (with_promise 1 good.0.net) good.1.runs))
