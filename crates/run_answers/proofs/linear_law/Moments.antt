-- What is so of each node at one moment of a run, and is kept by each event of a node, is so at each later moment.
use Rattle.std.proofs.Common.{◌≡◌, ℕ, zero, suc, ◌+◌, List, Option, Some, None, slice_get, refl, sym, ap, subst, ◌∙◌, arith}
use Rattle.core_world.specs.AnyNode.{any_start, any_step}
use Rattle.core_world.specs.declared.any_node.AnyNode.{AnyNode}
use Rattle.version_model.specs.declared.work.Work.{Work}
use Rattle.world_base.specs.Cluster.{cluster_of, place_of}
use Rattle.world_base.specs.declared.estate.Estate.{Estate}
use Rattle.world_base.specs.declared.event.Event.{Event}
use Rattle.world_base.specs.declared.world.World.{World}
use Rattle.world_base.specs.Events.{node_of, what_of}
use Rattle.world_base.specs.Items.{items_of}
use Rattle.world_base.specs.NextWorld.{next_world, start_world}
use Rattle.run_laws.proofs.world_law.Everyone.{everyone_so}
use Rattle.run_laws.proofs.world_law.Start.{first_stands}
use Rattle.run_laws.proofs.world_law.Turning.{next_cluster, next_keeps}
use Rattle.run_laws.proofs.world_reads.Taking.{moment_next}
use Rattle.headline.specs.Moments.{moment, node_in, node_named}
use Rattle.xfs_base.specs.declared.node.NodeId.{NodeId}
use Rattle.run_answers.proofs.act_law.Runs.{moment_first, moment_past}

-- it is so of each node
abbrev pub AllSo : (NodeId → AnyNode → Type 0) → World AnyNode → Type 0
AllSo P w = (name : NodeId) (x : AnyNode) → node_named w name ≡ Some x → P name x

module _ (e : Estate AnyNode) (P : NodeId → AnyNode → Type 0)
    (steps : (count : ℕ) (event : Event) (x : AnyNode) → node_named (moment e count) (node_of event) ≡ Some x → P (node_of event) x
    → P (node_of event) (any_step x (what_of event)).node) where
  event_so : (count : ℕ) (event : Event) → AllSo P (moment e count) → AllSo P (next_world any_step (moment e count) event)
  event_so count event all =
      let w : World AnyNode = moment e count in
      subst (λ k. (name : NodeId) (x : AnyNode) → node_in (next_world any_step w event).nodes (place_of k name) ≡ Some x → P name x)
      (sym (next_cluster any_step w event))
      (next_keeps any_step (λ xs sent acts. (name : NodeId) (x : AnyNode) → node_in xs (place_of w.cluster name) ≡ Some x → P name x) w event all
      (λ place x clock at fact.
      (let there : node_named w (node_of event) ≡ Some x = ap (node_in w.nodes) at ∙ fact in
      everyone_so w.cluster w.nodes (node_of event) place at x (any_step x (what_of event)).node fact P
      (steps count event x there (all (node_of event) x there)) (λ name y differs was. all name y was))))

  pub next_so : (count : ℕ) → AllSo P (moment e count) → AllSo P (moment e (suc count))
  next_so count all = by (slice_get e.events count) refl
    where
      by : (o : Option Event) → slice_get e.events count ≡ o → AllSo P (moment e (suc count))
      by None fact = subst (AllSo P) (sym (moment_past e count fact)) all
      by (Some event) fact = subst (AllSo P) (sym (moment_next e count event fact)) (event_so count event all)

  pub later_so : (more count later : ℕ) → later ≡ more + count → AllSo P (moment e count) → AllSo P (moment e later)
  later_so zero count later same all = (let is : count ≡ later = omega arith in subst (λ n. AllSo P (moment e n)) is all)
  later_so (suc more) count later same all = (let is : later ≡ more + suc count = omega arith in later_so more (suc count) later is (next_so count all))

  -- ---- from the start on

  module _ (starts : (name : NodeId) (works : List Work) → P name (any_start name e.script.setup works)) where
    same_node : (a b : AnyNode) → Some a ≡ Some b → a ≡ b
    same_node a b fact = cc

    start_so : AllSo P (start_world any_start e.script)
    unfolding start_world
    start_so name x = by (place_of (cluster_of e.script.setup) name) refl
      where
        by : (o : Option ℕ) → place_of (cluster_of e.script.setup) name ≡ o → node_in (start_world any_start e.script).nodes o ≡ Some x → P name x
        by None at fact = absurd cc
        by (Some p) at fact =
            let here : node_in (start_world any_start e.script).nodes (Some p) ≡ Some (any_start name e.script.setup (items_of e.script.lines name)) =
            ap (node_in (start_world any_start e.script).nodes) (sym at) ∙ first_stands e.script name p at in
            subst (P name) (same_node (any_start name e.script.setup (items_of e.script.lines name)) x (sym here ∙ fact))
            (starts name (items_of e.script.lines name))

    pub each_so : (count : ℕ) → AllSo P (moment e count)
    each_so zero = subst (AllSo P) (sym (moment_first e)) start_so
    each_so (suc count) = next_so count (each_so count)
