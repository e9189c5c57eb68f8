-- What clients and the cleaner write at a moment of a run, as their nodes stand there; and that no fall waits of a client that serves.
use Rattle.std.proofs.Common.{◌≡◌, ℕ, Bool, true, List, [], Some, sym, subst}
use Rattle.std.specs.List.{AllByRecursion}
use Rattle.cleaner_node.specs.declared.cleaner.Cleaner.{Cleaner as CleanerNode}
use Rattle.client_node.specs.declared.client.Client.{Client as ClientNode}
use Rattle.core_world.specs.AnyNode.{any_start, any_step}
use Rattle.core_world.specs.declared.any_node.AnyNode.{AnyNode}
use Rattle.core_world.specs.declared.any_node.AnyNode.TheVariants as any
use Rattle.node_slots.proofs.node_tie.SmallWorld.{with_promise}
use Rattle.run_laws.specs.segment_tie.Cleaners.{CleanerWrites}
use Rattle.run_laws.specs.segment_tie.Clients.{ClientWrites}
use Rattle.run_laws.specs.segment_tie.Runs.{PacketTellsVersion, RunsWriteCopies, RunsWriteOriginals}
use Rattle.token_law.proofs.Apart.{falls_kept}
use Rattle.token_law.specs.Net.{Net, Runs, opening}
use Rattle.version_model.specs.declared.act.Act.{Act}
use Rattle.version_model.specs.Effects.{history_after}
use Rattle.version_model.specs.History.{nothing_yet}
use Rattle.world_base.specs.Cluster.{place_of}
use Rattle.world_base.specs.declared.cluster.Cluster.{Cluster}
use Rattle.world_base.specs.declared.estate.Estate.{Estate}
use Rattle.world_base.specs.Runs.{IsRun}
use Rattle.headline.specs.Moments.{moment, node_in}
use Rattle.xfs_base.specs.declared.node.NodeId.TheVariants.{Client, Cleaner}

module _ (e : Estate AnyNode) (run : IsRun any_step any_start e.script e.events e.world) (k : Cluster) (count : ℕ)
    (cluster : (moment e count).cluster ≡ k) where
  -- a client that stands at its place writes what is its own
  pub clients_write_then : RunsWriteOriginals → (c : ℕ) (node : ClientNode)
      → node_in (moment e count).nodes (place_of k (Client c)) ≡ Some (any.Client node) → ClientWrites node.phase
  clients_write_then law c node there =
      law e run count (Client c) (any.Client node)
      (subst (λ (x : Cluster). node_in (moment e count).nodes (place_of x (Client c)) ≡ Some (any.Client node)) (sym cluster) there)

  -- the cleaner writes copies, where managers that told of live blocks told versions from 1 on
  pub cleaner_writes_then : RunsWriteCopies → AllByRecursion PacketTellsVersion (moment e count).sent → (node : CleanerNode)
      → node_in (moment e count).nodes (place_of k Cleaner) ≡ Some (any.Cleaner node) → CleanerWrites node.phase
  cleaner_writes_then law tell node there =
      law e run count tell Cleaner (any.Cleaner node)
      (subst (λ (x : Cluster). node_in (moment e count).nodes (place_of x Cleaner) ≡ Some (any.Cleaner node)) (sym cluster) there)

-- no fall waits of a client that serves
pub serving_told : (logs : Bool) (members part : ℕ) (n : Net) (acts : List Act) → Runs logs members part opening (with_promise 1 n) → n.acts ≡ acts → (c : ℕ)
    → n.up c ≡ true → (history_after acts nothing_yet).told c ≡ []
serving_told logs members part n acts runs fact c up =
    subst (λ (a : List Act). (history_after a nothing_yet).told c ≡ []) fact ((falls_kept logs members part (with_promise 1 n) runs).waits c up)
