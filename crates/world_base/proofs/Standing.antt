-- Each place of a cluster has a node that its setup names.
use Rattle.std.proofs.Common.{◌≡◌, refl, ℕ, ◌+◌, ◌-◌, true, false, cond, ◌==◌, nat_lt, arith}
use Rattle.std.proofs.lemmas.Bool.Decides.{nat_tests}
use Rattle.xfs_base.specs.declared.node.NodeId.TheVariants as nodes
use Rattle.xfs_base.specs.declared.setup.Setup.{Setup}
use Rattle.world_base.specs.Cluster.{HasNode, cleaner_place, cluster_of, first_manager, first_server, node_at}

module _ (setup : Setup) (p : ℕ) where
  last_stands : HasNode setup (cond (p == cleaner_place (cluster_of setup)) nodes.Cleaner nodes.Registry)
  last_stands = elim (p == cleaner_place (cluster_of setup)) as (λ t. HasNode setup (cond t nodes.Cleaner nodes.Registry)) [ true ↦ tt | false ↦ tt ]

  server_stands : nat_lt p (first_server (cluster_of setup)) ≡ false
      → HasNode setup
      (cond (nat_lt p (cleaner_place (cluster_of setup))) (nodes.Server (p - first_server (cluster_of setup) + 1))
      (cond (p == cleaner_place (cluster_of setup)) nodes.Cleaner nodes.Registry))
  server_stands behind =
      elim (nat_lt p (cleaner_place (cluster_of setup))) as (λ t. nat_lt p (cleaner_place (cluster_of setup)) ≡ t
      → HasNode setup
      (cond t (nodes.Server (p - first_server (cluster_of setup) + 1)) (cond (p == cleaner_place (cluster_of setup)) nodes.Cleaner nodes.Registry))) [
        | true ↦ λ e. (grind (arith, nat_tests), grind (arith, nat_tests))
        | false ↦ λ e. last_stands
      ] refl

  manager_stands : nat_lt p (first_manager (cluster_of setup)) ≡ false
      → HasNode setup (cond (nat_lt p (first_server (cluster_of setup))) (nodes.Manager (p - first_manager (cluster_of setup) + 1))
      (cond (nat_lt p (cleaner_place (cluster_of setup))) (nodes.Server (p - first_server (cluster_of setup) + 1))
      (cond (p == cleaner_place (cluster_of setup)) nodes.Cleaner nodes.Registry)))
  manager_stands behind =
      elim (nat_lt p (first_server (cluster_of setup))) as (λ t. nat_lt p (first_server (cluster_of setup)) ≡ t
      → HasNode setup (cond t (nodes.Manager (p - first_manager (cluster_of setup) + 1))
      (cond (nat_lt p (cleaner_place (cluster_of setup))) (nodes.Server (p - first_server (cluster_of setup) + 1))
      (cond (p == cleaner_place (cluster_of setup)) nodes.Cleaner nodes.Registry)))) [
        | true ↦ λ e. (grind (arith, nat_tests), grind (arith, nat_tests))
        | false ↦ λ e. server_stands e
      ] refl

  pub stands : HasNode setup (node_at (cluster_of setup) p)
  stands =
      elim (nat_lt p (first_manager (cluster_of setup))) as (λ t. nat_lt p (first_manager (cluster_of setup)) ≡ t
      → HasNode setup
      (cond t (nodes.Client (p + 1)) (cond (nat_lt p (first_server (cluster_of setup))) (nodes.Manager (p - first_manager (cluster_of setup) + 1))
      (cond (nat_lt p (cleaner_place (cluster_of setup))) (nodes.Server (p - first_server (cluster_of setup) + 1))
      (cond (p == cleaner_place (cluster_of setup)) nodes.Cleaner nodes.Registry))))) [
        | true ↦ λ e. (omega arith, grind (arith, nat_tests))
        | false ↦ λ e. manager_stands e
      ] refl
