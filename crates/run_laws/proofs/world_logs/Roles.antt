-- No two owners of logs are one node, and no two logs have one number.
use Rattle.std.proofs.Common.{◌≡◌, ◌+◌, ◌≤◌, ◌<◌, ℕ, min, arith}
use Rattle.manager_slots.specs.Lasting.{log_of}
use Rattle.headline.specs.Logs.{IsThere, Role, owner_by}
use Rattle.xfs_base.specs.declared.node.NodeId.TheVariants.{Server, Registry}
use Rattle.xfs_base.specs.Limits.{block_logs, most_clients, most_managers}

pub no_server : (r : Role) (v : ℕ) → owner_by r ≡ Server v → ⊥
no_server (Role.OfClient c) v e = absurd cc
no_server Role.OfCleaner v e = absurd cc
no_server (Role.OfManager j) v e = absurd cc

pub no_registry : (r : Role) → owner_by r ≡ Registry → ⊥
no_registry (Role.OfClient c) e = absurd cc
no_registry Role.OfCleaner e = absurd cc
no_registry (Role.OfManager j) e = absurd cc

pub clients_log : (clients managers c : ℕ) → clients ≤ most_clients → IsThere clients managers (Role.OfClient c) → c ≤ most_clients
clients_log clients managers c few there = (let m = there.1 in omega arith)

-- the log of a manager is above 9, and each has its own
pub managers_log : (clients managers j : ℕ) → managers ≤ most_managers → IsThere clients managers (Role.OfManager j) → (log_of j).0 ≡ block_logs + j
managers_log clients managers j few there = (let m = there.1 in by_min j (omega arith))
  where
    by_min : (j : ℕ) → j ≤ most_managers → block_logs + min j most_managers ≡ block_logs + j
    by_min j less = omega arith

pub high_log : (j : ℕ) → 0 < j → block_logs < (log_of j).0
high_log j some = omega arith
