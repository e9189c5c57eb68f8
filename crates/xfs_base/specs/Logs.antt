-- Which log a node writes, and which node writes a log.
use Rattle.std.specs.Prelude.{ℕ, ◌+◌, ◌-◌, ◌≤◌, ◌==◌, nat_lt, min, if◌then◌else◌}
use Rattle.xfs_base.specs.declared.node.NodeId.{NodeId}
use Rattle.xfs_base.specs.declared.node.NodeId.TheVariants.{Client, Manager, Server, Cleaner, Registry}
use Rattle.xfs_base.specs.declared.segment.LogId.{LogId}
use Rattle.xfs_base.specs.Limits.{most_clients, most_managers, block_logs}

-- the log of a node: a client's has the client's own number, the cleaner's is the last of those that say where blocks lie, and
-- a manager's stands behind it, by the number of the manager, of which a run has four at most; 0 where the node writes no log
abbrev pub log_of : NodeId → LogId
log_of (Client n) = record { 0 = n }
log_of (Manager n) = record { 0 = block_logs + min n most_managers }
log_of (Server n) = record { 0 = 0 }
log_of Cleaner = record { 0 = block_logs }
log_of Registry = record { 0 = 0 }

abbrev pub cleaner_log : LogId
cleaner_log = log_of Cleaner

-- the number of the cleaner's log
abbrev pub cleaners_number : ℕ
cleaners_number = cleaner_log.0

-- a node that writes a log: a client, a manager or the cleaner, numbered as a cluster may have them
abbrev pub WritesLog : NodeId → Type 0
WritesLog (Client n) = (1 ≤ n) × (n ≤ most_clients)
WritesLog (Manager n) = (1 ≤ n) × (n ≤ most_managers)
WritesLog (Server n) = ⊥
WritesLog Cleaner = Unit {0}
WritesLog Registry = ⊥

-- the node that writes a log which says where blocks lie: the cleaner or a client
abbrev pub block_writer : ℕ → NodeId
block_writer log = if log == block_logs then Cleaner else Client log

-- the node that writes a log: behind those that say where blocks lie stand the managers'
abbrev pub writer_of : ℕ → NodeId
writer_of log = if nat_lt block_logs log then Manager (log - block_logs) else block_writer log
