-- What the clients and the cleaner report: what clients hold, and how far their logs reach.
use Rattle.std.specs.Prelude.{ℕ, ◌+◌, ◌-◌, Bool, not, List, [], ◌∷◌, ◌++◌, map, filter, max, slice_index, if◌then◌else◌}
use Rattle.std.specs.List.{list_any, flat_map, range_with_len}
use Rattle.xfs_base.specs.Limits.{block_logs}
use Rattle.xfs_base.specs.Logs.{block_writer}
use Rattle.xfs_base.specs.Nodes.{same_node}
use Rattle.xfs_base.specs.declared.block.BlockId.{BlockId}
use Rattle.xfs_base.specs.declared.node.NodeId.{NodeId}
use Rattle.xfs_base.specs.declared.node.NodeId.TheVariants.{Client, Manager, Server, Cleaner, Registry}
use Rattle.xfs_base.specs.declared.segment.End.{End}
use Rattle.xfs_base.specs.declared.token.Mode.{Mode}
use Rattle.takeover.specs.declared.report.Report.{Report}
pub use Rattle.xfs_base.specs.Segments.{no_end}

abbrev pub client_after : ℕ → NodeId
client_after before = Client (before + 1)

-- the nodes that are polled: the clients in order, then the cleaner
abbrev pub polled : ℕ → List NodeId
polled clients = map client_after (range_with_len 0 clients) ++ Cleaner ∷ []

abbrev pub is_heard : List Report → NodeId → Bool
is_heard reports node = list_any (λ r. same_node r.from node) reports

-- those of these nodes whose report is not in
abbrev pub unheard : List Report → List NodeId → List NodeId
unheard reports nodes = filter (λ node. not (is_heard reports node)) nodes

-- those that are polled and whose report is not in, in order
abbrev pub awaited_of : ℕ → List Report → List NodeId
awaited_of clients reports = unheard reports (polled clients)

-- ---- how far the logs reach

-- the end that a node reported
abbrev pub end_from : NodeId → List Report → End
end_from node [] = no_end
end_from node (r ∷ rest) = if same_node r.from node then r.end else end_from node rest

-- the reported end of a log
abbrev pub end_of : List Report → ℕ → End
end_of reports log = end_from (block_writer log) reports

-- the first number of a log that the checkpoint does not cover
abbrev pub horizon_at : List ℕ → ℕ → ℕ
horizon_at horizon log = slice_index horizon (log - 1)

-- up to which number a log is in the index: its reported end, or what the checkpoint covers, where that is more
abbrev pub applied_at : List ℕ → List Report → ℕ → ℕ
applied_at horizon reports log = max (end_of reports log).seq (horizon_at horizon log - 1)

-- by log, of those that say where blocks lie, from log 1 on
unfoldable pub applied_of : List ℕ → List Report → List ℕ
applied_of horizon reports = map (applied_at horizon reports) (range_with_len 1 block_logs)

-- ---- who is believed to hold what

abbrev pub with_client : ℕ → BlockId × Mode → BlockId × ℕ × Mode
with_client client held = (held.0, client, held.1)

-- what a client reports to hold
abbrev pub held_by : NodeId → List (BlockId × Mode) → List (BlockId × ℕ × Mode)
held_by (Client n) held = map (with_client n) held
held_by (Manager n) held = []
held_by (Server n) held = []
held_by Cleaner held = []
held_by Registry held = []

abbrev pub beliefs_of : List Report → List (BlockId × ℕ × Mode)
beliefs_of reports = flat_map (λ r. held_by r.from r.held) reports
