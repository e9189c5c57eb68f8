-- How many lines of each node came so far.
use Rattle.std.specs.Prelude.{◌≡◌, ℕ, min, List, Option, Some, None, unwrap_or}
use Rattle.std.specs.List.{count_by}
use Rattle.std.specs.Map.{lookup}
use Rattle.std.specs.BTreeMap.{is_at, insert_entry}
use Rattle.script_text.specs.declared.script.Line.{Line}
use Rattle.world_base.specs.Items.{actor_of, is_for, works_of}
use Rattle.xfs_base.specs.declared.node.NodeId.{NodeId}
use Rattle.xfs_base.specs.Nodes.{node_cmp}
use Rattle.xfs_base.specs.Limits.{u32_end}
use Rattle.transcript.specs.Text.{number_behind}

-- the number of each node's last item, in order of nodes; at most the greatest number
abbrev pub Numbers : Type 0
Numbers = List (NodeId × ℕ)

abbrev pub last_of : Numbers → NodeId → ℕ
last_of numbers node = unwrap_or (lookup (is_at (node_cmp node)) numbers) 0

abbrev pub next_of : Numbers → NodeId → ℕ
next_of numbers node = number_behind (last_of numbers node)

abbrev pub numbers_next : Numbers → NodeId → Numbers
numbers_next numbers node = insert_entry node_cmp numbers node (next_of numbers node)

abbrev pub behind_item : Numbers → Option NodeId → Numbers
behind_item numbers None = numbers
behind_item numbers (Some node) = numbers_next numbers node

-- a line more
abbrev pub behind_line : Numbers → Line → Numbers
behind_line numbers line = behind_item numbers (actor_of line.work)

-- the numbers are those of the lines that came so far
abbrev pub AreOf : Numbers → List Line → Type 0
AreOf numbers before = (node : NodeId) → last_of numbers node ≡ min (count_by (is_for node) (works_of before)) u32_end
