-- When the items of a node may be begun, in a run with threads.
use Rattle.std.specs.Prelude.{Bool, true, false, List, map, filter}
use Rattle.xfs_base.specs.declared.node.NodeId.{NodeId}
use Rattle.version_model.specs.declared.work.Work.{Work}
use Rattle.version_model.specs.declared.work.Work.TheVariants as works
use Rattle.script_text.specs.declared.script.Line.{Line}
use Rattle.world_base.specs.declared.due.Due.{Due}
use Rattle.world_base.specs.Items.{is_for}

-- a crash and a loss of a disk come to a node also where its earlier items have no answer yet
abbrev pub is_free : Work → Bool
is_free (works.Crash node) = true
is_free (works.Lose server) = true
is_free work = false

-- when the item of a line may be begun
abbrev pub due_of : Line → Due
due_of line = record { after = line.after; free = is_free line.work }

-- whether a line is for a node
abbrev pub is_line_for : NodeId → Line → Bool
is_line_for node line = is_for node line.work

-- when each item of a node may be begun, in the order of its items
abbrev pub dues_of : List Line → NodeId → List Due
dues_of lines node = map due_of (filter (is_line_for node) lines)
