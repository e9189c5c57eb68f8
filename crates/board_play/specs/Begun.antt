-- Which items are begun in a run with boards.
use Rattle.std.specs.Prelude.{◌≡◌, ◌≤◌, ℕ, not, List, filter, length}
use Rattle.script_text.specs.declared.script.Line.{Line}
use Rattle.xfs_base.specs.declared.node.NodeId.{NodeId}
use Rattle.xfs_base.specs.declared.node.NodeId.TheVariants.{Registry}
use Rattle.xfs_base.specs.Nodes.{same_node}
use Rattle.world_base.specs.declared.event.Event.{Event}
use Rattle.world_base.specs.Items.{items_of}
use Rattle.world_base.specs.Runs.{begins_of, begun_in}
use Rattle.play.specs.Plays.{actors_of}

-- the nodes that aren't the registry
abbrev pub far_of : List NodeId → List NodeId
far_of nodes = filter (λ node. not (same_node node Registry)) nodes

-- Each node but the registry begins its items, each once and none left out. The registry begins its first so many: an item whose Begin isn't chosen, or is chosen
-- only where it isn't the next, is left out, and so is what stands behind it.
pub record BeginsAllFar (lines : List Line) (events : List Event) : Type 0 where
  pub far : (node : NodeId) → (node ≡ Registry → ⊥) → begins_of node events ≡ length (items_of lines node)
  pub registry : begins_of Registry events ≤ length (items_of lines Registry)

-- and those of all other nodes are begun in the order of their lines
abbrev pub InOrderFar : List Line → List Event → Type 0
InOrderFar lines events = far_of (begun_in events) ≡ far_of (actors_of lines)
