-- The shelves of nodes, before the first event and after each.
use Rattle.std.specs.Prelude.{Option, Some, None}
use Rattle.fragment_store.specs.ShelfState.{ShelfState, new_shelf}
use Rattle.shelf_changes.specs.Changes.{ChangesByOne}
use Rattle.wire_msg.specs.declared.packet.Do.{Do}
use Rattle.xfs_base.specs.declared.node.NodeId.{NodeId}
use Rattle.xfs_base.specs.declared.node.NodeId.TheVariants.{Server}

-- a server begins with an empty shelf, and no other node has one
abbrev pub first_shelf : NodeId → Option ShelfState
first_shelf (Server number) = Some new_shelf
first_shelf _ = None

-- an event neither gives nor takes a shelf, and changes one by one call at most
abbrev pub ShelvesChange : Do → Option ShelfState → Option ShelfState → Type 0
ShelvesChange what None None = Unit {0}
ShelvesChange what None (Some new) = ⊥
ShelvesChange what (Some old) None = ⊥
ShelvesChange what (Some old) (Some new) = ChangesByOne what old new
