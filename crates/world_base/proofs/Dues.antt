-- There is a due for each item of a node.
use Rattle.std.proofs.Common.{◌≡◌, refl, sym, ap, subst, ◌∙◌, ℕ, suc, Bool, true, false, cond, List, [], ◌∷◌, length, Result, Ok, Err}
use Rattle.std.specs.Prelude.{IfOk}
use Rattle.xfs_base.specs.declared.node.NodeId.{NodeId}
use Rattle.script_text.specs.declared.script.Line.{Line}
use Rattle.world_base.specs.declared.due.Due.{Due}
use Rattle.world_base.specs.Dues.{dues_of}
use Rattle.world_base.specs.Items.{is_for, items_of}

one_more : (line : Line) (lines : List Line) (node : NodeId) (mine : Bool) → is_for node line.work ≡ mine
    → length (dues_of lines node) ≡ length (items_of lines node) → length (dues_of (line ∷ lines) node) ≡ length (items_of (line ∷ lines) node)
one_more line lines node true is rest = rw is (ap suc rest)
one_more line lines node false is rest = rw is rest

pub due_for_each : (lines : List Line) (node : NodeId) → length (dues_of lines node) ≡ length (items_of lines node)
due_for_each [] node = refl
due_for_each (line ∷ lines) node = one_more line lines node (is_for node line.work) refl (due_for_each lines node)
