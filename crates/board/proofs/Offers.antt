-- What is offered is the command that the registry takes notice of.
use Rattle.std.proofs.Common.{◌≡◌, ℕ, Bool, true, false, Some, refl, sym, ap, ◌∙◌}
use Rattle.xfs_base.proofs.Booleans.{contrary}
use Rattle.wire_msg.specs.declared.packet.Do.{Do}
use Rattle.board.specs.Heard.{is_heard}
use Rattle.board.specs.Offering.{command_of, command_where}
use Rattle.board.proofs.WholeCommands.{command, heard_once}

where_heard : (what : Do) (item : ℕ) (heard : is_heard what ≡ true) (t : Bool) (is : is_heard what ≡ t) → Some (command what item heard) ≡ command_where what item t is
where_heard what item heard true is = ap Some (heard_once what item heard is)
where_heard what item heard false is = contrary (sym is ∙ heard)

pub heard_command : (what : Do) (item : ℕ) (heard : is_heard what ≡ true) → Some (command what item heard) ≡ command_of what item
heard_command what item heard = where_heard what item heard (is_heard what) refl
