-- What a board may be offered.
use Rattle.std.specs.Prelude.{◌≡◌, refl, ℕ, Bool, true, false, Option, Some, None}
use Rattle.wire_msg.specs.declared.packet.Do.{Do}
use Rattle.board.specs.declared.command.Command.{Command}
use Rattle.board.specs.Heard.{is_heard}

abbrev pub command_where : (what : Do) → ℕ → (heard : Bool) → is_heard what ≡ heard → Option Command
command_where what item true heard = Some (record { what = what; item = item; heard = heard })
command_where what item false heard = None

-- that this happens to the registry, as a command; none where the registry takes no notice of it
abbrev pub command_of : Do → ℕ → Option Command
command_of what item = command_where what item (is_heard what) refl
