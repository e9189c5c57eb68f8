-- Which commands are in a list.
use Rattle.std.specs.Prelude.{Bool, not, List, [], ◌∷◌, Option, Some, None, if◌then◌else◌, filter}
use Rattle.std.specs.List.{list_any}
use Rattle.board.specs.declared.command.Command.{Command}
use Rattle.board.specs.Comparing.{same_command}

-- whether a command is in a list
abbrev pub is_in : Command → List Command → Bool
is_in command list = list_any (same_command command) list

-- the first command that isn't in a list
abbrev pub first_outside : List Command → List Command → Option Command
first_outside list [] = None
first_outside list (command ∷ rest) = if is_in command list then first_outside list rest else Some command

-- the commands that aren't in a list, in order
abbrev pub without : List Command → List Command → List Command
without list commands = filter (λ command. not (is_in command list)) commands
