use Rattle.std.proofs.Common.{◌≡◌, true, subst}
use Rattle.board.specs.Comparing.{same_command}
use Rattle.board.proofs.WholeCommands.{command_is, command_itself}
use Rattle.board.proofs.laws.commands_are_compared_whole.Goals as goal

pub returns : goal.returns
returns c = λ a b. (command_is a b, λ same. subst (λ x. same_command a x ≡ true) same (command_itself a))
