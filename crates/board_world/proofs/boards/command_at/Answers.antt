use Rattle.std.proofs.Common.{ap, ◌∙◌}
use Rattle.board.specs.Offering.{command_of}
use Rattle.board_world.specs.NextBoards.{command_at}
use Rattle.board_world.proofs.boards.command_at.Goals as goal

pub returns : goal.returns
unfolding command_at
returns c = c.of.ensures ∙ ap (λ what. command_of what c.args.item) c.in_ok-copy.ensures
