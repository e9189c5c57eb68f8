use Rattle.board.proofs.Offers.{heard_command}
use Rattle.board.proofs.command.Command.of.Goals as goal

pub returns-then-is_heard : goal.returns-then-is_heard
returns-then-is_heard c = heard_command c.args.what c.args.item _
