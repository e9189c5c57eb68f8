use Rattle.script_print.proofs.Printings.{again}
use Rattle.script_print.proofs.printing.print.Goals as goal

pub returns-clause-again : goal.returns-clause-again
returns-clause-again c = again c.args.script.now c.text_of.result c.text_of.ensures
