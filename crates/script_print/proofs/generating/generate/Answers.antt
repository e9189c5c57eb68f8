use Rattle.script_print.proofs.Drawing.{drawn_again}
use Rattle.script_print.proofs.generating.generate.Goals as goal

pub returns-clause-again : goal.returns-clause-again
returns-clause-again c = drawn_again c.args.number c.args.n c.requires c.script_of.result c.script_of.ensures
