use Rattle.std.proofs.Common.{sym, ◌∙◌}
use Rattle.node_base.proofs.SetupTests.{is_right}
use Rattle.node_base.proofs.setups.is_setup.Goals as goal

pub returns-clause-right : goal.returns-clause-right
returns-clause-right c = λ t. is_right c.args.setup.now (sym c.passes.ensures ∙ t)
