use Rattle.log_flight.proofs.TextTests.{tests_text}
use Rattle.log_flight.proofs.texts.has_text.Goals as goal

pub returns-clause-exact : goal.returns-clause-exact
returns-clause-exact c = tests_text c.args.items.now c.passes.result c.passes.ensures
