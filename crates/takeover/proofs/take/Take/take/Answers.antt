use Rattle.takeover.proofs.Starting.{starts-outs}
use Rattle.takeover.proofs.take.Take.take.Goals as goal

pub returns-clause-starts : goal.returns-clause-starts
returns-clause-starts c = starts-outs c.step.result c.args.self.now c.args.input c.step.ensures.outs
