use Rattle.manager_node.proofs.beginning.serving_wish.Goals as goal

pub returns-in-Crash-clause-state : goal.returns-in-Crash-clause-state
returns-in-Crash-clause-state c = rw c.in-Crash.is c.crash_serving.ensures.state
