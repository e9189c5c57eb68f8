use Rattle.live_links.specs.Ends.{AreStill}
use Rattle.live_links.proofs.ends.pop_among.Given as goal

abbrev pub invariant-loop-place : goal.invariant-loop-place
invariant-loop-place l = AreStill l.fn.ends.items l.ends.items
