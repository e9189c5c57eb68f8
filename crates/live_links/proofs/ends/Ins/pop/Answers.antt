use Rattle.std.proofs.Common.{subst}
use Rattle.live_links.specs.Ends.{AreStill, TookOne}
use Rattle.live_links.proofs.Popping.{still_none}
use Rattle.live_links.proofs.ends.Ins.pop.Goals as goal

pub returns-then-quiet : goal.returns-then-quiet
returns-then-quiet c = still_none c.args.self.now

pub returns-in-None : goal.returns-in-None
returns-in-None c = subst (λ old. AreStill old c.pop_round.new.ends.items) c.self.view_is c.in-None.ensures

pub returns-in-Some : goal.returns-in-Some
returns-in-Some c = subst (λ old. TookOne old c.in-Some.letter c.pop_round.new.ends.items) c.self.view_is (c.in-Some.place, c.in-Some.ensures)
