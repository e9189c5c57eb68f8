use Rattle.std.proofs.Common.{subst}
use Rattle.live_links.specs.Ends.{Sends}
use Rattle.live_links.proofs.ends.Outs.push_all.Goals as goal

pub returns : goal.returns
returns c = subst (λ old. Sends c.args.cluster old c.args.letters c.push_each.new.ends.items) c.self.view_is c.push_each.ensures
