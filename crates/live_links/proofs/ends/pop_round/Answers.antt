use Rattle.live_links.proofs.Popping.{took_round}
use Rattle.live_links.proofs.ends.pop_round.Goals as goal

pub returns-in-None : goal.returns-in-None
returns-in-None c = took_round c.args.ends.now.items c.pop_among.new.ends.items c.pop_among-in-None.new.ends.items c.pop_among-in-None.result c.in-None.ensures c.pop_among-in-None.ensures
