use Rattle.log_owner.proofs.Keeping.{packet_so, tick_so}
use Rattle.log_owner.proofs.laws.opening_takes_nothing_back.Goals as goal

pub returns-clause-packet : goal.returns-clause-packet
returns-clause-packet c = packet_so

pub returns-clause-tick : goal.returns-clause-tick
returns-clause-tick c = tick_so
