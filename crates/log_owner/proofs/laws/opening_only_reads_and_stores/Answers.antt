use Rattle.log_owner.proofs.Behaving.{begin_so, packet_so, tick_so}
use Rattle.log_owner.proofs.laws.opening_only_reads_and_stores.Goals as goal

pub returns-clause-start : goal.returns-clause-start
returns-clause-start c = begin_so

pub returns-clause-packet : goal.returns-clause-packet
returns-clause-packet c = packet_so

pub returns-clause-tick : goal.returns-clause-tick
returns-clause-tick c = tick_so
