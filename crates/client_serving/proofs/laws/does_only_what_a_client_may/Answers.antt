use Rattle.client_serving.proofs.Behaving.{packet_so, tick_so}
use Rattle.client_serving.proofs.laws.does_only_what_a_client_may.Goals as goal

pub returns-clause-packet : goal.returns-clause-packet
returns-clause-packet c = packet_so

pub returns-clause-tick : goal.returns-clause-tick
returns-clause-tick c = tick_so
