-- What a log sends of its flight are fragments.
use Rattle.std.proofs.Common.{ℕ, ◌+◌, List, [], ◌∷◌}
use Rattle.std.specs.List.{AllByRecursion}
use Rattle.client_log.specs.Transition.{send_at, sends, sending_send}
use Rattle.group_map.specs.declared.group.Member.{Member}
use Rattle.log_flight.specs.Flights.{FlightState, is_noted}
use Rattle.node_moves.proofs.client_walk.LogTurns.{IsSend}
use Rattle.xfs_base.proofs.Booleans.{by_test}
use Rattle.xfs_base.proofs.Alls.{all_append}

sends_send : (f : FlightState) (ms : List Member) (place : ℕ) → AllByRecursion IsSend (sends f ms place)
sends_send f [] place = tt
sends_send f (m ∷ ms) place = all_append IsSend (send_at f m place) (sends f ms (place + 1))
    (by_test (AllByRecursion IsSend) (is_noted f.noted place) [] _ (λ _. tt) (λ _. (tt, tt))) (sends_send f ms (place + 1))

pub all_send : (f : FlightState) → AllByRecursion IsSend (sending_send f)
unfolding sending_send
all_send f = sends_send f f.group.members 0
