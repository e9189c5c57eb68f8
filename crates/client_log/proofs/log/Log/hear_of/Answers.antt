use Rattle.std.proofs.Common.{◌≡◌, cond, None, ap, ◌∙◌}
use Rattle.log_flight.specs.Fate.{fate_of}
use Rattle.log_flight.specs.Flights.{FlightState, flight_note}
use Rattle.client_log.specs.LogState.{LogState}
use Rattle.client_log.specs.Looks.{due}
use Rattle.client_log.proofs.log.Log.hear_of.Goals as goal

pub returns : goal.returns
returns c =
    let s : LogState = c.args.self.now in
    let f : FlightState = c.args.flight.now in
    let fate : c.fate.result ≡ fate_of s.groups (flight_note f c.args.index) =
    c.fate.ensures ∙ ap (λ (l : LogState). fate_of l.groups (record f { noted = c.noted_with.result })) c.self.view_is
    ∙ ap (λ n. fate_of s.groups (record f { noted = n })) c.noted_with.ensures
    in
    c.due.ensures ∙ ap (due s f) fate ∙ ap (λ b. cond b (due s f (fate_of s.groups (flight_note f c.args.index))) None) c.if-not-is_of.ensures
