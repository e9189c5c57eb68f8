use Rattle.std.proofs.Common.{◌≡◌, List, [], ◌∷◌, ◌++◌, Option, Some, None, OnOk, sym, ap, subst, ◌∙◌, append_assoc}
use Rattle.xfs_base.specs.Steps.{still}
use Rattle.segment_format.specs.declared.segment.Segment.{Segment}
use Rattle.segment_format.specs.Rows.{rows_of}
use Rattle.log_flight.specs.declared.flight.Fate.TheVariants.{Settle}
use Rattle.log_flight.specs.Flights.{FlightState}
use Rattle.client_log.specs.declared.output.Out.{Out}
use Rattle.client_log.specs.declared.output.Out.TheVariants.{Settled}
use Rattle.client_log.specs.LogState.{LogState}
use Rattle.client_log.specs.Looks.{log_follow}
use Rattle.client_log.specs.Transition.{Done, end_of, landed_at, log_go_on, followed, settled}
use Rattle.client_log.proofs.log.Log.settle.Goals as goal

pub returns-clause-outs : goal.returns-clause-outs
unfolding log_follow settled
returns-clause-outs c =
    let s : LogState = c.args.self.now in
    let f : FlightState = c.in-Some.flight in
    let before : List Out = c.args.outs.now in
    let told : Segment → List Out = λ x. Settled (end_of x) (rows_of x) ∷ [] in
    let was : s.flight ≡ Some f = sym (ap (λ (l : LogState). l.flight) c.self.view_is) ∙ c.in-Some.is in
    let due : Option FlightState → Done = λ o. elim o [ None ↦ still s | Some g ↦ followed s g Settle ] in
    subst (λ outs. OnOk c.land.result (c.land.new.outs ≡ outs))
    (ap (λ outs. outs ++ (log_go_on (landed_at s c.in_ok-end.end)).outs) c.in_ok-end.ensures.outs
    ∙ append_assoc before (told c.segment.result.now) (log_go_on (landed_at s c.in_ok-end.end)).outs
    ∙ ap (λ e. before ++ (told c.segment.result.now ++ (log_go_on (landed_at s e)).outs)) c.in_ok-end.ensures.end
    ∙ ap (λ x. before ++ (told x ++ (log_go_on (landed_at s (end_of x))).outs)) c.segment.ensures
    ∙ ap (λ o. before ++ (due o).outs) (sym was))
    c.land.ensures.outs
