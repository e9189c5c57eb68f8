use Rattle.std.proofs.Common.{◌≡◌, IfOk, length, get_or, ap, subst, ◌∙◌, arith}
use Rattle.xfs_base.specs.declared.fragment.Fragment.{Fragment}
use Rattle.log_flight.specs.Flights.{FlightState}
use Rattle.log_flight.specs.Fragments.{flight_fragment, fragments_over}
use Rattle.log_flight.proofs.FragmentLists.{length-fragments_over, get_or-fragments_over}
use Rattle.log_flight.proofs.flight.Flight.fragment.Goals as goal

pub bounds-as_slice-place : goal.bounds-as_slice-place
bounds-as_slice-place c =
    let members : length c.self.inside.group.members ≡ length c.args.self.now.group.members = ap (λ (f : FlightState). length f.group.members) c.self.view_is in
    omega (
      arith,
      ap length c.as_slice.ensures,
      ap length c.self.invariant.pieces,
      length-fragments_over c.self.inside.segment c.self.inside.group c.self.invariant.cut,
    )

pub returns : goal.returns
returns c =
    let members : length c.self.inside.group.members ≡ length c.args.self.now.group.members = ap (λ (f : FlightState). length f.group.members) c.self.view_is in
    let whole : c.as_slice.result.now ≡ fragments_over c.self.inside.segment c.self.inside.group = c.as_slice.ensures ∙ c.self.invariant.pieces in
    let one : c.index-as_slice-place.result ≡ flight_fragment c.self.inside.segment c.self.inside.group c.args.place =
    c.index-as_slice-place.is ∙ ap (λ fs. get_or fs c.args.place c.index-as_slice-place.result) whole
    ∙ get_or-fragments_over c.self.inside.segment c.self.inside.group c.args.place c.index-as_slice-place.result c.self.invariant.cut (omega arith) in
    rw (← c.self.view_is) (subst (λ (x : Fragment). IfOk c.copy.result (λ f. f ≡ x)) one c.copy.ensures)
