-- What is true of each segment in flight.
use Rattle.std.specs.Prelude.{◌≡◌, List, length}
use Rattle.xfs_base.specs.declared.fragment.Fragment.{Fragment}
use Rattle.segment_format.specs.Text.{KeepsLimits}
use Rattle.stripe_code.specs.Stripe.{IsCut}
use Rattle.log_flight.specs.Flights.{FlightState}
use Rattle.log_flight.specs.Fragments.{fragments_over}

-- the segment has a text, the group is one that a text is cut over, and these fragments are the segment's over the group
pub record IsFlown (f : FlightState) (fragments : List Fragment) : Type 0 where
  pub limits : KeepsLimits f.segment
  pub cut : IsCut (length f.group.members) f.group.parity
  pub pieces : fragments ≡ fragments_over f.segment f.group
