-- What the owner of a log holds of it, the segment that it has in flight and what it has read back, was in flight; what was in flight is of the log; and
-- what is listed is of what was in flight.
use Rattle.std.specs.Prelude.{◌≡◌, List, IfSome}
use Rattle.client_log.specs.LogState.{LogState}
use Rattle.log_flight.specs.Flights.{FlightState}
use Rattle.log_protocol.specs.Tables.{In}
use Rattle.log_tie.specs.Setting.{Setting}
use Rattle.segment_format.specs.declared.segment.Segment.{Segment}
use Rattle.log_law.specs.Laws.{Moment}
use Rattle.log_law.specs.Net.{Net, Owner}
use Rattle.log_law.specs.Net.Owner.{Down, Opening, Writing, Serving}
use Rattle.log_law.specs.Net.Packet.{ListedSent}
use Rattle.xfs_base.specs.declared.fragment.FragMeta.{FragMeta}

-- its flight is among the segments that were in flight
abbrev pub FlightFlew : List Segment → LogState → Type 0
FlightFlew flown s = IfSome s.flight (λ (f : FlightState). In f.segment flown)

-- so is each segment of what was read back
pub record ChainFlew (flown : List Segment) (chain : List Segment) (s : LogState) : Type 0 where
  pub read : (t : Segment) → In t chain → In t flown
  pub flight : FlightFlew flown s

abbrev pub OwnerFlew : List Segment → Owner → Type 0
OwnerFlew flown Down = Unit {0}
OwnerFlew flown (Opening s) = Unit {0}
OwnerFlew flown (Writing chain s) = ChainFlew flown chain s
OwnerFlew flown (Serving s) = FlightFlew flown s

-- so it is at each moment of every run
abbrev pub WhatIsHeldFlew : Type 0
WhatIsHeldFlew = (g : Setting) (n : Net) → Moment g n → OwnerFlew n.flown n.owner

-- each segment that was in flight bears the number of the log
abbrev pub WhatFlewIsOfTheLog : Type 0
WhatFlewIsOfTheLog = (g : Setting) (n : Net) → Moment g n → (s : Segment) → In s n.flown → s.name.log ≡ g.log

-- each fragment that a server listed is of a segment that was in flight, with its name and its group
abbrev pub WhatIsListedFlew : Type 0
WhatIsListedFlew =
    (g : Setting) (n : Net) → Moment g n → (lists : List FragMeta) → In (ListedSent lists) n.sent → (meta : FragMeta) → In meta lists
    → (s : Segment) × In s n.flown × (meta.name ≡ s.name) × (meta.group ≡ s.group)
