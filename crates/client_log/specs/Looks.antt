-- What a log looks at before it changes: what becomes of its flight, and whether that may follow.
use Rattle.std.specs.Prelude.{ℕ, Bool, true, Option, None, Some, if◌then◌else◌}
use Rattle.std.specs.Option.{option_map}
use Rattle.xfs_base.specs.declared.segment.SegName.{SegName}
use Rattle.xfs_base.specs.Steps.{still}
use Rattle.group_map.specs.GroupMapState.{GroupMapState}
use Rattle.log_flight.specs.declared.flight.Fate.{Fate}
use Rattle.log_flight.specs.declared.flight.Fate.TheVariants.{Wait}
use Rattle.log_flight.specs.Fate.{fate_of}
use Rattle.log_flight.specs.Flights.{FlightState, is_of, flight_note}
use Rattle.client_log.specs.LogState.{LogState}
use Rattle.client_log.specs.Transition.{Done, can_follow, followed}

-- the fate of a flight, where no number is at its end that it raises
abbrev pub due : LogState → FlightState → Fate → Option Fate
due s f fate = if can_follow s f fate then Some fate else None

-- the same with one more fragment noted, where the answer is of the flight
abbrev pub hear_of : LogState → FlightState → SegName → ℕ → ℕ → Option Fate
hear_of s f name index generation = if is_of f name index generation then due s f (fate_of s.groups (flight_note f index)) else None

-- the same of the flight of the log
unfoldable pub log_hear : LogState → SegName → ℕ → ℕ → Option Fate
log_hear s name index generation = elim s.flight [ None ↦ None | Some f ↦ hear_of s f name index generation ]

-- the fate that is due of the flight of the log with these groups
unfoldable pub log_look : LogState → GroupMapState → Option Fate
log_look s groups = elim s.flight [ None ↦ Some Wait | Some f ↦ due s f (fate_of groups f) ]

-- the same log with one more fragment noted
abbrev pub log_note : LogState → ℕ → LogState
log_note s index = record s { flight = option_map (λ f. flight_note f index) s.flight }

-- whether no number is at its end that a fate of the flight of the log raises
abbrev pub flight_can_follow : LogState → Fate → Bool
flight_can_follow s fate = elim s.flight [ None ↦ true | Some f ↦ can_follow s f fate ]

-- what follows of a fate of the flight of the log
unfoldable pub log_follow : LogState → Fate → Done
log_follow s fate = elim s.flight [ None ↦ still s | Some f ↦ followed s f fate ]
