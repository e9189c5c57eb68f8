-- When a segment in flight is settled, and when it is striped anew.
use Rattle.std.specs.Prelude.{ℕ, ◌+◌, Bool, true, List, [], ◌∷◌, ◌&&◌, ◌||◌, nat_lt, nat_le, count_by, if◌then◌else◌}
use Rattle.group_map.specs.declared.group.Member.{Member}
use Rattle.group_map.specs.GroupMapState.{GroupMapState}
use Rattle.group_map.specs.Groups.{generation_at}
use Rattle.log_flight.specs.declared.flight.Fate.{Fate}
use Rattle.log_flight.specs.declared.flight.Fate.TheVariants.{Restripe, Settle, Wait}
use Rattle.log_flight.specs.Flights.{FlightState, is_noted}

-- whether the map has this server
abbrev pub has_server : GroupMapState → ℕ → Bool
has_server groups server = nat_le 1 server && nat_le server groups.servers

-- a member is lost where its server is at a greater generation now: it has lost what it kept for the group
abbrev pub is_lost : GroupMapState → Member → Bool
is_lost groups member = has_server groups member.server && nat_lt member.generation (generation_at groups.generations member.server)

abbrev pub lost_count : GroupMapState → List Member → ℕ
lost_count groups members = count_by (is_lost groups) members

-- whether the member at a place is noted or lost
abbrev pub is_done : GroupMapState → List Bool → Member → ℕ → Bool
is_done groups noted member place = is_noted noted place || is_lost groups member

-- whether each member from a place on is
abbrev pub all_done : GroupMapState → List Bool → List Member → ℕ → Bool
all_done groups noted [] place = true
all_done groups noted (m ∷ ms) place = is_done groups noted m place && all_done groups noted ms (place + 1)

-- where more members are lost than the group has parity, the segment is striped anew; where each is noted or lost, it is settled
abbrev pub fate_of : GroupMapState → FlightState → Fate
fate_of groups f =
    if nat_lt f.group.parity (lost_count groups f.group.members) then Restripe
    else if all_done groups f.noted f.group.members 0 then Settle
    else Wait
