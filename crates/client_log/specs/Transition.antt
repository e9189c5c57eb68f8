-- What a log does at each input: one definition for each, named for it (the 1996 paper, "Writes").
use Rattle.std.specs.Prelude.{ℕ, ◌+◌, Bool, true, ◌&&◌, ◌||◌, not, nat_lt, nat_le, List, [], ◌∷◌, ◌++◌, Some, None, is_none, if◌then◌else◌, length, take, drop}
use Rattle.indexmap.specs.IndexMap.{insert_entry}
use Rattle.xfs_base.specs.declared.block.BlockId.{BlockId}
use Rattle.xfs_base.specs.declared.segment.End.{End}
use Rattle.xfs_base.specs.declared.segment.Prior.{Prior}
use Rattle.xfs_base.specs.declared.segment.SegName.{SegName}
use Rattle.xfs_base.specs.Blocks.{same_block}
use Rattle.xfs_base.specs.Limits.{segment_blocks, u32_end}
use Rattle.xfs_base.specs.Steps.{Stepped, still, saying}
use Rattle.segment_format.specs.declared.segment.Item.{Item}
use Rattle.segment_format.specs.declared.segment.Segment.{Segment}
use Rattle.group_map.specs.declared.group.Member.{Member}
use Rattle.group_map.specs.GroupMapState.{GroupMapState}
use Rattle.log_flight.specs.declared.dirty.Change.{Change}
use Rattle.log_flight.specs.declared.flight.Fate.{Fate}
use Rattle.log_flight.specs.declared.flight.Fate.TheVariants.{Restripe, Settle, Wait}
use Rattle.log_flight.specs.Fate.{fate_of}
use Rattle.log_flight.specs.Flights.{FlightState, is_noted, group_for, flown, is_of, flight_note}
use Rattle.log_flight.specs.Fragments.{flight_fragment}
use Rattle.log_flight.specs.Items.{items_of}
use Rattle.log_flight.specs.Texts.{has_text}
use Rattle.client_log.specs.declared.input.In.{In}
use Rattle.client_log.specs.declared.input.In.TheVariants.{Put, Parts, Seal, Acked, Maps, Tick}
use Rattle.client_log.specs.declared.output.Out.{Out}
use Rattle.client_log.specs.declared.output.Out.TheVariants.{Send, Settled}
use Rattle.segment_format.specs.Rows.{rows_of}
use Rattle.client_log.specs.LogState.{LogState}

abbrev pub Done : Type 0
Done = Stepped LogState Out

-- ---- sending

-- the fragment of a flight at a place, to its member, but for one that is noted
abbrev pub send_at : FlightState → Member → ℕ → List Out
send_at f member place = if is_noted f.noted place then [] else Send (flight_fragment f.segment f.group place) member ∷ []

-- the same of each member from a place on
abbrev pub sends : FlightState → List Member → ℕ → List Out
sends f [] place = []
sends f (m ∷ ms) place = send_at f m place ++ sends f ms (place + 1)

unfoldable pub sending_send : FlightState → List Out
sending_send f = sends f f.group.members 0

-- ---- beginning a segment

-- a segment of this name, with these items, is in flight, and each member is sent its fragment
unfoldable pub log_launch : LogState → SegName → Prior → List Item → Done
log_launch s name prior items =
    let f = flown name prior items (group_for s.groups s.log.0 name.seq) in
    record { state = record s { flight = Some f }; outs = sending_send f }

-- the segment after the end, by the first attempt
abbrev pub next_name : LogState → SegName
next_name s = record { log = s.log; seq = s.end.seq + 1; pass = record { inc = s.inc; att = 1 } }

-- the end, as the segment after it names it
abbrev pub prior_from : End → Prior
prior_from e = record { pass = e.pass; group = e.group }

-- the next segment has these items
abbrev pub log_write : LogState → List Item → Done
log_write s items = log_launch s (next_name s) (prior_from s.end) items

-- the blocks that wait first are written
unfoldable pub log_seal : LogState → Done
log_seal s = log_write (record s { dirty = drop segment_blocks s.dirty }) (items_of 0 (take segment_blocks s.dirty))

-- ---- what has no effect: a number that cannot rise

-- a number of a segment, or of an attempt, has one after it
abbrev pub has_next : ℕ → Bool
has_next n = nat_lt n u32_end

abbrev pub is_idle : LogState → Bool
is_idle s = is_none s.flight

-- as many wait as a segment takes, and none is in flight: they are written without being told to
abbrev pub is_full : LogState → Bool
is_full s = is_idle s && nat_le segment_blocks (length s.dirty)

abbrev pub can_go_on : LogState → Bool
can_go_on s = not (is_full s) || has_next s.end.seq

unfoldable pub log_go_on : LogState → Done
log_go_on s = if is_full s then log_seal s else still s

-- ---- the inputs

-- A version waits: a block that waits already keeps its place, and a new one goes last.
abbrev pub waits : LogState → BlockId → Change → LogState
waits s block change = record s { dirty = insert_entry same_block s.dirty block change }

-- Put: the version waits, and a full log is sealed.
unfoldable pub on_put : LogState → BlockId → Change → Done
on_put s block change = if can_go_on (waits s block change) then log_go_on (waits s block change) else still s

-- Seal: where nothing is in flight and something waits, what waits first is written.
unfoldable pub on_seal : LogState → Done
on_seal s = if is_idle s && nat_lt 0 (length s.dirty) && has_next s.end.seq then log_seal s else still s

-- Parts: a segment of these items is written, where nothing is in flight and a segment may have them.
unfoldable pub on_parts : LogState → List Item → Done
on_parts s items = if is_idle s && has_next s.end.seq && has_text items then log_write s items else still s

-- the segment with the name of its next attempt, over the group that is chosen now
abbrev pub next_attempt : SegName → SegName
next_attempt n = record n { pass = record n.pass { att = n.pass.att + 1 } }

unfoldable pub restriped : LogState → FlightState → Done
restriped s f = log_launch s (next_attempt f.segment.name) f.segment.prior f.segment.items

-- the end that a settled segment is
abbrev pub end_of : Segment → End
end_of s = record { seq = s.name.seq; pass = s.name.pass; group = s.group }

-- nothing is in flight behind this end
abbrev pub landed_at : LogState → End → LogState
landed_at s end = record s { end = end; flight = None }

abbrev pub landed : LogState → FlightState → LogState
landed s f = landed_at s (end_of f.segment)

-- the segment is the end, and what it says of blocks is told; a full log is sealed
unfoldable pub settled : LogState → FlightState → Done
settled s f = saying (Settled (end_of f.segment) (rows_of f.segment) ∷ []) (log_go_on (landed s f))

-- whether no number that the fate raises is at its end
abbrev pub can_follow : LogState → FlightState → Fate → Bool
can_follow s f Restripe = has_next f.segment.name.pass.att
can_follow s f Settle = can_go_on (landed s f)
can_follow s f Wait = true

abbrev pub followed : LogState → FlightState → Fate → Done
followed s f Restripe = restriped s f
followed s f Settle = settled s f
followed s f Wait = still (record s { flight = Some f })

-- Settling is looked at: what becomes of this flight in this state, or the state before where a number cannot rise.
unfoldable pub looked_at : LogState → LogState → FlightState → Done
looked_at before s f = if can_follow s f (fate_of s.groups f) then followed s f (fate_of s.groups f) else still before

-- Acked: a Stored of the flight is noted, and settling is looked at.
unfoldable pub on_acked : LogState → SegName → ℕ → ℕ → Done
on_acked s name index generation = elim s.flight [
  | None ↦ still s
  | Some f ↦ if is_of f name index generation then looked_at s s (flight_note f index) else still s
]

-- Maps: the groups as the node has them now, and settling is looked at.
unfoldable pub on_maps : LogState → GroupMapState → Done
on_maps s groups = elim s.flight [
  | None ↦ still (record s { groups = groups })
  | Some f ↦ looked_at s (record s { groups = groups }) f
]

-- Tick: what isn't noted is sent again.
unfoldable pub on_tick : LogState → Done
on_tick s = elim s.flight [
  | None ↦ still s
  | Some f ↦ record { state = s; outs = sending_send f }
]

-- what each input makes of a log
abbrev pub transition : LogState → In → Done
transition s (Put block entry value) = on_put s block (record { entry = entry; value = value })
transition s (Parts items) = on_parts s items
transition s Seal = on_seal s
transition s (Acked name index generation) = on_acked s name index generation
transition s (Maps groups) = on_maps s groups
transition s Tick = on_tick s
