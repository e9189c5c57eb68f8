-- When a packet was sent: by whom, and at which clock of that node. By this the rows and the packets of a run are looked up.
use Rattle.std.specs.Prelude.{◌≡◌, ℕ, Bool, ◌&&◌, ◌||◌, ◌==◌, List, [], Option, Some, None, if◌then◌else◌}
use Rattle.std.specs.List.{list_any}
use Rattle.indexmap.specs.IndexMap.{get}
use Rattle.wire_msg.specs.declared.packet.Packet.{Packet}
use Rattle.world_base.specs.declared.event.Event.{Event}
use Rattle.xfs_base.specs.declared.node.NodeId.{NodeId}
use Rattle.xfs_base.specs.Nodes.{kind_rank, number_of}
use Rattle.run_chart.specs.declared.moment.Comings.{Comings}
use Rattle.run_chart.specs.declared.moment.FirstRows.{FirstRows}
use Rattle.run_chart.specs.declared.moment.Moment.{Moment}
use Rattle.run_chart.specs.declared.row.Row.{Row}
use Rattle.run_chart.specs.Labels.{same_packet}
use Rattle.run_chart.specs.Marks.{comes, is_coming, row_sent, sends}

-- a node at a clock, in numbers
abbrev pub moment_of : NodeId → ℕ → Moment
moment_of node clock = record { kind = kind_rank node; number = number_of node; clock = clock }

-- when a packet was sent, and when the packets of a row were
abbrev pub sent_when : Packet → Moment
sent_when packet = moment_of packet.from packet.clock

abbrev pub row_when : Row → Moment
row_when row = moment_of row.node row.clock

abbrev pub same_moment : Moment → Moment → Bool
same_moment a b = (a.kind == b.kind) && ((a.number == b.number) && (a.clock == b.clock))

-- ---- rows

-- the row that a table gives for a packet
abbrev pub row_found : FirstRows → Packet → Option ℕ
row_found table packet = get same_moment table.rows (sent_when packet)

-- of each packet it gives the first of these rows in which it was sent
abbrev pub FindsRows : FirstRows → List Row → Type 0
FindsRows table rows = (packet : Packet) → row_found table packet ≡ row_sent rows packet

abbrev pub first_of : Option ℕ → Option ℕ → Option ℕ
first_of None later = later
first_of (Some row) later = Some row

abbrev pub place_if : Bool → ℕ → Option ℕ
place_if t place = if t then Some place else None

-- a table has a row more, which stands at a place behind all that it had
abbrev pub HasRowToo : FirstRows → FirstRows → Row → ℕ → Type 0
HasRowToo old new row place = (packet : Packet) → row_found new packet ≡ first_of (row_found old packet) (place_if (sends packet row) place)

-- ---- packets that come

abbrev pub packets_in : Option (List Packet) → List Packet
packets_in None = []
packets_in (Some packets) = packets

-- the packets that a table has of a moment
abbrev pub packets_at : Comings → Moment → List Packet
packets_at table moment = packets_in (get same_moment table.packets moment)

-- whether a table has a packet
abbrev pub is_there : Comings → Packet → Bool
is_there table packet = list_any (same_packet packet) (packets_at table (sent_when packet))

-- it has just the packets that come by these events
abbrev pub HasComing : Comings → List Event → Type 0
HasComing table events = (packet : Packet) → is_there table packet ≡ comes events packet

-- a table has one packet more, and has more by one event
abbrev pub HasPacketToo : Comings → Comings → Packet → Type 0
HasPacketToo old new one = (packet : Packet) → is_there new packet ≡ (is_there old packet || same_packet packet one)

abbrev pub HasEventToo : Comings → Comings → Event → Type 0
HasEventToo old new event = (packet : Packet) → is_there new packet ≡ (is_there old packet || is_coming packet event)
