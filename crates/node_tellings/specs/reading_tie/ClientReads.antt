-- What a client that reads a block from a log holds, and what it reads.
use Rattle.std.specs.Prelude.{◌≡◌, ℕ, List, Option, Some, None}
use Rattle.client_node.specs.declared.client.Client.{Client}
use Rattle.client_node.specs.declared.phase.Phase.TheVariants.{Down, Opening, Serving as Serves}
use Rattle.client_node.specs.declared.phase.Phase.{Phase}
use Rattle.client_node.specs.Phases.{client_step}
use Rattle.client_node.specs.Starting.{client_start}
use Rattle.client_call.specs.Reads.{hear_reading, reading_in}
use Rattle.client_serving.specs.declared.serving.Serving.{Serving}
use Rattle.group_map.specs.GroupMapState.{GroupMapState}
use Rattle.group_map.specs.Groups.{group_map_start}
use Rattle.segment_format.specs.declared.segment.Segment.{Segment}
use Rattle.segment_reading.specs.declared.reading.Next.TheVariants.{Read}
use Rattle.segment_reading.specs.Reading.{ReadingState}
use Rattle.stripe_code.specs.declared.round.Told.{Told as Answered}
use Rattle.version_model.specs.declared.work.Work.{Work}
use Rattle.wire_msg.specs.declared.packet.Packet.{Packet}
use Rattle.xfs_base.specs.declared.setup.Setup.{Setup}
use Rattle.xfs_base.specs.declared.node.NodeId.{NodeId}
use Rattle.node_tellings.specs.reading_tie.Arrivals.{Cuts, answered_in, cut_by, AnsweredIn, HoldsRise, EventsKeep}
use Rattle.node_tellings.specs.reading_tie.Came.{Came, Striped, MapStriped, MapsStriped, AnyReadingCame, ReadsTarget}

-- ---- what it holds

-- the groups that it knows, and the reading of its open call
pub record ServingHolds (came : Came) (striped : Striped) (groups : Option GroupMapState) (its : Option ReadingState) : Type 0 where
  pub maps : MapsStriped striped groups
  pub reading : AnyReadingCame came striped its

abbrev pub ServesSo : Came → Striped → Serving → Type 0
ServesSo came striped s = ServingHolds came striped s.maps.groups (reading_in s.call)

-- an opening has a reading of its own, of which the law of logs tells; what is claimed here is that its maps are so
abbrev pub PhaseHolds : Came → Striped → Phase → Type 0
PhaseHolds came striped (Down l) = Unit {0}
PhaseHolds came striped (Opening l o) = MapsStriped striped o.known.maps.groups
PhaseHolds came striped (Serves s) = ServesSo came striped s

abbrev pub ClientHolds : Came → Striped → Client → Type 0
ClientHolds came striped client = PhaseHolds came striped client.phase

-- ---- what it reads

-- what the reading of the open call reads is joined of what came, for the place of the block that it looks for
abbrev pub ReadsPlace : Came → Striped → Option ReadingState → Segment → Type 0
ReadsPlace came striped None segment = ⊥
ReadsPlace came striped (Some r) segment = ReadsTarget came striped r.target segment

-- ---- the laws

-- at its start a client reads nothing, and knows the groups of the setup
abbrev pub ClientStarts : Type 0
ClientStarts =
    (packets : List Packet) (to : NodeId) (cuts : Cuts) (number : ℕ) (setup : Setup) (works : List Work)
    → MapStriped (cut_by cuts) (group_map_start setup.servers setup.groups)
    → ClientHolds (answered_in packets to) (cut_by cuts) (client_start number setup works)

abbrev pub ClientHoldsRise : Type 0
ClientHoldsRise = HoldsRise Client ClientHolds

-- whatever happens to a client
abbrev pub ClientEventsKeep : Type 0
ClientEventsKeep = EventsKeep Client ClientHolds client_step

-- Where an answer that came makes the reading end with a segment, the segment is joined of what came.
abbrev pub ClientsReadWhatCame : Type 0
ClientsReadWhatCame =
    (packets : List Packet) (to : NodeId) (cuts : Cuts) (s : Serving) (ask server : ℕ) (told : Answered) (segment : Segment)
    → ServesSo (answered_in packets to) (cut_by cuts) s
    → AnsweredIn packets to ask server told → (hear_reading (reading_in s.call) s.maps.groups ask server told).next ≡ Read segment
    → ReadsPlace (answered_in packets to) (cut_by cuts) (reading_in s.call) segment
