-- What the cleaner that reads the segment in its hand holds, and what it reads.
use Rattle.std.specs.Prelude.{◌≡◌, ℕ, List, Option, Some, None}
use Rattle.cleaner_serving.specs.declared.emptying.Emptying.{Emptying}
use Rattle.cleaner_serving.specs.Jobs.{emptying_hear}
use Rattle.cleaner_node.specs.CleanerEvents.{cleaner_start, cleaner_step}
use Rattle.cleaner_node.specs.declared.cleaner.Cleaner.{Cleaner}
use Rattle.cleaner_node.specs.declared.cleaner.Phase.{Phase}
use Rattle.cleaner_node.specs.declared.cleaner.Phase.TheVariants.{Down, Opening, Serving}
use Rattle.cleaner_job.specs.declared.hand.Hand.{Hand}
use Rattle.cleaner_job.specs.Jobs.{hand_of}
use Rattle.group_map.specs.GroupMapState.{GroupMapState}
use Rattle.group_map.specs.Groups.{group_map_start}
use Rattle.segment_format.specs.declared.segment.Segment.{Segment}
use Rattle.segment_reading.specs.declared.reading.Next.TheVariants.{Read}
use Rattle.segment_reading.specs.Reading.{ReadingState}
use Rattle.stripe_code.specs.declared.round.Told.{Told as Answered}
use Rattle.version_model.specs.declared.work.Work.{Work}
use Rattle.wire_msg.specs.declared.packet.Packet.{Packet}
use Rattle.xfs_base.specs.declared.segment.SegRef.{SegRef}
use Rattle.xfs_base.specs.declared.setup.Setup.{Setup}
use Rattle.xfs_base.specs.declared.node.NodeId.{NodeId}
use Rattle.node_tellings.specs.reading_tie.Arrivals.{Cuts, answered_in, cut_by, AnsweredIn, HoldsRise, EventsKeep}
use Rattle.node_tellings.specs.reading_tie.Came.{Came, Striped, MapStriped, MapsStriped, AnyReadingCame, ReadsJoined}

-- ---- what it holds

-- it looks for the segment in hand, whole
abbrev pub LooksFor : SegRef → Option ReadingState → Type 0
LooksFor seg None = Unit {0}
LooksFor seg (Some r) = r.target ≡ record { seg = seg; block = None }

-- a segment that is in hand, and its reading
pub record HandHolds (came : Came) (striped : Striped) (seg : SegRef) (its : Option ReadingState) : Type 0 where
  pub looks : LooksFor seg its
  pub reading : AnyReadingCame came striped its

abbrev pub AnyHandHolds : Came → Striped → Option Hand → Type 0
AnyHandHolds came striped None = Unit {0}
AnyHandHolds came striped (Some hand) = HandHolds came striped hand.seg hand.reading

-- the groups that it knows, and what its job has in hand
pub record EmptyingHolds (came : Came) (striped : Striped) (groups : Option GroupMapState) (its : Option Hand) : Type 0 where
  pub maps : MapsStriped striped groups
  pub hand : AnyHandHolds came striped its

abbrev pub ServesSo : Came → Striped → Emptying → Type 0
ServesSo came striped e = EmptyingHolds came striped e.maps.groups (hand_of e.job)

-- of an opening it is claimed here that its maps are so, as of a client's
abbrev pub PhaseHolds : Came → Striped → Phase → Type 0
PhaseHolds came striped (Down l) = Unit {0}
PhaseHolds came striped (Opening l o) = MapsStriped striped o.known.maps.groups
PhaseHolds came striped (Serving e) = ServesSo came striped e

abbrev pub CleanerHolds : Came → Striped → Cleaner → Type 0
CleanerHolds came striped cleaner = PhaseHolds came striped cleaner.phase

-- ---- what it reads

-- what is read of the segment in hand is joined of what came
abbrev pub ReadsHand : Came → Striped → Option Hand → Segment → Type 0
ReadsHand came striped None segment = ⊥
ReadsHand came striped (Some hand) segment = ReadsJoined came striped hand.seg segment

-- ---- the laws

-- at its start the cleaner has no job, and knows the groups of the setup
abbrev pub CleanerStarts : Type 0
CleanerStarts =
    (packets : List Packet) (to : NodeId) (cuts : Cuts) (setup : Setup) (works : List Work) → MapStriped (cut_by cuts) (group_map_start setup.servers setup.groups)
    → CleanerHolds (answered_in packets to) (cut_by cuts) (cleaner_start setup works)

abbrev pub CleanerHoldsRise : Type 0
CleanerHoldsRise = HoldsRise Cleaner CleanerHolds

-- whatever happens to the cleaner
abbrev pub CleanerEventsKeep : Type 0
CleanerEventsKeep = EventsKeep Cleaner CleanerHolds cleaner_step

-- Where an answer that came makes the reading of the segment in hand end with a segment, the segment is joined of what came.
abbrev pub CleanerReadsWhatCame : Type 0
CleanerReadsWhatCame =
    (packets : List Packet) (to : NodeId) (cuts : Cuts) (e : Emptying) (ask server : ℕ) (told : Answered) (segment : Segment)
    → ServesSo (answered_in packets to) (cut_by cuts) e
    → AnsweredIn packets to ask server told → (emptying_hear e ask server told).next ≡ Read segment
    → ReadsHand (answered_in packets to) (cut_by cuts) (hand_of e.job) segment
