-- Where a takeover reads, what it holds, and what it reads.
use Rattle.std.specs.Prelude.{◌≡◌, ℕ, List, [], ◌∷◌, Contains, Option, Some, None}
use Rattle.std.specs.List.{AllByRecursion}
use Rattle.segment_format.specs.declared.segment.Segment.{Segment}
use Rattle.segment_reading.specs.Reading.{ReadingState, reading_take}
use Rattle.stripe_code.specs.declared.round.Told.{Told as Answered}
use Rattle.takeover.specs.Course.{segment_of}
use Rattle.takeover.specs.declared.source.Present.{Present}
use Rattle.takeover.specs.declared.source.Source.{Source}
use Rattle.takeover.specs.Sources.{sources_of, back_from}
use Rattle.takeover.specs.TakeState.{TakeState}
use Rattle.takeover.specs.Transition.{awaited, target_of}
use Rattle.wire_msg.specs.declared.packet.Packet.{Packet}
use Rattle.xfs_base.specs.declared.node.NodeId.{NodeId}
use Rattle.node_tellings.specs.reading_tie.Arrivals.{Cuts, answered_in, cut_by, AnsweredIn}
use Rattle.node_tellings.specs.reading_tie.Came.{Came, Striped, MapStriped, AnyReadingCame, ReadsJoined}

-- ---- questions

-- a takeover counts its own questions, each of which the manager asks under a question of its own
pub record AnyQuestion (came : Came) (server : ℕ) (told : Answered) : Type 0 where
  pub ask : ℕ
  pub came_so : came ask server told

-- so whatever a server told came, to some question of the manager's
abbrev pub to_any : Came → Came
to_any came own server told = AnyQuestion came server told

-- ---- where it reads

-- These segments were read from a source down, the lowest first, each joined of what came, and this is where the last of them led: to the one before it in its
-- log.
abbrev pub ReadsDown : Came → Striped → Source → List Segment → Source → Type 0
ReadsDown came striped first [] source = source ≡ first
ReadsDown came striped first (s ∷ above) source =
    (reached : Source) × ReadsDown came striped first above reached × ReadsJoined (to_any came) striped reached.seg s × (back_from reached s ≡ Some source)

-- a source that is read is where one of these leads
pub record LeadsDown (came : Came) (striped : Striped) (sources : List Source) (source : Source) : Type 0 where
  pub first : Source
  pub among : Contains sources first
  pub segments : List Segment
  pub down : ReadsDown came striped first segments source

-- ---- what a takeover holds

-- it looks for the segment of its source, whole
abbrev pub LooksFor : Source → Option ReadingState → Type 0
LooksFor source None = Unit {0}
LooksFor source (Some r) = r.target ≡ target_of source

-- Once all have reported it reads its sources, the parts that its news name and the logs from the reported ends down: what is read at present is the segment to
-- which one of them led, and the others stand behind it.
pub record PresentHolds (came : Came) (striped : Striped) (s : TakeState) (p : Present) : Type 0 where
  pub reported : awaited s ≡ []
  pub behind : AllByRecursion (Contains (sources_of s.news s.reports)) s.sources
  pub leads : LeadsDown came striped (sources_of s.news s.reports) p.source
  pub looks : LooksFor p.source p.reading
  pub reading : AnyReadingCame (to_any came) striped p.reading

-- while nothing is read at present, nothing stands behind
abbrev pub StandsBy : Came → Striped → TakeState → Option Present → Type 0
StandsBy came striped s None = s.sources ≡ []
StandsBy came striped s (Some p) = PresentHolds came striped s p

pub record TakeHolds (came : Came) (striped : Striped) (s : TakeState) : Type 0 where
  pub groups : MapStriped striped s.groups
  pub stands : StandsBy came striped s s.present

-- ---- the law

-- Where an answer that came completes the segment that a takeover reads at present, the segment is joined of what came, for the source that is read.
abbrev pub TakeoversReadWhatCame : Type 0
TakeoversReadWhatCame =
    (packets : List Packet) (to : NodeId) (cuts : Cuts) (s : TakeState) (p : Present) (r : ReadingState) (ask own server : ℕ) (told : Answered)
    (segment : Segment)
    → TakeHolds (answered_in packets to) (cut_by cuts) s → s.present ≡ Some p → p.reading ≡ Some r → AnsweredIn packets to ask server told
    → segment_of (reading_take r s.groups own server told).next ≡ Some segment → ReadsJoined (to_any (answered_in packets to)) (cut_by cuts) p.source.seg segment
