-- What a reader holds came: each answer of its round was told by a server, and its groups are as maps that came say.
use Rattle.std.specs.Prelude.{◌≡◌, ℕ, true, List, length, Option, Some, None, IfSome, Ok}
use Rattle.std.specs.List.{AllByRecursion}
use Rattle.group_map.specs.declared.group.Group.{Group}
use Rattle.group_map.specs.GroupMapState.{GroupMapState}
use Rattle.group_map.specs.Groups.{group_of}
use Rattle.segment_format.specs.declared.segment.Segment.{Segment}
use Rattle.segment_format.specs.ReadingItems.{answer_of}
use Rattle.segment_reading.specs.declared.target.Target.{Target}
use Rattle.segment_reading.specs.Reading.{ReadingState, has_block}
use Rattle.stripe_code.specs.declared.round.Answer.{Answer}
use Rattle.stripe_code.specs.declared.round.RoundState.TheVariants.{Read}
use Rattle.stripe_code.specs.declared.round.Told.{Told as Answered}
use Rattle.stripe_code.specs.declared.round.Told.TheVariants.{Held, Missing}
use Rattle.stripe_code.specs.Round.{RoundSoFar, IsRound, state_of}
use Rattle.stripe_code.specs.Stripe.{IsCut}
use Rattle.xfs_base.specs.declared.segment.SegName.{SegName}
use Rattle.xfs_base.specs.declared.segment.SegRef.{SegRef}

-- ---- what came

-- in answer to this question, this server told this
abbrev pub Came : Type 1
Came = ℕ → ℕ → Answered → Type 0

-- a map that came says that the group of this id has so many members, and so much parity
abbrev pub Striped : Type 1
Striped = ℕ → ℕ → ℕ → Type 0

-- ---- maps

-- a group, over whose members a segment can be cut
pub record GroupStriped (striped : Striped) (id : ℕ) (group : Group) : Type 0 where
  pub cut : IsCut (length group.members) group.parity
  pub said : striped id (length group.members) group.parity

-- each group of a map
abbrev pub MapStriped : Striped → GroupMapState → Type 0
MapStriped striped groups = (id : ℕ) (group : Group) → group_of groups id ≡ Some group → GroupStriped striped id group

-- of the map that is known, where one is
abbrev pub MapsStriped : Striped → Option GroupMapState → Type 0
MapsStriped striped None = Unit {0}
MapsStriped striped (Some groups) = MapStriped striped groups

-- ---- rounds

-- a fragment is one of the segment of this name
abbrev pub IsOfName : SegName → Answered → Type 0
IsOfName name (Held f) = f.meta.name ≡ name
IsOfName name (Missing generation) = Unit {0}

-- what a server told in answer to this question came, and is told of this name
pub record AnswerCame (came : Came) (ask : ℕ) (name : SegName) (answer : Answer) : Type 0 where
  pub came_so : came ask answer.server answer.told
  pub of_name : IsOfName name answer.told

-- A round of reading a segment under a question: it is cut as a map that came says of its group, and each of its answers came.
pub record RoundCame (came : Came) (striped : Striped) (seg : SegRef) (ask : ℕ) (round : RoundSoFar) : Type 0 where
  pub is_round : IsRound round
  pub cut_so : striped seg.group round.n round.parity
  pub answers : AllByRecursion (AnswerCame came ask seg.name) round.answers

-- a reading, of what it looks for
abbrev pub ReadingCame : Came → Striped → ReadingState → Type 0
ReadingCame came striped r = RoundCame came striped r.target.seg r.ask r.round

-- one that there may be
abbrev pub AnyReadingCame : Came → Striped → Option ReadingState → Type 0
AnyReadingCame came striped its = IfSome its (ReadingCame came striped)

-- ---- what is read

-- A segment that is read of a reference is what such a round joined: its text decodes to the segment, which has the name that was looked for.
pub record ReadsJoined (came : Came) (striped : Striped) (seg : SegRef) (segment : Segment) : Type 0 where
  pub ask : ℕ
  pub round : RoundSoFar
  pub of : RoundCame came striped seg ask round
  pub text : List ℕ
  pub joins : state_of round ≡ Read text
  pub decoded : answer_of text ≡ Ok segment
  pub named : segment.name ≡ seg.name

-- and the item that was looked for, where one was, is a Block of the block
pub record ReadsTarget (came : Came) (striped : Striped) (target : Target) (segment : Segment) : Type 0 where
  pub joined : ReadsJoined came striped target.seg segment
  pub block : has_block target.block segment ≡ true
