-- The journal of a node: what happened to it, with its clock after each event. How a node takes an event is its transition.
use Rattle.std.specs.Prelude.{◌≡◌, ℕ, ◌<◌, ◌≤◌, Bool, true, false, ◌&&◌, ◌==◌, List, [], ◌∷◌, ◌++◌, length, map, take, slice_get, Option, Some, None}
use Rattle.std.specs.List.{count_by, filter_map}
use Rattle.version_model.specs.declared.act.Act.{Act}
use Rattle.wire_msg.specs.declared.packet.Do.{Do}
use Rattle.wire_msg.specs.declared.packet.Do.TheVariants.{Begin, Deliver, Tick}
use Rattle.wire_msg.specs.declared.packet.Packet.{Packet}
use Rattle.wire_msg.specs.Kinds.{is_begin}
use Rattle.wire_msg.specs.NodeStep.{NodeStep}
use Rattle.xfs_base.specs.declared.node.NodeId.{NodeId}
use Rattle.world_base.specs.declared.due.Due.{Due}
use Rattle.world_base.specs.NextWorld.{clock_after, sent_at}
use Rattle.journals.specs.declared.moment.Moment.{Moment}
use Rattle.journals.specs.Answers.{AreAnswered}

-- whether an option is this number
abbrev pub is_some_of : ℕ → Option ℕ → Bool
is_some_of k None = false
is_some_of k (Some a) = a == k

-- whether each moment has the clock that follows the one before
abbrev pub is_stamped : ℕ → List Moment → Bool
is_stamped c [] = true
is_stamped c (m ∷ ms) = is_some_of m.clock (clock_after c m.what) && is_stamped m.clock ms

-- the clock after these moments
abbrev pub last_clock : ℕ → List Moment → ℕ
last_clock c [] = c
last_clock c (m ∷ ms) = last_clock m.clock ms

abbrev pub what_at : Moment → Do
what_at m = m.what

-- what happened, without the clocks
abbrev pub whats : List Moment → List Do
whats ms = map what_at ms

abbrev pub packet_of : Do → Option Packet
packet_of Begin = None
packet_of (Deliver packet) = Some packet
packet_of Tick = None

abbrev pub packet_at : Moment → Option Packet
packet_at m = packet_of m.what

-- the packets that were delivered
abbrev pub delivered_in : List Moment → List Packet
delivered_in ms = filter_map packet_at ms

-- how many items were begun
abbrev pub begins : List Do → ℕ
begins whats = count_by is_begin whats

-- a moment with what this step sends, at the moment's clock, and does
abbrev pub told_by : {N : Type 0} → NodeStep N → Moment → Moment
told_by done m = record m { packets = map (sent_at m.clock) done.packets; acts = done.acts }

-- an item is due: its node had so many events before, and, if it is one that waits, all items before it are answered
pub record IsDue (node : NodeId) (due : Due) (before : List Do) (done : List Act) : Type 0 where
  pub late : due.after ≤ length before
  pub answered : due.free ≡ false → AreAnswered node (begins before) done

module _ {N : Type 0} (step : N → Do → NodeStep N) where
  -- the node after this happened to it
  abbrev pub replayed : N → List Do → N
  replayed n [] = n
  replayed n (d ∷ ds) = replayed (step n d).node ds

  -- what it did
  abbrev pub acts_in : N → List Do → List Act
  acts_in n [] = []
  acts_in n (d ∷ ds) = (step n d).acts ++ acts_in (step n d).node ds

  -- what it sent, each packet with the clock of the event that sent it
  abbrev pub sent_in : N → List Moment → List Packet
  sent_in n [] = []
  sent_in n (m ∷ ms) = map (sent_at m.clock) (step n m.what).packets ++ sent_in (step n m.what).node ms

  -- the same moments, each with what the node sends and does in it
  abbrev pub retold : N → List Moment → List Moment
  retold n [] = []
  retold n (m ∷ ms) = told_by (step n m.what) m ∷ retold (step n m.what).node ms

  -- each moment says what the node sent and did
  abbrev pub IsTold : N → List Moment → Type 0
  IsTold n ms = retold n ms ≡ ms

  -- after this a node may begin its next item: there is one, and it is due
  pub record MayBegin (node : NodeId) (first : N) (dues : List Due) (before : List Do) : Type 0 where
    pub left : begins before < length dues
    pub due : (d : Due) → slice_get dues (begins before) ≡ Some d → IsDue node d before (acts_in first before)

  -- each item was begun when it was due
  abbrev pub MeetsDues : NodeId → N → List Due → List Do → Type 0
  MeetsDues node first dues all = (k : ℕ) → slice_get all k ≡ Some Begin → MayBegin node first dues (take k all)
