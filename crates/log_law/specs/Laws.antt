-- What holds of the small world at every moment of every run.
use Rattle.log_law.specs.Net.Owner.{Writing, Serving}
use Rattle.client_log.specs.LogState.{LogState}
use Rattle.log_flight.specs.Flights.{FlightState, generation_of, server_of}
use Rattle.log_law.specs.Restarts.{IsSureRun, last_flight}
use Rattle.std.specs.Prelude.{◌≡◌, ℕ, ◌<◌, ◌⊎◌, length, Some, suc, false, ◌≤◌, List}
use Rattle.xfs_base.specs.declared.fragment.Fragment.{Fragment}
use Rattle.xfs_base.specs.declared.segment.SegName.{SegName}
use Rattle.segment_format.specs.declared.segment.Segment.{Segment}
use Rattle.group_map.specs.GroupMapState.{GroupMapState}
use Rattle.fragment_store.specs.ShelfState.{held_at}
use Rattle.log_protocol.specs.Tables.{In}
use Rattle.log_tie.specs.Setting.{Setting, fragment_of}
use Rattle.log_tie.specs.Seen.{members_of}
use Rattle.log_tie.specs.Scans.{WholeMap}
use Rattle.log_law.specs.Net.{Net, opening}
use Rattle.log_law.specs.Net.Packet.{StoreSent, FragmentSent}
use Rattle.log_law.specs.Events.{Runs}

-- a moment of a run, from a map of groups that the registry had at first
pub record Moment (g : Setting) (n : Net) : Type 0 where
  pub map : GroupMapState
  pub whole : WholeMap g (λ v. 1) map
  pub run : Runs g (opening g map) n

-- the member at a place of a segment's group holds its fragment
abbrev pub Holds : Setting → Net → Segment → ℕ → Type 0
Holds g n s place = held_at (n.shelves (server_of (members_of g s) place)).held s.name ≡ Some (fragment_of g s place)

-- or its server has lost its disk since the group was made
abbrev pub IsLater : Setting → Net → Segment → ℕ → Type 0
IsLater g n s place = generation_of (members_of g s) place < (n.shelves (server_of (members_of g s) place)).generation

-- Logs are whole: what is filed was in flight; the group of what was in flight has a member; and of a filed segment that isn't dropped each member holds its
-- fragment, or is of a later generation.
pub record LogsWhole (g : Setting) (n : Net) : Type 0 where
  pub flown : (name : SegName) → In name n.filed → (s : Segment) × In s n.flown × (s.name ≡ name)
  pub striped : (s : Segment) → In s n.flown → 0 < length (members_of g s)
  pub whole : (s : Segment) → In s n.flown → In s.name n.filed → (In s.name n.dropped → ⊥) → (place : ℕ) → place < length (members_of g s)
      → Holds g n s place ⊎ IsLater g n s place

-- One name, one text: no two segments that were in flight have one name, and whatever is held, stored or sent of a name of the log is a fragment of the one.
pub record OneText (g : Setting) (n : Net) : Type 0 where
  pub one : (s t : Segment) → In s n.flown → In t n.flown → s.name ≡ t.name → s ≡ t
  pub held : (v : ℕ) (name : SegName) (f : Fragment) → name.log ≡ g.log → held_at (n.shelves v).held name ≡ Some f
      → (s : Segment) × In s n.flown × (s.name ≡ name) × (f ≡ fragment_of g s f.meta.index)
  pub stored : (v generation : ℕ) (f : Fragment) → In (StoreSent v f generation) n.sent → (s : Segment) × In s n.flown × (f ≡ fragment_of g s f.meta.index)
  pub told : (f : Fragment) → In (FragmentSent f) n.sent → (s : Segment) × In s n.flown × (f ≡ fragment_of g s f.meta.index)
  -- what a server holds under its name is the fragment at the place of that server in its group
  pub own : (s : Segment) → In s n.flown → (v : ℕ) (f : Fragment) → held_at (n.shelves v).held s.name ≡ Some f → (place : ℕ) → place < length (members_of g s)
      → server_of (members_of g s) place ≡ v → f.meta.index ≡ place

-- so it is after doubtful restarts, too
abbrev pub LogsStayWhole : Type 0
LogsStayWhole = (g : Setting) (n : Net) → Moment g n → LogsWhole g n

abbrev pub OneNameOneText : Type 0
OneNameOneText = (g : Setting) (n : Net) → Moment g n → OneText g n

-- One line of segments: no two filed segments have one number, of a filed one each number from 1 up to its own is that of a filed one too (what is dropped
-- stays filed), and above the least horizon each names the pass of the one before it.
pub record OneLine (g : Setting) (n : Net) : Type 0 where
  pub no_two : (a b : SegName) → In a n.filed → In b n.filed → a.seq ≡ b.seq → a ≡ b
  pub no_gap : (name : SegName) → In name n.filed → (q : ℕ) → 0 < q → q ≤ name.seq → (t : SegName) × In t n.filed × (t.seq ≡ q)
  pub linked : (s t : Segment) → In s n.flown → In t n.flown → In s.name n.filed → In t.name n.filed → suc t.name.seq ≡ s.name.seq → n.low < s.name.seq
      → s.prior.pass ≡ t.name.pass

-- while no restart that ended was doubtful
abbrev pub LogsStayInLine : Type 0
LogsStayInLine = (g : Setting) (n : Net) → g.doubts ≡ false → (m : Moment g n) → IsSureRun m.run → OneLine g n

-- a segment is no further than what was filed
abbrev pub IsNoFurther : Net → Segment → Type 0
IsNoFurther n t = (name : SegName) × In name n.filed × (t.name.seq ≤ name.seq)

-- It is an attempt of what was in flight: of its number and its boot, and it tells the same of blocks.
pub record IsAttemptOf (g : Setting) (f : FlightState) (t : Segment) : Type 0 where
  pub seq : t.name.seq ≡ f.segment.name.seq
  pub boot : t.name.pass.inc ≡ f.segment.name.pass.inc
  pub content : g.content t.items ≡ g.content f.segment.items

-- Of what a reopening read back, what is beyond what was filed tells nothing, or is what the last boot that served had in flight.
abbrev pub IsAdopted : (g : Setting) {n m : Net} → Runs g n m → Net → Segment → Type 0
IsAdopted g run n t = IsNoFurther n t ⊎ ((g.content t.items ≡ 0) ⊎ ((f : FlightState) × (last_flight run ≡ Some f) × IsAttemptOf g f t))

abbrev pub AReopeningAdopts : Type 0
AReopeningAdopts =
    (g : Setting) (n : Net) → g.doubts ≡ false → (m : Moment g n) → IsSureRun m.run → (chain : List Segment) (s : LogState) → n.owner ≡ Writing chain s
    → (t : Segment) → In t chain → IsAdopted g m.run n t

-- The feed of a serving owner has each filed segment from the least horizon on.
abbrev pub TheFeedIsWhole : Type 0
TheFeedIsWhole =
    (g : Setting) (n : Net) → g.doubts ≡ false → (m : Moment g n) → IsSureRun m.run → (s : LogState) → n.owner ≡ Serving s → (name : SegName) → In name n.filed
    → n.low ≤ name.seq → In name n.feed

-- The laws speak of something: a run files a segment.
abbrev pub SomeSegmentFiled : Type 0
SomeSegmentFiled = (g : Setting) × (n : Net) × Moment g n × ((name : SegName) × In name n.filed)
