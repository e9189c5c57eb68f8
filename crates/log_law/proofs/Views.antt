-- How the small world is seen as a run of the abstract log protocol: in which state, with which book, and what each packet that was sent says there.
use Rattle.log_scan.specs.declared.stage.Stage.TheVariants.{Hails, Gathers, Asks, Reads, Over}
use Rattle.log_scan.specs.declared.stage.Stage.{Stage}
use Rattle.std.proofs.Common.{◌≡◌, ℕ, ◌⊎◌, ◌≤◌, false, List}
use Rattle.xfs_base.specs.declared.fragment.Fragment.{Fragment}
use Rattle.xfs_base.specs.declared.news.SlotNews.{SlotNews}
use Rattle.xfs_base.specs.declared.segment.End.{End}
use Rattle.xfs_base.specs.declared.segment.LogId.{LogId}
use Rattle.xfs_base.specs.declared.segment.SegName.{SegName}
use Rattle.segment_format.specs.declared.segment.Segment.{Segment}
use Rattle.segment_format.specs.Text.{text_of}
use Rattle.group_map.specs.GroupMapState.{GroupMapState}
use Rattle.client_log.specs.declared.input.In as log_ins
use Rattle.client_log.specs.History.{state_after}
use Rattle.client_log.specs.LogState.{LogState, log_start}
use Rattle.log_scan.specs.Transition.{least_horizon}
use Rattle.log_protocol.specs.Phase
use Rattle.log_protocol.specs.LogLaws.{Reached}
use Rattle.log_protocol.specs.State.{State}
use Rattle.log_protocol.specs.Tables.{In}
use Rattle.log_tie.specs.Setting.{Setting, name_of, fragment_of}
use Rattle.log_tie.specs.Seen.{Book, Serves, StoreSeen, Fixed}
use Rattle.log_tie.specs.Inputs.{StoredSeen}
use Rattle.log_tie.specs.Openings.{WritingShown}
use Rattle.log_tie.specs.Rounds.{IsSpelled, IsGrouped}
use Rattle.log_tie.specs.Scans.{Asked, AllMetas, FencedSeen, WholeMap, ScanShown}
use Rattle.log_tie.specs.Shelves.{ShelfShown, DropSeen}
use Rattle.log_law.specs.Net.{Packet, Owner, Net}
use Rattle.log_law.specs.Net.Packet.{StoreSent, StoredSent, FragmentSent, FenceSent, FencedSent, ListedSent, DeleteSent, MapSent, HelloSent, WelcomeSent}
use Rattle.log_law.specs.Net.Owner.{Down, Opening, Writing, Serving}

-- a Fragment that was sent
pub record FragmentSeen (g : Setting) (w : State) (book : ℕ → Segment) (f : Fragment) : Type 0 where
  pub name : ℕ
  pub index : ℕ
  pub known : w.booked name ≡ 1
  pub is_piece : f ≡ fragment_of g (book name) index
  pub sent : In (record { name = name; text = g.number (text_of (book name)) }) w.fragments

-- a question of the owner's boot, by its number
pub record HelloSeen (hellos : List Asked) (inc ask : ℕ) : Type 0 where
  pub question : Asked
  pub among : In question hellos
  pub boot : question.inc ≡ inc
  pub number : question.ask ≡ ask

-- an answer to it, with a horizon that is no older than the question
pub record WelcomeSeen (g : Setting) (w : State) (hellos : List Asked) (inc ask : ℕ) (news : List SlotNews) (m : GroupMapState) : Type 0 where
  pub hello : HelloSeen hellos inc ask
  pub later : hello.question.low ≤ least_horizon g.log.0 news
  pub known : least_horizon g.log.0 news ≤ w.low
  pub map : WholeMap g w.registry_generation m

-- what a packet that was sent says
abbrev pub Shown : Setting → State → (ℕ → Segment) → List Asked → Packet → Type 0
Shown g w book hellos (StoreSent to f generation) = StoreSeen g w.booked book w.stores to f generation
Shown g w book hellos (StoredSent name index generation) = StoredSeen g w.storeds name index generation
Shown g w book hellos (FragmentSent f) = FragmentSeen g w book f
Shown g w book hellos (FenceSent to inc) = inc ≤ w.incarnation
Shown g w book hellos (FencedSent from inc generation held) = FencedSeen g w book from inc generation held
Shown g w book hellos (ListedSent metas) = AllMetas book w.booked metas
Shown g w book hellos (DeleteSent name) = DropSeen g w name
Shown g w book hellos (MapSent m) = WholeMap g w.registry_generation m
Shown g w book hellos (HelloSent inc ask) = HelloSeen hellos inc ask
Shown g w book hellos (WelcomeSent inc ask news m) = WelcomeSeen g w hellos inc ask news m

-- a log that began somewhere and took some inputs
pub record Ran (s : LogState) : Type 0 where
  pub log : LogId
  pub inc : ℕ
  pub end : End
  pub groups : GroupMapState
  pub history : List log_ins.In
  pub reaches : s ≡ state_after (log_start log inc end groups) history

-- a log with its end: the booked segment that the end names is over the group that it names
pub record Behind (g : Setting) (w : State) (book : ℕ → Segment) (s : LogState) : Type 0 where
  pub ran : Ran s
  pub grouped : IsGrouped g book w.booked s.end

abbrev pub OwnerShown : Setting → State → (ℕ → Segment) → List Asked → Owner → Type 0
OwnerShown g w book hellos Down = w.phase ≡ Phase.down
OwnerShown g w book hellos (Opening s) = ScanShown g w book hellos s
OwnerShown g w book hellos (Writing chain s) = WritingShown g w book chain s × Behind g w book s
OwnerShown g w book hellos (Serving s) = Serves g w book s × Behind g w book s

-- the horizon of the pick, while the log is read back and its opening segment is written
abbrev pub StagePicked : ℕ → ℕ → Stage → Type 0
StagePicked low picked Hails = Unit {0}
StagePicked low picked (Gathers lists) = Unit {0}
StagePicked low picked (Asks lists) = Unit {0}
StagePicked low picked (Reads b r) = low ≡ picked
StagePicked low picked Over = Unit {0}

abbrev pub PickShown : ℕ → ℕ → Owner → Type 0
PickShown low picked Down = Unit {0}
PickShown low picked (Opening s) = StagePicked low picked s.stage
PickShown low picked (Writing chain s) = low ≡ picked
PickShown low picked (Serving s) = Unit {0}

-- what was in flight is just what is booked
pub record Flown (w : State) (book : ℕ → Segment) (flown : List Segment) : Type 0 where
  pub all : (x : ℕ) → w.booked x ≡ 1 → In (book x) flown
  pub booked : (s : Segment) → In s flown → (x : ℕ) × (w.booked x ≡ 1) × (s ≡ book x)

-- this name is filed
abbrev pub IsFiled : Setting → State → SegName → Type 0
IsFiled g w name = (x : ℕ) × (name ≡ name_of g x) × (w.filed x ≡ 1)

pub record View (g : Setting) (n : Net) : Type 0 where
  pub w : State
  pub book : ℕ → Segment
  pub hellos : List Asked
  pub fixed : Fixed g w
  pub reached : Reached w
  pub paged : Book g w book
  pub spelled : IsSpelled g book w.booked
  pub flown : Flown w book n.flown
  pub shelves : (v : ℕ) → ShelfShown g w book v (n.shelves v)
  pub nobody : (x : ℕ) → w.holds 0 x ≡ 0
  pub registry : (v : ℕ) → w.registry_generation v ≡ n.registry v
  pub low : w.low ≡ n.low
  pub inc : w.incarnation ≡ n.inc
  pub owner : OwnerShown g w book hellos n.owner
  pub picked : PickShown w.pick_low n.picked n.owner
  pub sent : (p : Packet) → In p n.sent → Shown g w book hellos p
  pub asked : (a : Asked) → In a hellos → (a.inc ≤ w.incarnation) × (a.low ≤ w.low)
  pub filed : (name : SegName) → In name n.filed → IsFiled g w name
  -- in a log of which no restart is doubtful the line is trusted
  pub calm : g.doubts ≡ false → w.clean ≡ 1
  -- the end is filed
  pub highest : (w.end ≡ 0) ⊎ In (name_of g w.end) n.filed
  pub dropped : (x : ℕ) → (w.dropped x ≡ 0) ⊎ In (name_of g x) n.dropped
  pub gone : (name : SegName) → In name n.dropped → DropSeen g w name
