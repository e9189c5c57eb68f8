-- How a log that is opened again is seen, from the restart until all of it is read back.
use Rattle.std.specs.Prelude.{◌≡◌, ℕ, suc, ◌+◌, ◌<◌, ◌≤◌, true, false, List, [], ◌∷◌, Option, Some, None, length, reverse}
use Rattle.std.specs.List.{AllByRecursion}
use Rattle.xfs_base.specs.declared.fragment.FragMeta.{FragMeta}
use Rattle.xfs_base.specs.declared.news.SlotNews.{SlotNews}
use Rattle.xfs_base.specs.declared.segment.End.{End}
use Rattle.segment_format.specs.declared.segment.Segment.{Segment}
use Rattle.group_map.specs.declared.group.Group.{Group}
use Rattle.group_map.specs.GroupMapState.{GroupMapState}
use Rattle.group_map.specs.Groups.{group_of}
use Rattle.segment_reading.specs.Reading.{ReadingState}
use Rattle.stripe_code.specs.Fragments.{meta_of}
use Rattle.stripe_code.specs.Stripe.{IsCut}
use Rattle.log_scan.specs.declared.input.In as inputs
use Rattle.log_scan.specs.declared.input.In.TheVariants.{Welcome, Fenced, Got, Missing, Maps, Tick}
use Rattle.log_scan.specs.declared.listing.Listing.{Listing}
use Rattle.log_scan.specs.declared.opening.Opening.{Opening}
use Rattle.log_scan.specs.declared.output.Out.{Out}
use Rattle.log_scan.specs.declared.output.Out.TheVariants.{Hello, Fence, Fetch, Chain, Lost}
use Rattle.log_scan.specs.declared.stage.Backward.{Backward}
use Rattle.log_scan.specs.declared.stage.Stage.{Stage}
use Rattle.log_scan.specs.declared.stage.Stage.TheVariants.{Hails, Gathers, Asks, Reads, Over}
use Rattle.log_scan.specs.Pick.{has_name, has_list}
use Rattle.log_scan.specs.ScanState.{ScanState, scan_start}
use Rattle.log_scan.specs.Transition.{target_at, is_bottom, least_horizon, transition}
use Rattle.log_protocol.specs.Phase
use Rattle.log_protocol.specs.LogLaws.{Reached}
use Rattle.log_protocol.specs.Packets.{FencedPacket}
use Rattle.log_protocol.specs.State.{State}
use Rattle.log_protocol.specs.Step.{Steps}
use Rattle.log_protocol.specs.Tables.{In}
use Rattle.log_tie.specs.Setting.{Setting, stripe_of_group, present_at, name_of, point}
use Rattle.log_flight.specs.Flights.{server_of}
use Rattle.log_tie.specs.Seen.{Book, Fixed, Goes}
use Rattle.log_tie.specs.Inputs.{MapSeen}
use Rattle.log_tie.specs.Shelves.{flag, is_of_log, IsPiece}
use Rattle.log_tie.specs.Openings.{Chained, AllFrom, ReadShown}
use Rattle.log_tie.specs.Rounds.{IsSpelled, IsGrouped, RoundShown}

-- ---- what the world tells an opening

-- a question to the registry: of which boot, its number, and the least horizon when it was asked
pub record Asked : Type 0 where
  pub inc : ℕ
  pub ask : ℕ
  pub low : ℕ

-- the questions, with those that are asked now
abbrev pub asked_by : ℕ → ℕ → List Out → List Asked → List Asked
asked_by inc low [] hellos = hellos
asked_by inc low (Hello ask ∷ outs) hellos = record { inc = inc; ask = ask; low = low } ∷ asked_by inc low outs hellos
asked_by inc low (Fence server ∷ outs) hellos = asked_by inc low outs hellos
asked_by inc low (Fetch server name ask ∷ outs) hellos = asked_by inc low outs hellos
asked_by inc low (Chain segments end prior ∷ outs) hellos = asked_by inc low outs hellos
asked_by inc low (Lost name ∷ outs) hellos = asked_by inc low outs hellos

-- a map of the registry's, over all servers, in which each id names its stripe over servers that there are
pub record WholeMap (g : Setting) (registry : ℕ → ℕ) (m : GroupMapState) : Type 0 where
  pub seen : MapSeen g registry m
  pub size : m.servers ≡ g.servers
  pub named : (id : ℕ) (group : Group) → group_of m id ≡ Some group → g.stripe id ≡ stripe_of_group group
  pub some : (id : ℕ) (group : Group) → group_of m id ≡ Some group → (j : ℕ) → j < length group.members → 0 < server_of group.members j
  pub cut : (id : ℕ) (group : Group) → group_of m id ≡ Some group → IsCut (length group.members) group.parity

-- the registry's answer to a question that was asked: its horizon is no older than the question
pub record Answered (g : Setting) (w : State) (hellos : List Asked) (ask : ℕ) (news : List SlotNews) : Type 0 where
  pub question : Asked
  pub sent : In question hellos
  pub own : question.inc ≡ w.incarnation
  pub answers : question.ask ≡ ask
  pub later : question.low ≤ least_horizon g.log.0 news
  pub known : least_horizon g.log.0 news ≤ w.low

-- what is said of fragments of booked segments
abbrev pub AllMetas : (ℕ → Segment) → (ℕ → ℕ) → List FragMeta → Type 0
AllMetas book booked [] = Unit {0}
AllMetas book booked (m ∷ ms) = ((x : ℕ) × (i : ℕ) × (booked x ≡ 1) × (m ≡ meta_of (book x) i)) × AllMetas book booked ms

-- a Fenced that was sent: the list names what was held
pub record FencedSeen (g : Setting) (w : State) (book : ℕ → Segment) (from inc generation : ℕ) (held : List FragMeta) : Type 0 where
  pub low : ℕ
  pub listed : ℕ → ℕ
  pub sent : In (record { from = from; incarnation = inc; generation = generation; low = low; listed = listed }) w.fenceds
  pub lists : (x : ℕ) → listed x ≡ flag (has_name (name_of g x) held)
  pub whole : AllMetas book w.booked held

-- ---- how an opening is seen

-- a list that is kept: it was sent to this boot at a horizon that is no later than this one, by a server that there is, and no other list is that server's
pub record ListKept (g : Setting) (w : State) (book : ℕ → Segment) (bound : ℕ) (l : Listing) (others : List Listing) : Type 0 where
  pub seen : FencedSeen g w book l.server w.incarnation l.generation l.held
  pub past : seen.low ≤ bound
  pub exists : l.server < suc g.servers
  pub only : has_list l.server others ≡ false

abbrev pub AllListed : Setting → State → (ℕ → Segment) → ℕ → List Listing → Type 0
AllListed g w book bound [] = Unit {0}
AllListed g w book bound (l ∷ ls) = ListKept g w book bound l ls × AllListed g w book bound ls

-- server 0, which is none, lists nothing
pub record Phantom (w : State) : Type 0 where
  pub generation : ℕ
  pub listed : ℕ → ℕ
  pub nothing : (x : ℕ) → listed x ≡ 0
  pub sent : In (record { from = 0; incarnation = w.incarnation; generation = generation; low = w.begin_low; listed = listed }) w.fenceds

-- the map that the owner took
pub record Mapped (g : Setting) (w : State) (groups : Option GroupMapState) : Type 0 where
  pub map : GroupMapState
  pub taken : groups ≡ Some map
  pub whole : WholeMap g w.registry_generation map
  pub known : (v : ℕ) → w.owner_generation v ≡ present_at map v

pub record Gathering (g : Setting) (w : State) (book : ℕ → Segment) (o : Opening) (bound : ℕ) (lists : List Listing) : Type 0 where
  pub phase : w.phase ≡ Phase.gathering
  pub phantom : Phantom w
  pub mapped : Mapped g w o.groups
  pub kept : AllListed g w book bound lists

-- All lists are in, and none is later than a horizon that each answer to the last question has reached.
pub record Asking (g : Setting) (w : State) (book : ℕ → Segment) (hellos : List Asked) (o : Opening) (lists : List Listing) : Type 0 where
  pub bound : ℕ
  pub gathering : Gathering g w book o bound lists
  pub every : (v : ℕ) → 0 < v → v < suc g.servers → has_list v lists ≡ true
  pub past : bound ≤ w.low
  pub begun : w.begin_low ≤ bound
  pub no_older : (a : Asked) → In a hellos → a.inc ≡ w.incarnation → a.ask ≡ o.ask → bound ≤ a.low

-- the reading, where there is one, looks for the segment that an end names, over the group that the end names
abbrev pub LooksFor : Setting → (ℕ → Segment) → (ℕ → ℕ) → End → Option ReadingState → Type 0
LooksFor g book booked e None = Unit {0}
LooksFor g book booked e (Some r) = (r.target ≡ target_at g.log e) × RoundShown g book booked e r.round

-- The chain is read as far as it is kept, from the number that the pick allowed, and the next segment is the one before it.
pub record ReadingShown (g : Setting) (w : State) (book : ℕ → Segment) (o : Opening) (b : Backward) : Type 0 where
  pub phase : w.phase ≡ Phase.reading
  pub mapped : Mapped g w o.groups
  pub base : w.base ≡ point g b.start.seq b.start.pass
  pub begun : IsGrouped g book w.booked b.start
  pub opening : w.opening_seq ≡ b.start.seq + 1
  pub low : w.read_low ≡ o.low
  pub past : w.pick_low ≤ w.read_low
  pub from : AllFrom w.pick_low (reverse b.chain)
  pub chained : Chained g w book b.start.seq (point g b.next.seq b.next.pass) (reverse b.chain)
  pub seq : b.next.seq + length (reverse b.chain) ≡ b.start.seq
  pub grouped : IsGrouped g book w.booked b.next

abbrev pub StageShown : Setting → State → (ℕ → Segment) → List Asked → Opening → Stage → Type 0
StageShown g w book hellos o Hails = (w.phase ≡ Phase.gathering) × Phantom w
StageShown g w book hellos o (Gathers lists) = Gathering g w book o w.low lists
StageShown g w book hellos o (Asks lists) = Asking g w book hellos o lists
StageShown g w book hellos o (Reads b r) = ReadingShown g w book o b × (is_bottom o.low b.next ≡ false) × LooksFor g book w.booked b.next r
StageShown g w book hellos o Over = w.phase ≡ Phase.reading

-- An opening of the log in the owner's boot: no question of that boot has a number above its last one's.
pub record ScanShown (g : Setting) (w : State) (book : ℕ → Segment) (hellos : List Asked) (s : ScanState) : Type 0 where
  pub log : s.opening.log ≡ g.log
  pub inc : s.opening.inc ≡ w.incarnation
  pub horizon : s.opening.low ≤ w.low
  pub asked : (a : Asked) → In a hellos → a.inc ≡ w.incarnation → a.ask ≤ s.opening.ask
  pub stage : StageShown g w book hellos s.opening s.stage

-- where a chain is told, all is read back, down to the horizon that the opening took last
abbrev pub OutShown : Setting → State → (ℕ → Segment) → Opening → Out → Type 0
OutShown g w book o (Hello ask) = Unit {0}
OutShown g w book o (Fence server) = Unit {0}
OutShown g w book o (Fetch server name ask) = Unit {0}
OutShown g w book o (Chain segments end prior) = (m : GroupMapState) × (o.groups ≡ Some m) × (w.read_low ≡ o.low) × ReadShown g w book end segments m
OutShown g w book o (Lost name) = Unit {0}

-- ---- the laws

-- what the world owes each input
abbrev pub BringsScan : Setting → State → (ℕ → Segment) → List Asked → ScanState → inputs.In → Type 0
BringsScan g w book hellos s (Welcome ask news groups) = Answered g w hellos ask news × WholeMap g w.registry_generation groups
BringsScan g w book hellos s (Fenced server generation held) = FencedSeen g w book server w.incarnation generation held
BringsScan g w book hellos s (Got ask server generation fragment) = is_of_log g fragment.meta.name ≡ true → IsPiece g book w.booked fragment
BringsScan g w book hellos s (Missing ask server generation) = Unit {0}
BringsScan g w book hellos s (Maps groups) = WholeMap g w.registry_generation groups
BringsScan g w book hellos s Tick = Unit {0}

-- the opening is seen as it is after the input, and what it tells is read back
pub record Scanned (g : Setting) (w : State) (book : ℕ → Segment) (hellos : List Asked) (s : ScanState) (outs : List Out) : Type 0 where
  pub shown : ScanShown g w book (asked_by w.incarnation w.low outs hellos) s
  pub gives : AllByRecursion (OutShown g w book s.opening) outs

-- nothing is booked while a log is read back
abbrev pub BooksNothing : State → State → Type 0
BooksNothing w v = (x : ℕ) → v.booked x ≡ 1 → w.booked x ≡ 1

-- what is picked is picked by the horizon that the opening took last, once
pub record PicksAtHorizon (w v : State) : Type 0 where
  pub begins : w.phase ≡ Phase.gathering → v.phase ≡ Phase.reading → v.pick_low ≡ v.read_low
  pub stays : w.phase ≡ Phase.reading → v.pick_low ≡ w.pick_low

-- Each input of an opening is taken by steps of the owner, where what is booked can be read back.
abbrev pub ScanTakes : Type 0
ScanTakes =
    (g : Setting) (w : State) (book : ℕ → Segment) (hellos : List Asked) (s : ScanState) (input : inputs.In) → Fixed g w → Reached w → Book g w book
    → IsSpelled g book w.booked → ScanShown g w book hellos s → BringsScan g w book hellos s input
    → Goes g w book (λ v later. Scanned g v later hellos (transition s input).state (transition s input).outs × BooksNothing w v × PicksAtHorizon w v) []

-- A restart: the owner's next boot, in which server 0 is asked at once; all else is as it was.
pub record Restarted (g : Setting) (w : State) (book : ℕ → Segment) (hellos : List Asked) : Type 0 where
  pub world : State
  pub steps : Steps w world
  pub incarnation : world.incarnation ≡ suc w.incarnation
  pub fixed : Fixed g world
  pub paged : Book g world book
  pub shown : ScanShown g world book hellos (scan_start g.log world.incarnation)

-- An owner that is down begins to open its log by steps; no question of its next boot was asked, and server 0 holds nothing.
abbrev pub ScanStarts : Type 0
ScanStarts =
    (g : Setting) (w : State) (book : ℕ → Segment) (hellos : List Asked) → Fixed g w → Reached w → Book g w book → w.phase ≡ Phase.down → ((x : ℕ) → w.holds 0 x ≡ 0)
    → ((a : Asked) → In a hellos → a.inc ≤ w.incarnation)
    → Restarted g w book hellos

-- what others leave as it was while a log is opened
pub record Opener : Type 0 where
  pub incarnation : ℕ
  pub phase : ℕ
  pub begin_low : ℕ
  pub base : ℕ
  pub opening_seq : ℕ
  pub read_low : ℕ
  pub pick_low : ℕ
  pub owner_generation : ℕ → ℕ
  pub booked : ℕ → ℕ
  pub prior_of : ℕ → ℕ

abbrev pub opener_of : State → Opener
opener_of w = record {
  incarnation = w.incarnation;
  phase = w.phase;
  begin_low = w.begin_low;
  base = w.base;
  opening_seq = w.opening_seq;
  read_low = w.read_low;
  pick_low = w.pick_low;
  owner_generation = w.owner_generation;
  booked = w.booked;
  prior_of = w.prior_of;
}

-- Servers, the registry or the cleaner stepped: what was sent stays so, generations and the least horizon rise.
pub record ByOthers (w u : State) : Type 0 where
  pub opener : opener_of u ≡ opener_of w
  pub fenceds : (p : FencedPacket) → In p w.fenceds → In p u.fenceds
  pub registry : (v : ℕ) → w.registry_generation v ≤ u.registry_generation v
  pub low : w.low ≤ u.low

-- What others do leaves an opening as it is seen.
abbrev pub ScanStays : Type 0
ScanStays = (g : Setting) (w u : State) (book : ℕ → Segment) (hellos : List Asked) (s : ScanState) → ByOthers w u → ScanShown g w book hellos s
    → ScanShown g u book hellos s
