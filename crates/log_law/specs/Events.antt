-- What can happen in the small world. Each event says what came, what is sent, and what it asks of maps of groups and of the segments that are written.
use Rattle.std.specs.Prelude.{◌≡◌, ℕ, suc, ◌<◌, ◌≤◌, true, IfSome, List, [], ◌∷◌, ◌++◌, length}
use Rattle.xfs_base.specs.declared.fragment.FragMeta.{FragMeta}
use Rattle.xfs_base.specs.declared.fragment.Fragment.{Fragment}
use Rattle.xfs_base.specs.declared.news.SlotNews.{SlotNews}
use Rattle.xfs_base.specs.declared.segment.LogId.{LogId}
use Rattle.xfs_base.specs.declared.segment.Pass.{Pass}
use Rattle.xfs_base.specs.declared.segment.SegName.{SegName}
use Rattle.xfs_base.specs.Limits.{u32_end, block_logs}
use Rattle.segment_format.specs.declared.segment.Segment.{Segment}
use Rattle.segment_format.specs.Ranges.{Fits}
use Rattle.segment_format.specs.Text.{text_of, IsText}
use Rattle.group_map.specs.GroupMapState.{GroupMapState}
use Rattle.fragment_store.specs.Calls.{on_fence}
use Rattle.stripe_code.specs.declared.round.Answer.{Answer}
use Rattle.stripe_code.specs.declared.round.RoundState.TheVariants.{Read}
use Rattle.stripe_code.specs.declared.round.Told.{Told as Answered}
use Rattle.stripe_code.specs.declared.round.Told.TheVariants.{Held, Missing}
use Rattle.stripe_code.specs.Fragments.{fragment_at}
use Rattle.stripe_code.specs.Round.{RoundSoFar, IsRound, state_of}
use Rattle.stripe_code.specs.Stripe.{IsBytes, stripe_of}
use Rattle.client_log.specs.declared.input.In as log_ins
use Rattle.client_log.specs.declared.input.In.TheVariants as log_in
use Rattle.client_log.specs.LogState.{LogState, log_start as new_log}
use Rattle.client_log.specs.Transition as log
use Rattle.client_log.specs.Transition.{has_next}
use Rattle.log_scan.specs.declared.input.In as scan_ins
use Rattle.log_scan.specs.declared.input.In.TheVariants as scan_in
use Rattle.log_scan.specs.ScanState.{ScanState, scan_start}
use Rattle.log_scan.specs.Transition as scan
use Rattle.log_scan.specs.Transition.{least_horizon}
use Rattle.log_protocol.specs.Tables.{put, In}
use Rattle.log_tie.specs.Setting.{Setting}
use Rattle.log_flight.specs.Flights.{server_of}
use Rattle.log_tie.specs.Shelves.{is_of_log, Deed, shelf_after}
use Rattle.log_tie.specs.Shelves.Deed.{Stores, Fetches, Fences, Deletes, Fills, Loses}
use Rattle.log_tie.specs.Scans.{WholeMap}
use Rattle.log_law.specs.Net.{Net, Told, no_end, listed, answers, chain_in, first_write, after_log, after_writing, after_scan}
use Rattle.log_law.specs.Net.Packet.{StoreSent, StoredSent, FragmentSent, FenceSent, FencedSent, ListedSent, DeleteSent, MapSent, HelloSent, WelcomeSent}
use Rattle.log_law.specs.Net.Owner.{Down, Opening, Writing, Serving}

-- ---- segments that are written

-- A segment that its owner's program holds has a text: its numbers are in the ranges of their types, and it keeps the limits of its format.
pub record IsWritten (s : Segment) : Type 0 where
  pub fits : Fits s
  pub text : IsText (text_of s) s
  pub bytes : IsBytes (text_of s)

abbrev pub WritesText : log.Done → Type 0
WritesText d = IfSome d.state.flight (λ f. IsWritten f.segment)

-- a log can start behind the end that an opening tells: its number has one after it, and the opening segment has a text
abbrev pub StartsWith : Setting → ℕ → scan.Done → Told → Type 0
StartsWith g inc d t = (has_next t.end.seq ≡ true) × IfSome d.state.opening.groups (λ m. WritesText (first_write g inc t.end m))

abbrev pub CanStart : Setting → ℕ → scan.Done → Type 0
CanStart g inc d = IfSome (chain_in d.outs) (StartsWith g inc d)

-- ---- what came

-- to the log of an owner that serves; it takes the rest of its own accord
abbrev pub CameToLog : Net → log_ins.In → Type 0
CameToLog n (log_in.Put block entry value) = Unit {0}
CameToLog n (log_in.Parts items) = Unit {0}
CameToLog n log_in.Seal = Unit {0}
CameToLog n (log_in.Acked name index generation) = In (StoredSent name index generation) n.sent
CameToLog n (log_in.Maps m) = In (MapSent m) n.sent
CameToLog n log_in.Tick = Unit {0}

-- to the log of an owner that writes its opening segment; nothing is put there
abbrev pub CameToWriter : Net → log_ins.In → Type 0
CameToWriter n (log_in.Put block entry value) = ⊥
CameToWriter n (log_in.Parts items) = ⊥
CameToWriter n log_in.Seal = ⊥
CameToWriter n (log_in.Acked name index generation) = In (StoredSent name index generation) n.sent
CameToWriter n (log_in.Maps m) = In (MapSent m) n.sent
CameToWriter n log_in.Tick = Unit {0}

-- to an opening, of its own boot where the packet bears one; with what is said of horizons it may take a newer map that came before
abbrev pub CameToScan : Setting → Net → scan_ins.In → Type 0
CameToScan g n (scan_in.Welcome ask news groups) = ((m : GroupMapState) × In (WelcomeSent n.inc ask news m) n.sent) × In (MapSent groups) n.sent
CameToScan g n (scan_in.Fenced server generation held) = In (FencedSent server n.inc generation held) n.sent
CameToScan g n (scan_in.Got ask server generation f) = is_of_log g f.meta.name ≡ true → In (FragmentSent f) n.sent
CameToScan g n (scan_in.Missing ask server generation) = Unit {0}
CameToScan g n (scan_in.Maps m) = In (MapSent m) n.sent
CameToScan g n scan_in.Tick = Unit {0}

-- the fragments of a round came, each of this name
abbrev pub ToldCame : Net → SegName → Answered → Type 0
ToldCame n name (Held f) = In (FragmentSent f) n.sent × (f.meta.name ≡ name)
ToldCame n name (Missing generation) = Unit {0}

abbrev pub AllCame : Net → SegName → List Answer → Type 0
AllCame n name [] = Unit {0}
AllCame n name (a ∷ rest) = ToldCame n name a.told × AllCame n name rest

-- What a rebuild fills in at a server: of a segment that some server listed, the fragment of this server, cut from the text that a round gave.
pub record IsFilling (g : Setting) (n : Net) (v : ℕ) (f : Fragment) : Type 0 where
  pub lists : List FragMeta
  pub sent : In (ListedSent lists) n.sent
  pub meta : FragMeta
  pub among : In meta lists
  pub round : RoundSoFar
  pub is_round : IsRound round
  pub count : round.n ≡ length (g.stripe meta.group).members
  pub parity : round.parity ≡ (g.stripe meta.group).parity
  pub came : AllCame n meta.name round.answers
  pub text : List ℕ
  pub read : state_of round ≡ Read text
  pub place : ℕ
  pub within : place < round.n
  pub own : server_of (g.stripe meta.group).members place ≡ v
  pub cut : f ≡ record { meta = record meta { index = place }; bytes = fragment_at (stripe_of text round.n round.parity) place }

-- to a server; what is of another log may be anything, and a Fetch may come at any time
abbrev pub CameToServer : Setting → Net → ℕ → Deed → Type 0
CameToServer g n v (Stores f generation) = is_of_log g f.meta.name ≡ true → In (StoreSent v f generation) n.sent
CameToServer g n v (Fetches name) = Unit {0}
CameToServer g n v (Fences inc) = In (FenceSent v inc) n.sent
CameToServer g n v (Deletes name) = is_of_log g name ≡ true → In (DeleteSent name) n.sent
CameToServer g n v (Fills f) = is_of_log g f.meta.name ≡ true → IsFilling g n v f
CameToServer g n v Loses = (n.shelves v).generation < u32_end

-- ---- what can happen

pub data Happens (g : Setting) : Net → Net → Type 0 where
  -- the log of an owner that serves takes an input
  Acts : {n : Net} (s : LogState) (i : log_ins.In) → n.owner ≡ Serving s → CameToLog n i → WritesText (log.transition s i)
      → Happens g n (after_log g n (log.transition s i))
  -- so does the log of one that writes its opening segment
  Writes : {n : Net} (chain : List Segment) (s : LogState) (i : log_ins.In) → n.owner ≡ Writing chain s → CameToWriter n i → WritesText (log.transition s i)
      → Happens g n (after_writing g n chain (log.transition s i))
  -- an opening takes an input
  Opens : {n : Net} (s : ScanState) (i : scan_ins.In) → n.owner ≡ Opening s → CameToScan g n i → CanStart g n.inc (scan.transition s i)
      → Happens g n (after_scan g n s (scan.transition s i))
  -- the owner falls, and restarts in its next boot
  Crashes : {n : Net} → Happens g n (record n { owner = Down; feed = [] })
  Restarts : {n : Net} → n.owner ≡ Down → Happens g n (record n { inc = suc n.inc; owner = Opening (scan_start g.log (suc n.inc)) })
  -- The owner of a manager's log restarts in its next boot, with a map that came, and serves a log that begins anew: it opens none. Such a log is one whose
  -- restarts may be doubtful: of its line nothing is claimed.
  Renews : {n : Net} (m : GroupMapState) → block_logs < g.log.0 → g.doubts ≡ true → n.owner ≡ Down → In (MapSent m) n.sent
      → Happens g n (record n { inc = suc n.inc; owner = Serving (new_log g.log (suc n.inc) no_end m) })
  -- something is done to a server's shelf
  Serves : {n : Net} (v : ℕ) (deed : Deed) → 0 < v → CameToServer g n v deed
      → Happens g n (record n { shelves = put n.shelves v (shelf_after g (n.shelves v) deed); sent = answers g v (n.shelves v) deed ++ n.sent })
  -- a server takes a Fence of another log
  Bars : {n : Net} (v : ℕ) (log : LogId) (pass : Pass) → Happens g n (record n { shelves = put n.shelves v (on_fence (n.shelves v) log pass) })
  -- a server lists what it holds
  Lists : {n : Net} (v : ℕ) → Happens g n (record n { sent = ListedSent (listed g (n.shelves v)) ∷ n.sent })
  -- the registry hears of a generation that a server reached
  Hears : {n : Net} (v generation : ℕ) → n.registry v ≤ generation → generation ≤ (n.shelves v).generation
      → Happens g n (record n { registry = put n.registry v generation })
  -- the least horizon rises, no further than what is filed
  Raises : {n : Net} (low : ℕ) (name : SegName) → n.low ≤ low → In name n.filed → low ≤ suc name.seq → Happens g n (record n { low = low })
  -- the registry sends a map, or answers a question of the owner
  Publishes : {n : Net} (m : GroupMapState) → WholeMap g n.registry m → Happens g n (record n { sent = MapSent m ∷ n.sent })
  Welcomes : {n : Net} (inc ask : ℕ) (news : List SlotNews) (m : GroupMapState) → In (HelloSent inc ask) n.sent → least_horizon g.log.0 news ≡ n.low
      → WholeMap g n.registry m
      → Happens g n (record n { sent = WelcomeSent inc ask news m ∷ n.sent })
  -- the cleaner drops a segment that some server listed, below the least horizon
  Drops : {n : Net} (lists : List FragMeta) (meta : FragMeta) → In (ListedSent lists) n.sent → In meta lists → meta.name.seq < n.low
      → Happens g n (record n { sent = DeleteSent meta.name ∷ n.sent; dropped = meta.name ∷ n.dropped })

pub data Runs (g : Setting) : Net → Net → Type 0 where
  Begun : {n : Net} → Runs g n n
  On : {n m o : Net} → Runs g n m → Happens g m o → Runs g n o
