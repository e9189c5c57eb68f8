-- A small world of the machines of one log: the shelves of all servers, the log's owner through its falls and reopenings, the registry's generations and its
-- least horizon, and the packets about the log that were sent, of which any may come any number of times, in any order, or never.
use Rattle.log_scan.specs.declared.stage.Stage.TheVariants.{Hails, Gathers, Asks, Reads, Over}
use Rattle.log_scan.specs.declared.stage.Stage.{Stage}
use Rattle.std.specs.Prelude.{ℕ, ◌&&◌, if◌then◌else◌, List, [], ◌∷◌, ◌++◌, Option, Some, None, filter, Bool, true, false}
use Rattle.xfs_base.specs.declared.fragment.FragMeta.{FragMeta}
use Rattle.xfs_base.specs.declared.fragment.Fragment.{Fragment}
use Rattle.xfs_base.specs.declared.news.SlotNews.{SlotNews}
use Rattle.xfs_base.specs.declared.segment.End.{End}
use Rattle.xfs_base.specs.declared.segment.SegName.{SegName}
use Rattle.segment_format.specs.declared.segment.Segment.{Segment}
use Rattle.group_map.specs.GroupMapState.{GroupMapState}
use Rattle.fragment_store.specs.ShelfState.{ShelfState, new_shelf, held_at}
use Rattle.fragment_store.specs.Calls.{on_list}
use Rattle.log_flight.specs.Flights.{FlightState}
use Rattle.client_log.specs.declared.input.In.TheVariants as log_in
use Rattle.client_log.specs.declared.output.Out as log_outs
use Rattle.client_log.specs.declared.output.Out.TheVariants as log_out
use Rattle.client_log.specs.LogState.{LogState, log_start}
use Rattle.client_log.specs.Transition as log
use Rattle.log_scan.specs.declared.output.Out as scan_outs
use Rattle.log_scan.specs.declared.output.Out.TheVariants as scan_out
use Rattle.log_scan.specs.ScanState.{ScanState}
use Rattle.log_scan.specs.Transition as scan
use Rattle.log_tie.specs.Setting.{Setting}
use Rattle.log_tie.specs.Seen.{log_filed}
use Rattle.log_tie.specs.Shelves.{is_of_log, is_stored, Deed}
use Rattle.log_tie.specs.Shelves.Deed.{Stores, Fetches, Fences, Deletes, Fills, Loses}
pub use Rattle.xfs_base.specs.Segments.{no_end}

-- A packet about the log, with the server that gets it or sends it first. A Fence and a Fenced, a Hello and a Welcome bear the incarnation of the owner; a
-- Store, and what a server lists for a Fence, the server's generation.
pub data Packet : Type 0 where
  StoreSent : ℕ → Fragment → ℕ → Packet
  StoredSent : SegName → ℕ → ℕ → Packet
  FragmentSent : Fragment → Packet
  FenceSent : ℕ → ℕ → Packet
  FencedSent : ℕ → ℕ → ℕ → List FragMeta → Packet
  ListedSent : List FragMeta → Packet
  DeleteSent : SegName → Packet
  MapSent : GroupMapState → Packet
  HelloSent : ℕ → ℕ → Packet
  WelcomeSent : ℕ → ℕ → List SlotNews → GroupMapState → Packet

-- The owner of the log: down; opening its log; with its opening segment in flight, after these were read back; serving.
pub data Owner : Type 0 where
  Down : Owner
  Opening : ScanState → Owner
  Writing : List Segment → LogState → Owner
  Serving : LogState → Owner

-- The shelves and what the registry knows of their generations, the least horizon of the log, and the owner with its incarnation; all packets that were
-- sent, the names that were filed and dropped, and those whose rows the owner's feed has. To state the laws, also all segments that were ever in flight,
-- and the horizon by which the last opening picked where the log goes on.
pub record Net : Type 0 where
  pub shelves : ℕ → ShelfState
  pub registry : ℕ → ℕ
  pub low : ℕ
  pub inc : ℕ
  pub owner : Owner
  pub sent : List Packet
  pub filed : List SegName
  pub dropped : List SegName
  pub feed : List SegName
  pub flown : List Segment
  pub picked : ℕ

-- at first every shelf is empty and the owner serves an empty log in its first boot, with some map of groups
abbrev pub opening : Setting → GroupMapState → Net
opening g m = record {
  shelves = λ v. new_shelf;
  registry = λ v. 1;
  low = 1;
  inc = 1;
  owner = Owner.Serving (log_start g.log 1 no_end m);
  sent = [];
  filed = [];
  dropped = [];
  feed = [];
  flown = [];
  picked = 1;
}

-- ---- the log

-- what the log sends
abbrev pub log_packets : List log_outs.Out → List Packet
log_packets [] = []
log_packets (log_out.Send f m ∷ os) = Packet.StoreSent m.server f m.generation ∷ log_packets os
log_packets (log_out.Settled end rows ∷ os) = log_packets os

-- what is in flight was in flight
abbrev pub flown_with : Option FlightState → List Segment → List Segment
flown_with None before = before
flown_with (Some f) before = f.segment ∷ before

abbrev pub names_of : List Segment → List SegName
names_of [] = []
names_of (s ∷ ss) = s.name ∷ names_of ss

-- the log of an owner that serves took an input
abbrev pub after_log : Setting → Net → log.Done → Net
after_log g n d =
    record n {
      owner = Owner.Serving d.state;
      sent = log_packets d.outs ++ n.sent;
      filed = log_filed g.log d.outs ++ n.filed;
      feed = log_filed g.log d.outs ++ n.feed;
      flown = flown_with d.state.flight n.flown;
    }

-- the log of an owner that writes its opening segment took an input: once that is settled, it and what was read back are filed, and the owner
-- serves with them in its feed
abbrev pub after_flight : Setting → Net → List Segment → log.Done → Option FlightState → Net
after_flight g n chain d None =
    record n {
      owner = Owner.Serving d.state;
      sent = log_packets d.outs ++ n.sent;
      filed = log_filed g.log d.outs ++ (names_of chain ++ n.filed);
      feed = log_filed g.log d.outs ++ names_of chain;
    }
after_flight g n chain d (Some f) =
    record n {
      owner = Owner.Writing chain d.state;
      sent = log_packets d.outs ++ n.sent;
      filed = log_filed g.log d.outs ++ n.filed;
      flown = f.segment ∷ n.flown;
    }

abbrev pub after_writing : Setting → Net → List Segment → log.Done → Net
after_writing g n chain d = after_flight g n chain d d.state.flight

-- ---- an opening

-- what an opening sends
abbrev pub scan_packets : ℕ → List scan_outs.Out → List Packet
scan_packets inc [] = []
scan_packets inc (scan_out.Hello ask ∷ os) = Packet.HelloSent inc ask ∷ scan_packets inc os
scan_packets inc (scan_out.Fence server ∷ os) = Packet.FenceSent server inc ∷ scan_packets inc os
scan_packets inc (scan_out.Fetch server name ask ∷ os) = scan_packets inc os
scan_packets inc (scan_out.Chain segments end prior ∷ os) = scan_packets inc os
scan_packets inc (scan_out.Lost name ∷ os) = scan_packets inc os

-- the chain that an opening tells, and the end that it is read from
pub record Told : Type 0 where
  pub segments : List Segment
  pub end : End

abbrev pub chain_in : List scan_outs.Out → Option Told
chain_in [] = None
chain_in (scan_out.Hello ask ∷ os) = chain_in os
chain_in (scan_out.Fence server ∷ os) = chain_in os
chain_in (scan_out.Fetch server name ask ∷ os) = chain_in os
chain_in (scan_out.Chain segments end prior ∷ os) = Some (record { segments = segments; end = end })
chain_in (scan_out.Lost name ∷ os) = chain_in os

-- the log that starts behind an end, and writes a segment without items
abbrev pub first_write : Setting → ℕ → End → GroupMapState → log.Done
first_write g inc end m = log.transition (log_start g.log inc end m) (log_in.Parts [])

-- it reads back, from where it picked
abbrev pub is_reading : Stage → Bool
is_reading Hails = false
is_reading (Gathers lists) = false
is_reading (Asks lists) = false
is_reading (Reads b r) = true
is_reading Over = false

abbrev pub picked_by : Net → ScanState → scan.Done → ℕ
picked_by n s d = if is_reading s.stage then n.picked else d.state.opening.low

-- the opening goes on
abbrev pub scans_on : Net → ScanState → scan.Done → Net
scans_on n s d = record n { owner = Owner.Opening d.state; sent = scan_packets n.inc d.outs ++ n.sent; picked = picked_by n s d }

-- the opening took an input: where it tells its chain, the log starts
abbrev pub after_told : Setting → Net → ScanState → scan.Done → Option Told → Option GroupMapState → Net
after_told g n s d None groups = scans_on n s d
after_told g n s d (Some t) None = scans_on n s d
after_told g n s d (Some t) (Some m) =
    let e = first_write g n.inc t.end m in record n {
      owner = Owner.Writing t.segments e.state;
      sent = log_packets e.outs ++ (scan_packets n.inc d.outs ++ n.sent);
      filed = log_filed g.log e.outs ++ n.filed;
      flown = flown_with e.state.flight n.flown;
      picked = picked_by n s d;
    }

abbrev pub after_scan : Setting → Net → ScanState → scan.Done → Net
after_scan g n s d = after_told g n s d (chain_in d.outs) d.state.opening.groups

-- ---- servers

-- what is said of the fragments of the log
abbrev pub listed : Setting → ShelfState → List FragMeta
listed g s = filter (λ m. is_of_log g m.name) (on_list s)

-- the fragment that a server sends
abbrev pub fragment_told : Option Fragment → List Packet
fragment_told None = []
fragment_told (Some f) = Packet.FragmentSent f ∷ []

-- what a server answers
abbrev pub answers : Setting → ℕ → ShelfState → Deed → List Packet
answers g v s (Stores f generation) =
    if is_of_log g f.meta.name && is_stored s f generation then Packet.StoredSent f.meta.name f.meta.index generation ∷ [] else []
answers g v s (Fetches name) = if is_of_log g name then fragment_told (held_at s.held name) else []
answers g v s (Fences inc) = Packet.FencedSent v inc s.generation (listed g s) ∷ []
answers g v s (Deletes name) = []
answers g v s (Fills f) = []
answers g v s Loses = []
