-- What a server is told to delete was dropped, at each moment of every run of the small world of a log.
use Rattle.std.proofs.Common.{⊎_elim, ℕ, ◌&&◌, List, [], ◌∷◌, ◌++◌, Option, Some, None, inl, inr}
use Rattle.client_log.specs.declared.output.Out as log_outs
use Rattle.client_log.specs.declared.output.Out.TheVariants as log_out
use Rattle.client_log.specs.Transition as log
use Rattle.fragment_store.specs.ShelfState.{ShelfState, held_at}
use Rattle.group_map.specs.GroupMapState.{GroupMapState}
use Rattle.log_flight.specs.Flights.{FlightState}
use Rattle.log_law.specs.Events.{Happens, Runs}
use Rattle.log_law.specs.Events.Happens.{Acts, Bars, Crashes, Drops, Hears, Lists, Opens, Publishes, Raises, Renews, Restarts, Serves, Welcomes, Writes}
use Rattle.log_law.specs.Events.Runs.{Begun, On}
use Rattle.log_law.specs.Laws.{Moment}
use Rattle.log_law.specs.Net.{Net, Packet, Told, after_flight, after_told, answers, chain_in, first_write, fragment_told, log_packets, opening, scan_packets}
use Rattle.log_law.specs.Net.Packet.{DeleteSent, StoredSent}
use Rattle.log_protocol.specs.Tables.{In}
use Rattle.log_scan.specs.declared.output.Out as scan_outs
use Rattle.log_scan.specs.declared.output.Out.TheVariants as scan_out
use Rattle.log_scan.specs.ScanState.{ScanState}
use Rattle.log_scan.specs.Transition as scan
use Rattle.log_tie.specs.Setting.{Setting}
use Rattle.log_tie.specs.Shelves.{Deed, is_of_log, is_stored}
use Rattle.log_tie.specs.Shelves.Deed.{Deletes, Fences, Fetches, Fills, Loses, Stores}
use Rattle.segment_format.specs.declared.segment.Segment.{Segment}
use Rattle.xfs_base.proofs.Booleans.{by_test}
use Rattle.xfs_base.specs.declared.fragment.Fragment.{Fragment}
use Rattle.xfs_base.specs.declared.segment.SegName.{SegName}
use Rattle.log_tie.proofs.Listings.{in_either}

abbrev DeletesNone : List Packet → Type 0
DeletesNone packets = (name : SegName) → In (DeleteSent name) packets → ⊥

abbrev AreDrops : Net → Type 0
AreDrops n = (name : SegName) → In (DeleteSent name) n.sent → In name n.dropped

-- ---- what is sent

by_log : (outs : List log_outs.Out) → DeletesNone (log_packets outs)
by_log [] name fact = fact
by_log (log_out.Send f m ∷ os) name (inl e) = absurd cc
by_log (log_out.Send f m ∷ os) name (inr fact) = by_log os name fact
by_log (log_out.Settled end rows ∷ os) name fact = by_log os name fact

by_scan : (inc : ℕ) (outs : List scan_outs.Out) → DeletesNone (scan_packets inc outs)
by_scan inc [] name fact = fact
by_scan inc (scan_out.Hello ask ∷ os) name (inl e) = absurd cc
by_scan inc (scan_out.Hello ask ∷ os) name (inr fact) = by_scan inc os name fact
by_scan inc (scan_out.Fence server ∷ os) name (inl e) = absurd cc
by_scan inc (scan_out.Fence server ∷ os) name (inr fact) = by_scan inc os name fact
by_scan inc (scan_out.Fetch server wanted ask ∷ os) name fact = by_scan inc os name fact
by_scan inc (scan_out.Chain segments end prior ∷ os) name fact = by_scan inc os name fact
by_scan inc (scan_out.Lost lost ∷ os) name fact = by_scan inc os name fact

by_fragment : (o : Option Fragment) → DeletesNone (fragment_told o)
by_fragment None name fact = fact
by_fragment (Some f) name (inl e) = absurd cc
by_fragment (Some f) name (inr fact) = fact

none_is : DeletesNone []
none_is name fact = fact

one_stored : (stored : SegName) (index generation : ℕ) → DeletesNone (StoredSent stored index generation ∷ [])
one_stored stored index generation name (inl e) = absurd cc
one_stored stored index generation name (inr fact) = fact

by_server : (g : Setting) (v : ℕ) (s : ShelfState) (deed : Deed) → DeletesNone (answers g v s deed)
by_server g v s (Stores f generation) name fact =
    by_test DeletesNone (is_of_log g f.meta.name && is_stored s f generation) (StoredSent f.meta.name f.meta.index generation ∷ []) []
    (λ t. one_stored f.meta.name f.meta.index generation) (λ t. none_is) name fact
by_server g v s (Fetches wanted) name fact =
    by_test DeletesNone (is_of_log g wanted) (fragment_told (held_at s.held wanted)) [] (λ t. by_fragment (held_at s.held wanted)) (λ t. none_is) name fact
by_server g v s (Fences inc) name (inl e) = absurd cc
by_server g v s (Fences inc) name (inr fact) = fact
by_server g v s (Deletes gone) name fact = fact
by_server g v s (Fills f) name fact = fact
by_server g v s Loses name fact = fact

-- ---- what happens

module _ (g : Setting) (n : Net) (so : AreDrops n) where
  -- what is sent anew stands before what was sent
  more_so : (more : List Packet) (name : SegName) → DeletesNone more → In (DeleteSent name) (more ++ n.sent) → In name n.dropped
  more_so more name none fact = ⊎_elim (λ first. absurd (none name first)) (so name) (in_either (DeleteSent name) more n.sent fact)

  flight_so : (chain : List Segment) (d : log.Done) (o : Option FlightState) → AreDrops (after_flight g n chain d o)
  flight_so chain d None name fact = more_so (log_packets d.outs) name (by_log d.outs) fact
  flight_so chain d (Some f) name fact = more_so (log_packets d.outs) name (by_log d.outs) fact

  told_so : (s : ScanState) (d : scan.Done) (t : Option Told) (groups : Option GroupMapState) → AreDrops (after_told g n s d t groups)
  told_so s d None groups name fact = more_so (scan_packets n.inc d.outs) name (by_scan n.inc d.outs) fact
  told_so s d (Some t) None name fact = more_so (scan_packets n.inc d.outs) name (by_scan n.inc d.outs) fact
  told_so s d (Some t) (Some m) name fact =
      let first = first_write g n.inc t.end m in
      ⊎_elim (λ here. absurd (by_log first.outs name here)) (more_so (scan_packets n.inc d.outs) name (by_scan n.inc d.outs))
      (in_either (DeleteSent name) (log_packets first.outs) (scan_packets n.inc d.outs ++ n.sent) fact)

  happens_so : (o : Net) → Happens g n o → AreDrops o
  happens_so o (Acts s i fact came texts) name sent = more_so (log_packets (log.transition s i).outs) name (by_log (log.transition s i).outs) sent
  happens_so o (Writes chain s i fact came texts) name sent = flight_so chain (log.transition s i) (log.transition s i).state.flight name sent
  happens_so o (Opens s i fact came can) name sent =
      told_so s (scan.transition s i) (chain_in (scan.transition s i).outs) (scan.transition s i).state.opening.groups name sent
  happens_so o Crashes name sent = so name sent
  happens_so o (Restarts down) name sent = so name sent
  happens_so o (Renews map high doubts down came) name sent = so name sent
  happens_so o (Serves v deed some came) name sent = more_so (answers g v (n.shelves v) deed) name (by_server g v (n.shelves v) deed) sent
  happens_so o (Bars v l pass) name sent = so name sent
  happens_so o (Lists v) name (inl e) = absurd cc
  happens_so o (Lists v) name (inr sent) = so name sent
  happens_so o (Hears v generation past reached) name sent = so name sent
  happens_so o (Raises low highest past fact below) name sent = so name sent
  happens_so o (Publishes map whole) name (inl e) = absurd cc
  happens_so o (Publishes map whole) name (inr sent) = so name sent
  happens_so o (Welcomes inc ask news map hello low whole) name (inl e) = absurd cc
  happens_so o (Welcomes inc ask news map hello low whole) name (inr sent) = so name sent
  happens_so o (Drops lists meta listed within below) name (inl e) = inl (cc)
  happens_so o (Drops lists meta listed within below) name (inr sent) = inr (so name sent)

runs_so : (g : Setting) (n o : Net) → Runs g n o → AreDrops n → AreDrops o
runs_so g n o Begun so = so
runs_so g n o (On {m = m} run happens) so = happens_so g m (runs_so g n m run so) o happens

pub deletes_are_drops : (g : Setting) (n : Net) → Moment g n → (name : SegName) → In (DeleteSent name) n.sent → In name n.dropped
deletes_are_drops g n m = runs_so g (opening g m.map) n m.run (λ name fact. fact)
