-- Maps that were sent are the registry's: each group id of theirs names its stripe.
use Rattle.std.proofs.Common.{◌≡◌, ◌⊎◌, ℕ, ◌&&◌, List, [], ◌∷◌, ◌++◌, Option, Some, None, sym, subst, inl, inr}
use Rattle.xfs_base.proofs.Booleans.{by_test}
use Rattle.xfs_base.specs.declared.fragment.Fragment.{Fragment}
use Rattle.segment_format.specs.declared.segment.Segment.{Segment}
use Rattle.group_map.specs.GroupMapState.{GroupMapState}
use Rattle.fragment_store.specs.ShelfState.{ShelfState, held_at}
use Rattle.log_flight.specs.Flights.{FlightState}
use Rattle.client_log.specs.declared.output.Out as log_outs
use Rattle.client_log.specs.declared.output.Out.TheVariants as log_out
use Rattle.client_log.specs.Transition as log
use Rattle.log_scan.specs.declared.output.Out as scan_outs
use Rattle.log_scan.specs.declared.output.Out.TheVariants as scan_out
use Rattle.log_scan.specs.ScanState.{ScanState}
use Rattle.log_scan.specs.Transition as scan
use Rattle.log_protocol.specs.Tables.{In}
use Rattle.log_tie.specs.Scans.{WholeMap}
use Rattle.log_tie.specs.Setting.{Setting}
use Rattle.log_tie.specs.Shelves.{is_of_log, is_stored, Deed}
use Rattle.log_tie.specs.Shelves.Deed.{Stores, Fetches, Fences}
use Rattle.log_law.specs.Net.{Net, Packet, Told, log_packets, scan_packets, chain_in, first_write, fragment_told, answers, after_flight, after_told, opening}
use Rattle.log_law.specs.Net.Packet.{MapSent}
use Rattle.log_law.specs.Events.{Happens, Runs}
use Rattle.log_law.specs.Events.Happens.{Acts, Writes, Opens, Serves, Lists, Publishes, Welcomes, Drops}
use Rattle.log_law.specs.Events.Runs.{Begun, On}
use Rattle.log_law.specs.Laws.{Moment}
use Rattle.node_logs.specs.node_log_tie.ServerEvents.{NamesStripes, MapsName}

whole_names : (g : Setting) (registry : ℕ → ℕ) (m : GroupMapState) → WholeMap g registry m → NamesStripes g m
whole_names g registry m whole = record { named = whole.named; cut = whole.cut }

-- ---- what others send is no map

abbrev NoMap : List Packet → Type 0
NoMap ps = (m : GroupMapState) → In (MapSent m) ps → ⊥

in_either : {X : Type 0} (xs ys : List X) (x : X) → In x (xs ++ ys) → In x xs ⊎ In x ys
in_either [] ys x fact = inr fact
in_either (y ∷ xs) ys x (inl e) = inl (inl e)
in_either (y ∷ xs) ys x (inr later) = elim (in_either xs ys x later) [ inl h ↦ inl (inr h) | inr h ↦ inr h ]

log_no_map : (outs : List log_outs.Out) → NoMap (log_packets outs)
log_no_map [] m fact = fact
log_no_map (log_out.Send f member ∷ outs) m (inl e) = absurd cc
log_no_map (log_out.Send f member ∷ outs) m (inr fact) = log_no_map outs m fact
log_no_map (log_out.Settled end rows ∷ outs) m fact = log_no_map outs m fact

scan_no_map : (inc : ℕ) (outs : List scan_outs.Out) → NoMap (scan_packets inc outs)
scan_no_map inc [] m fact = fact
scan_no_map inc (scan_out.Hello ask ∷ outs) m (inl e) = absurd cc
scan_no_map inc (scan_out.Hello ask ∷ outs) m (inr fact) = scan_no_map inc outs m fact
scan_no_map inc (scan_out.Fence server ∷ outs) m (inl e) = absurd cc
scan_no_map inc (scan_out.Fence server ∷ outs) m (inr fact) = scan_no_map inc outs m fact
scan_no_map inc (scan_out.Fetch server name ask ∷ outs) m fact = scan_no_map inc outs m fact
scan_no_map inc (scan_out.Chain segments end prior ∷ outs) m fact = scan_no_map inc outs m fact
scan_no_map inc (scan_out.Lost name ∷ outs) m fact = scan_no_map inc outs m fact

one_no_map : (p : Packet) → ((m : GroupMapState) → MapSent m ≡ p → ⊥) → NoMap (p ∷ [])
one_no_map p other m (inl e) = other m e
one_no_map p other m (inr fact) = fact

told_no_map : (o : Option Fragment) → NoMap (fragment_told o)
told_no_map None m fact = fact
told_no_map (Some f) m (inl e) = absurd cc
told_no_map (Some f) m (inr fact) = fact

answers_no_map : (g : Setting) (v : ℕ) (s : ShelfState) (deed : Deed) → NoMap (answers g v s deed)
answers_no_map g v s (Stores f generation) =
    by_test NoMap (is_of_log g f.meta.name && is_stored s f generation) (_ ∷ []) [] (λ t. one_no_map _ (λ m e. absurd cc)) (λ t. λ m fact. fact)
answers_no_map g v s (Fetches name) =
    by_test NoMap (is_of_log g name) (fragment_told (held_at s.held name)) [] (λ t. told_no_map (held_at s.held name)) (λ t m fact. fact)
answers_no_map g v s (Fences inc) = one_no_map _ (λ m e. absurd cc)
answers_no_map g v s _ = λ m fact. fact

-- ---- what happens

module _ (g : Setting) (n : Net) (before : MapsName g n) where
  abbrev Names : List Packet → Type 0
  Names sent = (m : GroupMapState) → In (MapSent m) sent → NamesStripes g m

  more : (new old : List Packet) → NoMap new → Names old → Names (new ++ old)
  more new old none named m fact = elim (in_either new old (MapSent m) fact) [ inl fresh ↦ absurd (none m fresh) | inr was ↦ named m was ]

  flight_named : (chain : List Segment) (d : log.Done) (f : Option FlightState) → MapsName g (after_flight g n chain d f)
  flight_named chain d None = more (log_packets d.outs) n.sent (log_no_map d.outs) before
  flight_named chain d (Some f) = more (log_packets d.outs) n.sent (log_no_map d.outs) before

  scanned : (d : scan.Done) → Names (scan_packets n.inc d.outs ++ n.sent)
  scanned d = more (scan_packets n.inc d.outs) n.sent (scan_no_map n.inc d.outs) before

  told_named : (s : ScanState) (d : scan.Done) (t : Option Told) (m : Option GroupMapState) → MapsName g (after_told g n s d t m)
  told_named s d None m = scanned d
  told_named s d (Some t) None = scanned d
  told_named s d (Some t) (Some m) =
      more (log_packets (first_write g n.inc t.end m).outs) (scan_packets n.inc d.outs ++ n.sent) (log_no_map (first_write g n.inc t.end m).outs) (scanned d)

  published : (registry : ℕ → ℕ) (m : GroupMapState) → WholeMap g registry m → Names (MapSent m ∷ n.sent)
  published registry m whole k (inl e) = let same : k ≡ m = cc in subst (NamesStripes g) (sym same) (whole_names g registry m whole)
  published registry m whole k (inr fact) = before k fact

happened_named : (g : Setting) (n o : Net) → MapsName g n → Happens g n o → MapsName g o
happened_named g n o before (Acts s i serves came text) =
    more g n before (log_packets (log.transition s i).outs) n.sent (log_no_map (log.transition s i).outs) before
happened_named g n o before (Writes chain s i writes came text) = flight_named g n before chain (log.transition s i) (log.transition s i).state.flight
happened_named g n o before (Opens s i opens came can) =
    told_named g n before s (scan.transition s i) (chain_in (scan.transition s i).outs) (scan.transition s i).state.opening.groups
happened_named g n o before (Serves v deed some came) = more g n before (answers g v (n.shelves v) deed) n.sent (answers_no_map g v (n.shelves v) deed) before
happened_named g n o before (Lists v) = more g n before (_ ∷ []) n.sent (one_no_map _ (λ m e. absurd cc)) before
happened_named g n o before (Publishes m whole) = published g n before n.registry m whole
happened_named g n o before (Welcomes inc ask news m hello low whole) = more g n before (_ ∷ []) n.sent (one_no_map _ (λ k e. absurd cc)) before
happened_named g n o before (Drops lists meta sent among below) = more g n before (_ ∷ []) n.sent (one_no_map _ (λ m e. absurd cc)) before
happened_named g n o before _ = before

run_named : (g : Setting) (n o : Net) → MapsName g n → Runs g n o → MapsName g o
run_named g n o before Begun = before
run_named g n o before (On {m = m} run happens) = happened_named g m o (run_named g n m before run) happens

pub sent_maps_name : (g : Setting) (n : Net) → Moment g n → MapsName g n
sent_maps_name g n at = run_named g (opening g at.map) n (λ m fact. absurd fact) at.run
