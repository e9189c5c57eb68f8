-- What holds where restarts may be doubtful holds of each run: whether they may is looked at by nothing that happens.
use Rattle.xfs_base.specs.declared.fragment.Fragment.{Fragment}
use Rattle.std.specs.Prelude.{IfSome}
use Rattle.std.proofs.Common.{◌≡◌, ℕ, Option, Some, None, refl, subst, List, true}
use Rattle.group_map.specs.declared.group.Group.{Group}
use Rattle.group_map.specs.GroupMapState.{GroupMapState}
use Rattle.segment_format.specs.declared.segment.Segment.{Segment}
use Rattle.log_flight.specs.Flights as flights
use Rattle.log_flight.specs.Flights.{FlightState}
use Rattle.client_log.specs.Transition as log
use Rattle.log_scan.specs.declared.input.In as scan_ins
use Rattle.log_scan.specs.declared.input.In.TheVariants as scan_in
use Rattle.log_scan.specs.ScanState.{ScanState}
use Rattle.log_scan.specs.Transition as scan
use Rattle.log_tie.specs.Setting.{Setting, IsStripe}
use Rattle.log_tie.specs.Scans.{WholeMap}
use Rattle.log_tie.specs.Shelves.Deed.{Stores, Fetches, Fences, Deletes, Fills, Loses}
use Rattle.log_law.specs.Net.{Net, Told, chain_in, after_flight, after_writing, after_told, after_scan, opening}
use Rattle.log_law.specs.Events.{StartsWith, CanStart, CameToScan, IsFilling, Happens, Runs}
use Rattle.log_law.specs.Events.Happens.{Acts, Writes, Opens, Crashes, Restarts, Renews, Serves, Bars, Lists, Hears, Raises, Publishes, Welcomes, Drops}
use Rattle.log_law.specs.Events.Runs.{Begun, On}
use Rattle.log_law.specs.Laws.{Moment}

-- the same setting, where restarts may be doubtful
abbrev pub doubtful : Setting → Setting
doubtful g = record g { doubts = true }

module _ (g : Setting) where
  abbrev any : Setting
  any = doubtful g

  stripe_so : (m : GroupMapState) (group : Group) → IsStripe g m group → IsStripe any m group
  stripe_so m group s = record { some = s.some; exist = s.exist; differ = s.differ; present = s.present; named = s.named }

  map_so : (registry : ℕ → ℕ) (m : GroupMapState) → WholeMap g registry m → WholeMap any registry m
  map_so registry m w = record {
    seen = record { whole = λ l q. stripe_so m (flights.group_for m l q) (w.seen.whole l q); past = w.seen.past };
    size = w.size;
    named = w.named;
    some = w.some;
    cut = w.cut;
  }

  filling_so : (n : Net) (v : ℕ) (f : Fragment) → IsFilling g n v f → IsFilling any n v f
  filling_so n v f i = record {
    lists = i.lists;
    sent = i.sent;
    meta = i.meta;
    among = i.among;
    round = i.round;
    is_round = i.is_round;
    count = i.count;
    parity = i.parity;
    came = i.came;
    text = i.text;
    read = i.read;
    place = i.place;
    within = i.within;
    own = i.own;
    cut = i.cut;
  }

  came_so : (n : Net) (i : scan_ins.In) → CameToScan g n i → CameToScan any n i
  came_so n (scan_in.Welcome ask news groups) c = c
  came_so n (scan_in.Fenced server generation held) c = c
  came_so n (scan_in.Got ask server generation f) c = c
  came_so n (scan_in.Missing ask server generation) c = c
  came_so n (scan_in.Maps m) c = c
  came_so n scan_in.Tick c = c

  start_so : (inc : ℕ) (d : scan.Done) → CanStart g inc d → CanStart any inc d
  start_so inc d c = by (chain_in d.outs) c
    where
      by : (o : Option Told) → IfSome o (StartsWith g inc d) → IfSome o (StartsWith any inc d)
      by None c = tt
      by (Some t) c = c

  scan_so : (n : Net) (s : ScanState) (d : scan.Done) → after_scan any n s d ≡ after_scan g n s d
  scan_so n s d = by (chain_in d.outs) d.state.opening.groups
    where
      by : (o : Option Told) (groups : Option GroupMapState) → after_told any n s d o groups ≡ after_told g n s d o groups
      by None groups = refl
      by (Some t) None = refl
      by (Some t) (Some m) = refl

  writing_so : (n : Net) (chain : List Segment) (d : log.Done) → after_writing any n chain d ≡ after_writing g n chain d
  writing_so n chain d = by d.state.flight
    where
      by : (o : Option FlightState) → after_flight any n chain d o ≡ after_flight g n chain d o
      by None = refl
      by (Some f) = refl

  happens_so : (n o : Net) → Happens g n o → Happens any n o
  happens_so n o (Acts s i fact came texts) = Acts s i fact came texts
  happens_so n o (Writes chain s i fact came texts) = subst (Happens any n) (writing_so n chain (log.transition s i)) (Writes chain s i fact came texts)
  happens_so n o (Opens s i fact came can) =
      subst (Happens any n) (scan_so n s (scan.transition s i)) (Opens s i fact (came_so n i came) (start_so n.inc (scan.transition s i) can))
  happens_so n o Crashes = Crashes
  happens_so n o (Restarts fact) = Restarts fact
  happens_so n o (Renews m high doubts fact came) = Renews m high refl fact came
  happens_so n o (Serves v (Stores f generation) some came) = Serves v (Stores f generation) some came
  happens_so n o (Serves v (Fetches name) some came) = Serves v (Fetches name) some came
  happens_so n o (Serves v (Fences inc) some came) = Serves v (Fences inc) some came
  happens_so n o (Serves v (Deletes name) some came) = Serves v (Deletes name) some came
  happens_so n o (Serves v (Fills f) some came) = Serves v (Fills f) some (λ own. filling_so n v f (came own))
  happens_so n o (Serves v Loses some came) = Serves v Loses some came
  happens_so n o (Bars v l pass) = Bars v l pass
  happens_so n o (Lists v) = Lists v
  happens_so n o (Hears v generation up reached) = Hears v generation up reached
  happens_so n o (Raises low name up fact below) = Raises low name up fact below
  happens_so n o (Publishes m whole) = Publishes m (map_so n.registry m whole)
  happens_so n o (Welcomes inc ask news m fact low whole) = Welcomes inc ask news m fact low (map_so n.registry m whole)
  happens_so n o (Drops lists meta fact among below) = Drops lists meta fact among below

  runs_so : (n o : Net) → Runs g n o → Runs any n o
  runs_so n o Begun = Begun
  runs_so n o (On {m = m} run happens) = On (runs_so n m run) (happens_so m o happens)

  pub moment_so : (n : Net) → Moment g n → Moment any n
  moment_so n m = record { map = m.map; whole = map_so (λ v. 1) m.map m.whole; run = runs_so (opening g m.map) n m.run }
