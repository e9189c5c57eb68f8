-- Attempts count from 1: so it is of each segment that was in flight in the small world of a log.
use Rattle.std.proofs.Common.{◌≡◌, ◌<◌, List, [], Option, Some, None, inl, inr, refl, sym, subst, arith}
use Rattle.std.specs.Prelude.{IfSome, MatchOption}
use Rattle.client_log.proofs.Attempts.{flies}
use Rattle.client_log.specs.declared.input.In.{In as Input}
use Rattle.client_log.specs.declared.input.In.TheVariants as input
use Rattle.client_log.specs.History.{Follows, HasLanded}
use Rattle.client_log.specs.LogState.{LogState, log_start}
use Rattle.client_log.specs.Transition as log
use Rattle.group_map.specs.GroupMapState.{GroupMapState}
use Rattle.log_flight.specs.Flights.{FlightState}
use Rattle.log_law.specs.Events.{Happens, Runs}
use Rattle.log_law.specs.Events.Happens.{Acts, Writes, Opens, Crashes, Restarts, Renews, Serves, Bars, Lists, Hears, Raises, Publishes, Welcomes, Drops}
use Rattle.log_law.specs.Events.Runs.{Begun, On}
use Rattle.log_law.specs.Laws.{Moment}
use Rattle.log_law.specs.Net.{Net, Owner, Told, after_flight, after_log, after_told, after_writing, chain_in, first_write, flown_with, opening}
use Rattle.log_law.specs.Net.Owner.{Down, Opening, Writing, Serving}
use Rattle.log_protocol.specs.Tables.{In}
use Rattle.log_scan.specs.ScanState.{ScanState}
use Rattle.log_scan.specs.Transition as scan
use Rattle.log_tie.specs.Setting.{Setting}
use Rattle.segment_format.specs.declared.segment.Segment.{Segment}
use Rattle.xfs_base.specs.declared.segment.SegName.{SegName}

abbrev Counts : FlightState → Type 0
Counts f = 0 < f.segment.name.pass.att

-- ---- one log

there : (o : Option FlightState) (f : FlightState) → o ≡ Some f → IfSome o Counts → Counts f
there None f fact c = absurd cc
there (Some x) f fact c = (let same : x ≡ f = cc in subst Counts same c)

module _ (s : LogState) (i : Input) (c : IfSome s.flight Counts) where
  follows : (after : LogState) (g : FlightState) → Follows s i after g → Counts g
  follows after g (inl same) = subst (λ (x : Segment). 0 < x.name.pass.att) (sym same.segment) (there s.flight same.flight same.was c)
  follows after g (inr (inl next)) = subst (λ (n : SegName). 0 < n.pass.att) (sym next.name) (omega arith)
  follows after g (inr (inr begun)) = (let one = begun.att in omega (arith, one))

  by : (after : LogState) (o : Option FlightState) → MatchOption o (HasLanded s after) (Follows s i after) → IfSome o Counts
  by after None h = tt
  by after (Some g) h = follows after g h

  -- it stays so whatever the log takes
  goes : IfSome (log.transition s i).state.flight Counts
  goes = by (log.transition s i).state (log.transition s i).state.flight (flies s i)

-- ---- the small world

abbrev OwnerCounts : Owner → Type 0
OwnerCounts Down = Unit {0}
OwnerCounts (Opening s) = Unit {0}
OwnerCounts (Writing chain s) = IfSome s.flight Counts
OwnerCounts (Serving s) = IfSome s.flight Counts

abbrev AllCount : List Segment → Type 0
AllCount flown = (t : Segment) → In t flown → 0 < t.name.pass.att

record NetCounts (n : Net) : Type 0 where
  owner : OwnerCounts n.owner
  flown : AllCount n.flown

with_flight : (o : Option FlightState) (before : List Segment) → IfSome o Counts → AllCount before → AllCount (flown_with o before)
with_flight None before c all t fact = all t fact
with_flight (Some f) before c all t (inl same) = subst (λ (x : Segment). 0 < x.name.pass.att) (sym same) c
with_flight (Some f) before c all t (inr fact) = all t fact

module _ (g : Setting) (n : Net) (h : NetCounts n) where
  acts : (s : LogState) (i : Input) → n.owner ≡ Serving s → NetCounts (after_log g n (log.transition s i))
  acts s i fact =
      let c = goes s i (subst OwnerCounts fact h.owner) in
      record { owner = c; flown = with_flight (log.transition s i).state.flight n.flown c h.flown }

  writes : (chain : List Segment) (s : LogState) (i : Input) → n.owner ≡ Writing chain s → NetCounts (after_writing g n chain (log.transition s i))
  writes chain s i fact = landed (log.transition s i).state.flight (goes s i (subst OwnerCounts fact h.owner))
    where
      landed : (o : Option FlightState) → IfSome o Counts → NetCounts (after_flight g n chain (log.transition s i) o)
      landed None c = record { owner = goes s i (subst OwnerCounts fact h.owner); flown = h.flown }
      landed (Some f) c = record { owner = goes s i (subst OwnerCounts fact h.owner); flown = with_flight (Some f) n.flown c h.flown }

  opens : (s : ScanState) (d : scan.Done) (o : Option Told) (groups : Option GroupMapState) → NetCounts (after_told g n s d o groups)
  opens s d None groups = record { owner = tt; flown = h.flown }
  opens s d (Some t) None = record { owner = tt; flown = h.flown }
  opens s d (Some t) (Some m) =
      let c = goes (log_start g.log n.inc t.end m) (input.Parts []) tt in
      record { owner = c; flown = with_flight (first_write g n.inc t.end m).state.flight n.flown c h.flown }

  same : (o : Net) → o.owner ≡ n.owner → o.flown ≡ n.flown → NetCounts o
  same o own flew = record { owner = subst OwnerCounts (sym own) h.owner; flown = subst AllCount (sym flew) h.flown }

happens : (g : Setting) (n o : Net) → Happens g n o → NetCounts n → NetCounts o
happens g n o (Acts s i fact came texts) h = acts g n h s i fact
happens g n o (Writes chain s i fact came texts) h = writes g n h chain s i fact
happens g n o (Opens s i fact came can) h =
    opens g n h s (scan.transition s i) (chain_in (scan.transition s i).outs) (scan.transition s i).state.opening.groups
happens g n o Crashes h = record { owner = tt; flown = h.flown }
happens g n o (Restarts fact) h = record { owner = tt; flown = h.flown }
happens g n o (Renews m high doubts fact came) h = record { owner = tt; flown = h.flown }
happens g n o (Serves v deed some came) h = same g n h _ refl refl
happens g n o (Bars v log pass) h = same g n h _ refl refl
happens g n o (Lists v) h = same g n h _ refl refl
happens g n o (Hears v generation up reached) h = same g n h _ refl refl
happens g n o (Raises low name up fact below) h = same g n h _ refl refl
happens g n o (Publishes m whole) h = same g n h _ refl refl
happens g n o (Welcomes inc ask news m fact low whole) h = same g n h _ refl refl
happens g n o (Drops lists meta fact among below) h = same g n h _ refl refl

runs : (g : Setting) (n o : Net) → Runs g n o → NetCounts n → NetCounts o
runs g n o Begun h = h
runs g n o (On {m = m} run happened) h = happens g m o happened (runs g n m run h)

pub attempts_count : (g : Setting) (n : Net) → Moment g n → (t : Segment) → In t n.flown → 0 < t.name.pass.att
attempts_count g n m = (runs g (opening g m.map) n m.run (record { owner = tt; flown = λ t fact. absurd fact })).flown
