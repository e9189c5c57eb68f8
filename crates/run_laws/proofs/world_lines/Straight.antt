-- Where the owner serves nowhere on the way nothing is filed; and where it comes to serve by one thing that happens, all that is filed then flew before.
use Rattle.std.proofs.Common.{◌≡◌, suc, Bool, true, false, cond, List, Option, Some, None, refl, sym, ap, subst, ◌∙◌}
use Rattle.client_log.specs.LogState.{LogState}
use Rattle.client_log.specs.Transition as log
use Rattle.node_logs.specs.client_log_tie.ClientEvents.{IsOnce, NeverServes}
use Rattle.group_map.specs.GroupMapState.{GroupMapState}
use Rattle.log_flight.specs.Flights.{FlightState}
use Rattle.log_law.specs.Events.{Happens, Runs}
use Rattle.log_law.specs.Events.Happens.{Acts, Bars, Crashes, Drops, Hears, Lists, Opens, Publishes, Raises, Renews, Restarts, Serves, Welcomes, Writes}
use Rattle.log_law.specs.Events.Runs.{Begun, On}
use Rattle.log_law.specs.Laws.{LogsStayWhole, Moment}
use Rattle.log_law.specs.Net.{Net, Owner, Told, after_flight, after_told, chain_in}
use Rattle.log_law.specs.Net.Owner.{Opening, Writing}
use Rattle.log_law.specs.Openings.{NothingFiledOpening, boot_of}
use Rattle.log_law.specs.Restarts.{is_down, is_serving}
use Rattle.log_law.specs.Tails.{then_on}
use Rattle.log_protocol.specs.Tables.{In}
use Rattle.log_scan.specs.ScanState.{ScanState}
use Rattle.log_scan.specs.Transition as scan
use Rattle.log_tie.specs.Setting.{Setting}
use Rattle.segment_format.specs.declared.segment.Segment.{Segment}
use Rattle.xfs_base.proofs.Booleans.{contrary}
use Rattle.xfs_base.specs.declared.segment.SegName.{SegName}
use Rattle.run_laws.specs.world_lines.Filing.{OpeningsFileWhatFlew, RestartsFileWhatFlew}
use Rattle.run_laws.specs.world_lines.Owners.{HasFlown, StraightFilesStill}

module _ (unfiled : NothingFiledOpening) (g : Setting) (m : Net) (at : Moment g m) where
  -- an owner that is up keeps its boot
  up : (x : Owner) → m.owner ≡ x → is_down x ≡ false → boot_of m ≡ m.inc
  up x fact not_down = ap (λ (o : Owner). cond (is_down o) (suc m.inc) m.inc) fact ∙ ap (λ t. cond t (suc m.inc) m.inc) not_down

  writes_still : (chain : List Segment) (s : LogState) (d : log.Done) → m.owner ≡ Writing chain s → (o : Option FlightState)
      → Happens g m (after_flight g m chain d o) → is_serving (after_flight g m chain d o).owner ≡ false → (after_flight g m chain d o).filed ≡ m.filed
  writes_still chain s d fact None happens none = contrary (sym none)
  writes_still chain s d fact (Some f) happens none =
      unfiled g m (after_flight g m chain d (Some f)) at (On Begun happens) (sym (up (Writing chain s) fact refl)) none

  opens_still : (s : ScanState) (d : scan.Done) → m.owner ≡ Opening s → (t : Option Told) (groups : Option GroupMapState)
      → Happens g m (after_told g m s d t groups) → (after_told g m s d t groups).filed ≡ m.filed
  opens_still s d fact None groups happens = refl
  opens_still s d fact (Some t) None happens = refl
  opens_still s d fact (Some t) (Some map) happens =
      unfiled g m (after_told g m s d (Some t) (Some map)) at (On Begun happens) (sym (up (Opening s) fact refl)) refl

  happens_still : (o : Net) → Happens g m o → is_serving o.owner ≡ false → o.filed ≡ m.filed
  happens_still o (Acts s i fact came texts) none = contrary (sym none)
  happens_still o (Writes chain s i fact came texts) none =
      writes_still chain s (log.transition s i) fact (log.transition s i).state.flight (Writes chain s i fact came texts) none
  happens_still o (Opens s i fact came can) none =
      opens_still s (scan.transition s i) fact (chain_in (scan.transition s i).outs) (scan.transition s i).state.opening.groups (Opens s i fact came can)
  happens_still o Crashes none = refl
  happens_still o (Restarts down) none = refl
  happens_still o (Renews map high doubts down came) none = refl
  happens_still o (Serves v deed some came) none = refl
  happens_still o (Bars v l pass) none = refl
  happens_still o (Lists v) none = refl
  happens_still o (Hears v generation past reached) none = refl
  happens_still o (Raises low name past fact below) none = refl
  happens_still o (Publishes map whole) none = refl
  happens_still o (Welcomes inc ask news map hello low whole) none = refl
  happens_still o (Drops lists meta listed within below) none = refl

never_still : NothingFiledOpening → (g : Setting) (n o : Net) → Moment g n → (runs : Runs g n o) → NeverServes runs → o.filed ≡ n.filed
never_still unfiled g n o at Begun never = refl
never_still unfiled g n o at (On {m = m} run happens) never =
    happens_still unfiled g m (record { map = at.map; whole = at.whole; run = then_on at.run run }) o happens never.0
    ∙ never_still unfiled g n m at run never.1

pub straight_files_still : NothingFiledOpening → StraightFilesStill
straight_files_still unfiled g n o at runs straight none = never_still unfiled g n o at runs (straight.never none)

-- ---- an owner that comes to serve

module _ (openings : OpeningsFileWhatFlew) (g : Setting) (n : Net) (at : Moment g n) (trusted : g.doubts ≡ false) (none : is_serving n.owner ≡ false) where
  told_serves_not : (s : ScanState) (d : scan.Done) (t : Option Told) (groups : Option GroupMapState) → is_serving (after_told g n s d t groups).owner ≡ false
  told_serves_not s d None groups = refl
  told_serves_not s d (Some t) None = refl
  told_serves_not s d (Some t) (Some map) = refl

  both : (o : Owner) → is_serving o ≡ true → is_serving o ≡ false → ⊥
  both o serves not = contrary (sym not ∙ serves)

  by_one : (o : Net) → Happens g n o → is_serving o.owner ≡ true → (name : SegName) → In name o.filed → HasFlown n name
  by_one o (Acts s i fact came texts) serves = absurd (both n.owner (ap is_serving fact) none)
  by_one o (Writes chain s i fact came texts) serves = openings g n o at chain s fact (Writes chain s i fact came texts)
  by_one o (Opens s i fact came can) serves =
      absurd (both o.owner serves (told_serves_not s (scan.transition s i) (chain_in (scan.transition s i).outs) (scan.transition s i).state.opening.groups))
  by_one o Crashes serves = contrary serves
  by_one o (Restarts down) serves = contrary serves
  by_one o (Renews map high doubts down came) serves = contrary (sym trusted ∙ doubts)
  by_one o (Serves v deed some came) serves = absurd (both n.owner serves none)
  by_one o (Bars v l pass) serves = absurd (both n.owner serves none)
  by_one o (Lists v) serves = absurd (both n.owner serves none)
  by_one o (Hears v generation past reached) serves = absurd (both n.owner serves none)
  by_one o (Raises low highest past fact below) serves = absurd (both n.owner serves none)
  by_one o (Publishes map whole) serves = absurd (both n.owner serves none)
  by_one o (Welcomes inc ask news map hello low whole) serves = absurd (both n.owner serves none)
  by_one o (Drops lists meta listed within below) serves = absurd (both n.owner serves none)

  by_once : (o : Net) (runs : Runs g n o) → IsOnce runs → is_serving o.owner ≡ true → (name : SegName) → In name o.filed → HasFlown n name
  by_once o Begun once serves = absurd (both n.owner serves none)
  by_once o (On Begun happens) once serves = by_one o happens serves
  by_once o (On (On run before) happens) once serves = absurd once

pub restarts_file_what_flew : LogsStayWhole → NothingFiledOpening → OpeningsFileWhatFlew → RestartsFileWhatFlew
restarts_file_what_flew whole unfiled openings g n o trusted at runs straight none name fact = by (is_serving o.owner) refl
  where
    by : (t : Bool) → is_serving o.owner ≡ t → HasFlown n name
    by true serves = by_once openings g n at trusted none o runs (straight.once none serves) serves name fact
    by false not = (whole g n at).flown name (subst (In name) (straight_files_still unfiled g n o at runs straight not) fact)
