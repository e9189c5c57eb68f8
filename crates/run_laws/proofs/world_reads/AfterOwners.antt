-- The owner of a log over an event of its own, as its small world has it: where it doesn't serve then nothing was filed, and its line goes on.
use Rattle.std.proofs.Common.{◌≡◌, ◌<◌, ℕ, zero, suc, false, List, Option, Some, None, if◌then◌else◌, refl, sym, ap, subst, ◌∙◌, arith}
use Rattle.client_log.specs.LogState.{LogState}
use Rattle.client_log.specs.Transition as log
use Rattle.node_logs.specs.client_log_tie.ClientEvents.{NeverServes}
use Rattle.group_map.specs.GroupMapState.{GroupMapState}
use Rattle.headline.specs.Filed.{Filed, Texts}
use Rattle.index_tie.specs.Growth.{IsMore}
use Rattle.log_flight.specs.Flights.{FlightState}
use Rattle.log_law.specs.Events.{Happens, Runs}
use Rattle.log_law.specs.Events.Happens.{Acts, Writes, Opens, Crashes, Restarts, Renews, Serves, Bars, Lists, Hears, Raises, Publishes, Welcomes, Drops}
use Rattle.log_law.specs.Events.Runs.{Begun, On}
use Rattle.log_law.specs.Laws.{Moment}
use Rattle.log_law.specs.Net.{Net, Owner, Told, after_flight, after_told, chain_in}
use Rattle.log_law.specs.Net.Owner.{Opening, Serving, Writing}
use Rattle.log_law.specs.Openings.{NothingFiledOpening, boot_of}
use Rattle.log_law.specs.Restarts.{is_down, is_serving}
use Rattle.log_law.specs.Tails.{then_on}
use Rattle.log_protocol.specs.Tables.{In}
use Rattle.log_scan.specs.ScanState.{ScanState}
use Rattle.log_scan.specs.Transition as scan
use Rattle.log_tie.specs.Setting.{Setting}
use Rattle.node_base.specs.declared.effects.Effect.{Effect}
use Rattle.node_slots.specs.owner_index_tie.Filing.{IsSameLog, filed_after}
use Rattle.segment_format.specs.declared.segment.Segment.{Segment}
use Rattle.run_laws.specs.world_lines.Lines.{IsLine, IsSure}
use Rattle.run_laws.specs.world_lines.Turns.{AllSo, LinesGoOn}
use Rattle.xfs_base.proofs.Booleans.{contrary}

-- ---- nothing is filed

module _ (unfiled : NothingFiledOpening) (g : Setting) where
  -- in one boot
  one_boot : (m o : Net) → Moment g m → (happens : Happens g m o) → boot_of o ≡ boot_of m → is_serving o.owner ≡ false → o.filed ≡ m.filed
  one_boot m o at happens boot none = unfiled g m o at (On Begun happens) boot none

  up_boot : (m : Net) (x : Owner) → m.owner ≡ x → is_down x ≡ false → boot_of m ≡ m.inc
  up_boot m x fact up = ap (λ y. if y then suc m.inc else m.inc) (ap is_down fact ∙ up)

  writes_nothing : (m : Net) → Moment g m → (chain : List Segment) (d : log.Done) → (x : Option FlightState) → boot_of m ≡ m.inc
      → Happens g m (after_flight g m chain d x) → is_serving (after_flight g m chain d x).owner ≡ false → (after_flight g m chain d x).filed ≡ m.filed
  writes_nothing m at chain d None boot happens none = contrary (sym none)
  writes_nothing m at chain d (Some f) boot happens none = one_boot m (after_flight g m chain d (Some f)) at happens (sym boot) none

  scans_nothing : (m : Net) → Moment g m → (s : ScanState) (d : scan.Done) (t : Option Told) (map : Option GroupMapState) → boot_of m ≡ m.inc
      → Happens g m (after_told g m s d t map) → is_serving (after_told g m s d t map).owner ≡ false → (after_told g m s d t map).filed ≡ m.filed
  scans_nothing m at s d None map boot happens none = refl
  scans_nothing m at s d (Some t) None boot happens none = refl
  scans_nothing m at s d (Some t) (Some map) boot happens none = one_boot m (after_told g m s d (Some t) (Some map)) at happens (sym boot) none

  happens_nothing : (m o : Net) → Moment g m → (happens : Happens g m o) → is_serving o.owner ≡ false → o.filed ≡ m.filed
  happens_nothing m o at (Acts s i fact came texts) none = contrary (sym none)
  happens_nothing m o at (Writes chain s i fact came texts) none =
      writes_nothing m at chain (log.transition s i) (log.transition s i).state.flight (up_boot m (Writing chain s) fact refl)
      (Writes chain s i fact came texts) none
  happens_nothing m o at (Opens s i fact came can) none =
      scans_nothing m at s (scan.transition s i) (chain_in (scan.transition s i).outs) (scan.transition s i).state.opening.groups
      (up_boot m (Opening s) fact refl) (Opens s i fact came can) none
  happens_nothing m o at Crashes none = refl
  happens_nothing m o at (Restarts down) none = refl
  happens_nothing m o at (Renews map high doubts down came) none = refl
  happens_nothing m o at (Serves v deed some came) none = refl
  happens_nothing m o at (Bars v log pass) none = refl
  happens_nothing m o at (Lists v) none = refl
  happens_nothing m o at (Hears v generation up reached) none = refl
  happens_nothing m o at (Raises low name up fact below) none = refl
  happens_nothing m o at (Publishes map whole) none = refl
  happens_nothing m o at (Welcomes inc ask news map hello low whole) none = refl
  happens_nothing m o at (Drops lists meta listed within below) none = refl

  -- where the owner serves nowhere on the way
  pub never_files : (n o : Net) (at : Moment g n) (goes : Runs g n o) → NeverServes goes → o.filed ≡ n.filed
  never_files n o at Begun never = refl
  never_files n o at (On {m = m} goes happens) never =
      happens_nothing m o (record { map = at.map; whole = at.whole; run = then_on at.run goes }) happens never.0 ∙ never_files n m at goes never.1

-- ---- its line

-- of a log that filed nothing the same is filed
pub same_filed : (l : ℕ) (n o : Net) (f h : Filed) → o.filed ≡ n.filed → IsMore f h → IsLine l n f → IsLine l o h → IsSameLog l f h
same_filed l n o f h same more line later = record { head = head (h.head l) refl; segment = λ q some limit. more.segment l q some limit }
  where
    head : (x : ℕ) → h.head l ≡ x → h.head l ≡ f.head l
    head zero fact = (let a = more.head l in omega arith)
    head (suc x) fact =
        let some : 0 < h.head l = omega arith in
        let highest = later.lined.filed (h.head l) some (omega arith) in
        let low = (line.all (h.segment l (h.head l)).name (subst (In (h.segment l (h.head l)).name) same highest)).1 in
        let seq = later.lined.seq (h.head l) some (omega arith) in
        let a = more.head l in
        omega arith

-- it goes on by what the owner acts to be filed
pub line_goes_on : LinesGoOn → NothingFiledOpening → (texts : Texts) (l : ℕ) (g : Setting) (n o : Net) (f h : Filed) (outs : List Effect) → Moment g n
    → (goes : Runs g n o)
    → (is_serving o.owner ≡ false → NeverServes goes) → IsSure texts l g o → AllSo (λ name. In name o.filed) outs → h ≡ filed_after texts l f outs
    → ((s : LogState) → o.owner ≡ Serving s → s.end.seq ≡ h.head l) → IsLine l n f → IsLine l o h
line_goes_on on unfiled texts l g n o f h outs at goes never sure acts filed end line =
    subst (IsLine l o) (sym filed) (on texts l g n o f outs line (record {
      run = goes;
      sure = sure;
      acts = acts;
      end = λ s fact. end s fact ∙ ap (λ (x : Filed). x.head l) filed;
      still = λ none. never_files unfiled g n o at goes (never none);
    }))
