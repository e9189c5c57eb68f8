-- Along a run the owner of a log only goes forward, through one boot into the next: so where it is at the end where it was at the start no restart ended in it.
use Rattle.std.proofs.Common.{◌≡◌, ℕ, ◌+◌, ◌*◌, ◌≤◌, ◌==◌, ◌||◌, true, false, List, Option, Some, None, refl, sym, ap, ◌∙◌, arith}
use Rattle.client_log.specs.LogState.{LogState}
use Rattle.client_log.specs.Transition as log
use Rattle.node_logs.specs.client_log_tie.ClientEvents.{NeverHasLog, NeverServes, has_log}
use Rattle.group_map.specs.GroupMapState.{GroupMapState}
use Rattle.log_flight.specs.Flights.{FlightState}
use Rattle.log_law.specs.Events.{Happens, Runs}
use Rattle.log_law.specs.Events.Happens.{Acts, Bars, Crashes, Drops, Hears, Lists, Opens, Publishes, Raises, Renews, Restarts, Serves, Welcomes, Writes}
use Rattle.log_law.specs.Events.Runs.{Begun, On}
use Rattle.log_law.specs.Net.{Net, Owner, Told, after_flight, after_told, chain_in}
use Rattle.log_law.specs.Net.Owner.{Down, Opening, Serving, Writing}
use Rattle.log_law.specs.Restarts.{EndsRestart, IsSureRun, is_serving, is_writing}
use Rattle.log_law.specs.Tails.{then_on}
use Rattle.log_scan.specs.ScanState.{ScanState}
use Rattle.log_scan.specs.Transition as scan
use Rattle.log_tie.specs.Setting.{Setting}
use Rattle.segment_format.specs.declared.segment.Segment.{Segment}
use Rattle.xfs_base.proofs.Booleans.{contrary}

-- how far an owner is in its boot
abbrev pub stage_of : Owner → ℕ
stage_of (Opening s) = 0
stage_of (Writing chain s) = 1
stage_of (Serving s) = 2
stage_of Down = 3

-- and in all its boots
abbrev pub progress : Net → ℕ
progress n = 4 * n.inc + stage_of n.owner

last_stage : (x : Owner) → stage_of x ≤ 3
last_stage (Opening s) = omega arith
last_stage (Writing chain s) = omega arith
last_stage (Serving s) = omega arith
last_stage Down = omega arith

module _ (g : Setting) (n : Net) where
  flight_rises : (chain : List Segment) (s : LogState) (d : log.Done) (o : Option FlightState) → n.owner ≡ Writing chain s
      → progress n ≤ progress (after_flight g n chain d o)
  flight_rises chain s d None fact = let e = ap stage_of fact in omega arith
  flight_rises chain s d (Some f) fact = let e = ap stage_of fact in omega arith

  told_rises : (s : ScanState) (d : scan.Done) (t : Option Told) (groups : Option GroupMapState) → n.owner ≡ Opening s
      → progress n ≤ progress (after_told g n s d t groups)
  told_rises s d None groups fact = let e = ap stage_of fact in omega arith
  told_rises s d (Some t) None fact = let e = ap stage_of fact in omega arith
  told_rises s d (Some t) (Some m) fact = let e = ap stage_of fact in omega arith

  rises : (o : Net) → Happens g n o → progress n ≤ progress o
  rises o (Acts s i fact came texts) = let e = ap stage_of fact in omega arith
  rises o (Writes chain s i fact came texts) = flight_rises chain s (log.transition s i) (log.transition s i).state.flight fact
  rises o (Opens s i fact came can) =
      told_rises s (scan.transition s i) (chain_in (scan.transition s i).outs) (scan.transition s i).state.opening.groups fact
  rises o Crashes = let e = last_stage n.owner in omega arith
  rises o (Restarts down) = let e = ap stage_of down in omega arith
  rises o (Renews map high doubts down came) = let e = ap stage_of down in omega arith
  rises o (Serves v deed some came) = omega arith
  rises o (Bars v l pass) = omega arith
  rises o (Lists v) = omega arith
  rises o (Hears v generation past reached) = omega arith
  rises o (Raises low name past fact below) = omega arith
  rises o (Publishes map whole) = omega arith
  rises o (Welcomes inc ask news map hello low whole) = omega arith
  rises o (Drops lists meta listed within below) = omega arith

pub run_rises : (g : Setting) (n o : Net) → Runs g n o → progress n ≤ progress o
run_rises g n o Begun = omega arith
run_rises g n o (On {m = m} run happens) = (let a = run_rises g n m run in let b = rises g m o happens in omega arith)

-- ---- where a restart ends

pub stage_writing : (x : Owner) → is_writing x ≡ true → stage_of x ≡ 1
stage_writing Down fact = contrary fact
stage_writing (Opening s) fact = contrary fact
stage_writing (Writing chain s) fact = refl
stage_writing (Serving s) fact = contrary fact

pub stage_serving : (x : Owner) → is_serving x ≡ true → stage_of x ≡ 2
stage_serving Down fact = contrary fact
stage_serving (Opening s) fact = contrary fact
stage_serving (Writing chain s) fact = contrary fact
stage_serving (Serving s) fact = refl

-- the owner goes forward
ends_rise : (n o : Net) → progress n ≤ progress o → EndsRestart n o → progress o ≤ progress n → ⊥
ends_rise n o up ends down = (let a = stage_writing n.owner ends.0 in let b = stage_serving o.owner ends.1 in omega arith)

-- no restart ends in a run
abbrev pub NoneEnds : {g : Setting} {n o : Net} → Runs g n o → Type 0
NoneEnds Begun = Unit {0}
NoneEnds (On {m = m} {o = o} run happens) = NoneEnds run × (EndsRestart m o → ⊥)

pub none_ends : (g : Setting) (n o : Net) (runs : Runs g n o) → progress o ≤ progress n → NoneEnds runs
none_ends g n o Begun still = tt
none_ends g n o (On {m = m} run happens) still =
    let a = run_rises g n m run in
    let b = rises g m o happens in
    (none_ends g n m run (omega arith), λ ends. ends_rise m o b ends (omega arith))

-- an owner that is where it was
pub none_ends_there : (g : Setting) (n o : Net) (runs : Runs g n o) → o.inc ≡ n.inc → stage_of o.owner ≡ stage_of n.owner → NoneEnds runs
none_ends_there g n o runs inc stage = none_ends g n o runs (let a = inc in let b = stage in omega arith)

-- its owner is the same
pub none_ends_left : (g : Setting) (n o : Net) (runs : Runs g n o) → o.inc ≡ n.inc → o.owner ≡ n.owner → NoneEnds runs
none_ends_left g n o runs inc owner = none_ends_there g n o runs inc (ap stage_of owner)

-- it serves before and after, in one boot
pub none_ends_served : (g : Setting) (n o : Net) (runs : Runs g n o) → o.inc ≡ n.inc → is_serving n.owner ≡ true → is_serving o.owner ≡ true
    → NoneEnds runs
none_ends_served g n o runs inc before now = none_ends_there g n o runs inc (stage_serving o.owner now ∙ sym (stage_serving n.owner before))

-- it serves nowhere on the way
pub none_ends_away : (g : Setting) (n o : Net) (runs : Runs g n o) → NeverServes runs → NoneEnds runs
none_ends_away g n o Begun never = tt
none_ends_away g n o (On {m = m} run happens) never = (none_ends_away g n m run never.1, λ ends. contrary (sym never.0 ∙ ends.1))

-- a boot ends no earlier than it begins
pub boot_rises : (g : Setting) (n o : Net) → Runs g n o → n.inc ≤ o.inc
boot_rises g n o runs = (let a = run_rises g n o runs in let b = last_stage o.owner in omega arith)

-- ---- an owner that is at the end where it was at the start was there all the way

serves_at_stage : (x : Owner) → is_serving x ≡ (stage_of x == 2)
serves_at_stage (Opening s) = refl
serves_at_stage (Writing chain s) = refl
serves_at_stage (Serving s) = refl
serves_at_stage Down = refl

has_log_at_stage : (x : Owner) → has_log x ≡ ((stage_of x == 1) || (stage_of x == 2))
has_log_at_stage (Opening s) = refl
has_log_at_stage (Writing chain s) = refl
has_log_at_stage (Serving s) = refl
has_log_at_stage Down = refl

same_stage : (n o : Net) → progress n ≤ progress o → progress o ≤ progress n → stage_of o.owner ≡ stage_of n.owner
same_stage n o up down = by n.inc o.inc (stage_of n.owner) (stage_of o.owner) (last_stage n.owner) (last_stage o.owner) up down
  where
    by : (i j a b : ℕ) → a ≤ 3 → b ≤ 3 → 4 * i + a ≤ 4 * j + b → 4 * j + b ≤ 4 * i + a → b ≡ a
    by i j a b first last up down = omega arith

pub never_serves_there : (g : Setting) (n o : Net) (runs : Runs g n o) → progress o ≤ progress n → is_serving n.owner ≡ false → NeverServes runs
never_serves_there g n o Begun still none = tt
never_serves_there g n o (On {m = m} run happens) still none =
    let a = run_rises g n m run in
    let b = rises g m o happens in (
      serves_at_stage o.owner ∙ (ap (λ k. k == 2) (same_stage n o (omega arith) still) ∙ (sym (serves_at_stage n.owner) ∙ none)),
      never_serves_there g n m run (omega arith) none,
    )

pub never_has_log_there : (g : Setting) (n o : Net) (runs : Runs g n o) → progress o ≤ progress n → has_log n.owner ≡ false → NeverHasLog runs
never_has_log_there g n o Begun still none = tt
never_has_log_there g n o (On {m = m} run happens) still none =
    let a = run_rises g n m run in
    let b = rises g m o happens in (
      has_log_at_stage o.owner ∙ (ap (λ k. (k == 1) || (k == 2)) (same_stage n o (omega arith) still) ∙ (sym (has_log_at_stage n.owner) ∙ none)),
      never_has_log_there g n m run (omega arith) none,
    )

-- its owner is the same, in the same boot
pub left_there : (n o : Net) → o.inc ≡ n.inc → o.owner ≡ n.owner → progress o ≤ progress n
left_there n o inc owner = (let a = inc in let b = ap stage_of owner in omega arith)

-- ---- sure runs

-- a run is sure where what went before it was, and no restart ends in it
pub sure_then : {g : Setting} {n m o : Net} (run : Runs g n m) (more : Runs g m o) → IsSureRun run → NoneEnds more → IsSureRun (then_on run more)
sure_then run Begun sure none = sure
sure_then run (On more happens) sure none = (sure_then run more sure none.0, λ ends doubtful. none.1 ends)

-- what is sure of a run was sure before
pub sure_before : {g : Setting} {n m o : Net} (run : Runs g n m) (more : Runs g m o) → IsSureRun (then_on run more) → IsSureRun run
sure_before run Begun sure = sure
sure_before run (On more happens) sure = sure_before run more sure.0
