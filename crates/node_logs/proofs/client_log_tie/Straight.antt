-- How the owner comes to serve in an event: by one thing that happens, or it served before, in the same boot; where it doesn't serve then, it served nowhere on
-- the way; where it has picked then where its log goes on, one thing happened at most; and where it is down or has yet to write its opening segment, it neither
-- wrote one nor served on the way.
use Rattle.std.proofs.Common.{◌≡◌, true, false, List, Option, Some, None, refl, sym, ap, ◌∙◌}
use Rattle.client_log.specs.Transition as log
use Rattle.group_map.specs.GroupMapState.{GroupMapState}
use Rattle.log_flight.specs.Flights.{FlightState}
use Rattle.log_scan.specs.ScanState.{ScanState}
use Rattle.log_scan.specs.Transition as scan
use Rattle.log_tie.specs.Setting.{Setting}
use Rattle.log_law.specs.Events.{Happens, Runs}
use Rattle.log_law.specs.Events.Happens.{Opens, Renews, Restarts, Writes}
use Rattle.log_law.specs.Events.Runs.{Begun, On}
use Rattle.log_law.specs.Net.{Net, Owner, Told, after_flight, after_told, chain_in}
use Rattle.log_law.specs.Net.Owner.{Down, Opening, Serving, Writing}
use Rattle.log_law.specs.Restarts.{is_down, is_serving}
use Rattle.log_law.specs.Tails.{then_on}
use Rattle.segment_format.specs.declared.segment.Segment.{Segment}
use Rattle.xfs_base.proofs.Booleans.{contrary}
use Rattle.node_logs.specs.client_log_tie.ClientEvents.{IsOnce, NeverHasLog, NeverServes, ServesStraight, has_log, has_picked}

-- the opening segment is settled, or goes on, in one boot
writes_stays : (g : Setting) (n : Net) (chain : List Segment) (d : log.Done) (o : Option FlightState) → (after_flight g n chain d o).inc ≡ n.inc
writes_stays g n chain d None = refl
writes_stays g n chain d (Some f) = refl

-- so does an opening
opens_stays : (g : Setting) (n : Net) (s : ScanState) (d : scan.Done) (t : Option Told) (groups : Option GroupMapState)
    → (after_told g n s d t groups).inc ≡ n.inc
opens_stays g n s d None groups = refl
opens_stays g n s d (Some t) None = refl
opens_stays g n s d (Some t) (Some m) = refl

-- one thing that happens to an owner that isn't down leaves its incarnation
pub boot_stays : (g : Setting) (n o : Net) → Happens g n o → is_down n.owner ≡ false → o.inc ≡ n.inc
boot_stays g n o (Writes chain s i fact came texts) up = writes_stays g n chain (log.transition s i) (log.transition s i).state.flight
boot_stays g n o (Opens s i fact came can) up =
    opens_stays g n s (scan.transition s i) (chain_in (scan.transition s i).outs) (scan.transition s i).state.opening.groups
boot_stays g n o (Restarts down) up = contrary (sym up ∙ ap is_down down)
boot_stays g n o (Renews map high doubts down came) up = contrary (sym up ∙ ap is_down down)
boot_stays g n o _ up = refl

serving_up : (x : Owner) → is_serving x ≡ true → is_down x ≡ false
serving_up Down fact = contrary fact
serving_up _ fact = refl

-- one without its log doesn't serve
without_log : (x : Owner) → has_log x ≡ false → is_serving x ≡ false
without_log (Serving s) none = none
without_log _ none = refl

never_serves : (g : Setting) (n o : Net) (runs : Runs g n o) → NeverHasLog runs → NeverServes runs
never_serves g n o Begun never = tt
never_serves g n o (On {m = m} run happens) never = (without_log o.owner never.0, never_serves g n m run never.1)

-- one thing at most happened
pub once_straight : (g : Setting) (n o : Net) (runs : Runs g n o) → IsOnce runs → ServesStraight runs
once_straight g n o Begun once = record { never = λ e. tt; once = λ a b. tt; stays = λ a b. refl; picks = λ e. tt; rests = λ e. tt }
once_straight g n o (On Begun happens) once =
    record {
      never = λ e. (e, tt);
      once = λ a b. tt;
      stays = λ a b. boot_stays g n o happens (serving_up n.owner a);
      picks = λ e. tt;
      rests = λ e. (e, tt);
    }
once_straight g n o (On (On run before) happens) once = absurd once

-- it is down then
pub down_straight : (g : Setting) (n o : Net) (runs : Runs g n o) → NeverHasLog runs → o.owner ≡ Down → ServesStraight runs
down_straight g n o runs never down =
    record {
      never = λ e. never_serves g n o runs never;
      once = λ a b. contrary (sym (ap is_serving down) ∙ b);
      stays = λ a b. contrary (sym (ap is_serving down) ∙ b);
      picks = λ e. contrary (sym (ap has_picked down) ∙ e);
      rests = λ e. never;
    }

-- one that serves opens no log
serving_picks_none : (x : Owner) → is_serving x ≡ true → has_picked x ≡ false
serving_picks_none Down fact = refl
serving_picks_none (Opening s) fact = contrary fact
serving_picks_none (Writing chain s) fact = contrary fact
serving_picks_none (Serving s) fact = refl

-- it served before, and does then, in one boot
pub served_straight : (g : Setting) (n o : Net) (runs : Runs g n o) → is_serving n.owner ≡ true → is_serving o.owner ≡ true → o.inc ≡ n.inc
    → ServesStraight runs
served_straight g n o runs before now boot =
    record {
      never = λ e. contrary (sym e ∙ now);
      once = λ a b. contrary (sym a ∙ before);
      stays = λ a b. boot;
      picks = λ e. contrary (sym (serving_picks_none o.owner now) ∙ e);
      rests = λ e. contrary (sym (without_log o.owner e) ∙ now);
    }

-- one run goes on by another
pub never_then : (g : Setting) (n m o : Net) (first : Runs g n m) (later : Runs g m o) → NeverHasLog first → NeverHasLog later
    → NeverHasLog (then_on first later)
never_then g n m o first Begun a b = a
never_then g n m o first (On {m = k} run happens) a b = (b.0, never_then g n m k first run a b.1)
