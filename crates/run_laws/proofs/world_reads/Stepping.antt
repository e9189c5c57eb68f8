-- What happens to the owner of a log between two counts of a run: only one that writes its opening segment comes to serve, and by one thing that happens.
use Rattle.std.proofs.Common.{◌≡◌, Bool, true, false, Option, Some, None, refl, sym, ap, ◌∙◌}
use Rattle.node_logs.specs.client_log_tie.ClientEvents.{IsOnce, ServesStraight}
use Rattle.group_map.specs.GroupMapState.{GroupMapState}
use Rattle.log_law.specs.Events.{Happens, Runs}
use Rattle.log_law.specs.Events.Happens.{Acts, Writes, Opens, Crashes, Restarts, Renews, Serves, Bars, Lists, Hears, Raises, Publishes, Welcomes, Drops}
use Rattle.log_law.specs.Events.Runs.{Begun, On}
use Rattle.log_law.specs.Net.{Net, Told, after_told, chain_in}
use Rattle.log_law.specs.Restarts.{IsSureRun, is_serving, is_writing}
use Rattle.log_law.specs.Tails.{then_on}
use Rattle.log_scan.specs.ScanState.{ScanState}
use Rattle.log_scan.specs.Transition as scan
use Rattle.log_tie.specs.Setting.{Setting}
use Rattle.xfs_base.proofs.Booleans.{contrary}

-- what is sure of a run was sure before
pub sure_before : {g : Setting} {n m o : Net} (run : Runs g n m) (more : Runs g m o) → IsSureRun (then_on run more) → IsSureRun run
sure_before run Begun sure = sure
sure_before run (On more happens) sure = sure_before run more sure.0

module _ (g : Setting) where
  told_not : (n : Net) (s : ScanState) (d : scan.Done) (t : Option Told) (m : Option GroupMapState) → is_serving (after_told g n s d t m).owner ≡ false
  told_not n s d None m = refl
  told_not n s d (Some t) None = refl
  told_not n s d (Some t) (Some m) = refl

  -- one that neither serves nor writes doesn't come to serve by one thing that happens, in a log that is trusted
  pub only_writers : g.doubts ≡ false → (n o : Net) → Happens g n o → is_serving n.owner ≡ false → is_writing n.owner ≡ false → is_serving o.owner ≡ true → ⊥
  only_writers trusted n o (Acts s i fact came texts) away reads serves = contrary (sym away ∙ ap is_serving fact)
  only_writers trusted n o (Writes chain s i fact came texts) away reads serves = contrary (sym reads ∙ ap is_writing fact)
  only_writers trusted n o (Opens s i fact came can) away reads serves =
      contrary (sym (told_not n s (scan.transition s i) (chain_in (scan.transition s i).outs) (scan.transition s i).state.opening.groups) ∙ serves)
  only_writers trusted n o Crashes away reads serves = contrary serves
  only_writers trusted n o (Restarts fact) away reads serves = contrary serves
  only_writers trusted n o (Renews m high doubts fact came) away reads serves = contrary (sym trusted ∙ doubts)
  only_writers trusted n o (Serves v deed some came) away reads serves = contrary (sym away ∙ serves)
  only_writers trusted n o (Bars v l pass) away reads serves = contrary (sym away ∙ serves)
  only_writers trusted n o (Lists v) away reads serves = contrary (sym away ∙ serves)
  only_writers trusted n o (Hears v generation up reached) away reads serves = contrary (sym away ∙ serves)
  only_writers trusted n o (Raises low name up fact below) away reads serves = contrary (sym away ∙ serves)
  only_writers trusted n o (Publishes m whole) away reads serves = contrary (sym away ∙ serves)
  only_writers trusted n o (Welcomes inc ask news m fact least whole) away reads serves = contrary (sym away ∙ serves)
  only_writers trusted n o (Drops lists meta fact listed below) away reads serves = contrary (sym away ∙ serves)

  -- one thing at most happens where the owner comes to serve: it is that one
  pub record ComesToServe (n o : Net) (runs : Runs g n o) : Type 0 where
    pub happens : Happens g n o
    pub one : runs ≡ On Begun happens
    pub writes : is_writing n.owner ≡ true

  once_is : (n o : Net) (runs : Runs g n o) → IsOnce runs → is_serving n.owner ≡ false → is_serving o.owner ≡ true
      → (happens : Happens g n o) × (runs ≡ On Begun happens)
  once_is n o Begun once away serves = contrary (sym away ∙ serves)
  once_is n o (On Begun happens) once away serves = (happens, refl)
  once_is n o (On (On run more) happens) once away serves = absurd once

  pub comes : g.doubts ≡ false → (n o : Net) (runs : Runs g n o) → ServesStraight runs → is_serving n.owner ≡ false → is_serving o.owner ≡ true
      → ComesToServe n o runs
  comes trusted n o runs straight away serves =
      let fact = once_is n o runs (straight.once away serves) away serves in
      record { happens = fact.0; one = fact.1; writes = writing fact.0 (is_writing n.owner) refl }
    where
      writing : (happens : Happens g n o) (t : Bool) → is_writing n.owner ≡ t → is_writing n.owner ≡ true
      writing happens true fact = fact
      writing happens false fact = absurd (only_writers trusted n o happens away fact serves)
