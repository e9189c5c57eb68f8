-- An owner that is up before and after, of one incarnation, is in one boot.
use Rattle.std.proofs.Common.{◌≡◌, ℕ, suc, false, if◌then◌else◌, sym, ap, ◌∙◌}
use Rattle.client_log.specs.LogState.{LogState}
use Rattle.log_owner.specs.declared.known.Known.{Known}
use Rattle.log_owner.specs.declared.opening.Stage.{Stage}
use Rattle.log_owner.specs.declared.opening.Stage.TheVariants as stage
use Rattle.log_tie.specs.Setting.{Setting}
use Rattle.log_law.specs.Net.{Net}
use Rattle.log_law.specs.Openings.{boot_of}
use Rattle.log_law.specs.Restarts.{is_down, is_serving}
use Rattle.node_logs.specs.client_log_tie.Owner.{Scene, SeesStage, SeesLog}

up_boot : (n : Net) → is_down n.owner ≡ false → boot_of n ≡ n.inc
up_boot n up = ap (λ t. if t then suc n.inc else n.inc) up

pub same_boot : (n o : Net) → is_down n.owner ≡ false → is_down o.owner ≡ false → o.inc ≡ n.inc → boot_of o ≡ boot_of n
same_boot n o before now inc = up_boot o now ∙ (inc ∙ sym (up_boot n before))

-- one that opens its log, or serves, is up
module _ (g : Setting) (c : ℕ) (w : Scene) where
  pub stage_up : (k : Known) (last : ℕ) (at : Stage) → SeesStage g c w k last at → is_down w.net.owner ≡ false
  stage_up k last (stage.Scanning s) sees = ap is_down sees.owner
  stage_up k last (stage.Settling s) sees = ap is_down sees.owner

  -- one that opens its log doesn't serve
  pub stage_away : (k : Known) (last : ℕ) (at : Stage) → SeesStage g c w k last at → is_serving w.net.owner ≡ false
  stage_away k last (stage.Scanning s) sees = ap is_serving sees.owner
  stage_away k last (stage.Settling s) sees = ap is_serving sees.owner

  pub log_up : (s : LogState) → SeesLog g c w s → is_down w.net.owner ≡ false
  log_up s sees = ap is_down sees.owner
