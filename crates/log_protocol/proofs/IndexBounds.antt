-- Bounds: how far managers have applied, against heads, epochs and horizons.
-- Stands on nothing.
use Rattle.std.proofs.Common.{◌≡◌, ℕ, suc, ◌<◌, ◌≤◌, arith}
use Rattle.std.proofs.lemmas.Bool.Decides.{nat_tests}
use Rattle.log_protocol.specs.IndexState.{IndexState, new_block}
use Rattle.log_protocol.specs.IndexSteps.{CanKeep, IndexStep}
use Rattle.log_protocol.specs.IndexSteps.IndexStep.{Merges, Activates, Keeps, Promises}

pub record IndexBounds (w : IndexState) : Type 0 where
  -- what is applied is filed
  pub applied_filed : (e l : ℕ) → w.applied e l ≤ w.head l
  -- an active manager has applied all that the horizons of its epoch cover
  pub active_covered : (e l : ℕ) → w.active e ≡ 1 → w.floor e l ≤ suc (w.applied e l)
  -- an active manager's epoch has begun
  pub active_begun : (e : ℕ) → w.active e ≡ 1 → e ≤ w.epoch
  -- and is no later than the reigning one
  pub active_reigning : (e : ℕ) → w.active e ≡ 1 → e ≤ w.reigning
  -- whose manager is active, once there is one
  pub reigning_active : 0 < w.reigning → w.active w.reigning ≡ 1
  -- who isn't active has applied nothing
  pub active_flag : (e : ℕ) → w.active e ≤ 1
  pub idle : (e l : ℕ) → w.active e ≡ 0 → w.applied e l ≡ 0
  -- epochs begin at 1
  pub promised_some : 0 < w.promised
  -- horizons too
  pub floor_some : (e l : ℕ) → 1 ≤ w.floor e l
  -- and never fall from epoch to epoch
  pub floor_rises : (d e l : ℕ) → d ≤ e → w.floor d l ≤ w.floor e l
  -- a horizon is at most one above what is filed
  pub floor_filed : (e l : ℕ) → w.floor e l ≤ suc (w.head l)
  -- since the reigning epoch none was kept
  pub floor_flat : (d e l : ℕ) → w.reigning < d → d ≤ e → e ≤ w.epoch → w.floor d l ≡ w.floor e l
  -- epochs to come have the horizon of now
  pub floor_ahead : (e l : ℕ) → w.epoch ≤ e → w.floor e l ≡ w.floor w.epoch l

-- a checkpoint kept for an epoch whose manager isn't active changes no horizon
kept_idle : (w : IndexState) (horizon : ℕ → ℕ) (l : ℕ) → CanKeep w horizon → IndexBounds w → w.reigning < w.epoch → horizon l ≡ w.floor w.epoch l
kept_idle w horizon l can bounds late =
    let r = can.rises l in
    let a = can.applied l in
    let s = bounds.floor_some w.epoch l in
    grind (arith, bounds.idle w.epoch l, bounds.active_flag w.epoch, bounds.active_reigning w.epoch)

pub step_keeps_index_bounds : (w u : IndexState) → IndexStep w u → IndexBounds w → IndexBounds u
step_keeps_index_bounds w u (Merges e applied entry can) bounds = grind (arith, nat_tests)
step_keeps_index_bounds w u (Activates e applied entry can) bounds = grind (arith, nat_tests)
step_keeps_index_bounds w u (Keeps horizon can) bounds = record {
  applied_filed = λ e l. bounds.applied_filed e l;
  active_covered = λ e l on. let a = can.applied l in let b = bounds.active_begun e on in grind (arith, nat_tests, bounds.active_covered e l);
  active_begun = bounds.active_begun;
  active_reigning = bounds.active_reigning;
  reigning_active = bounds.reigning_active;
  active_flag = bounds.active_flag;
  idle = bounds.idle;
  promised_some = bounds.promised_some;
  floor_some = λ e l. let r = can.rises l in grind (arith, nat_tests, bounds.floor_some e l, bounds.floor_some w.epoch l);
  floor_rises = λ d e l le. let r = can.rises l in grind (arith, nat_tests, bounds.floor_rises d e l, bounds.floor_rises d w.epoch l);
  floor_filed = λ e l. let a = can.applied l in grind (arith, nat_tests, bounds.floor_filed e l, bounds.applied_filed w.epoch l);
  floor_flat = λ d e l late le past. let k =
      λ (z : w.reigning < w.epoch). kept_idle w horizon l can bounds z in grind (arith, nat_tests, k, bounds.floor_flat d e l, bounds.floor_flat d w.epoch l);
  floor_ahead = λ e l ahead. grind (arith, nat_tests);
}
step_keeps_index_bounds w u (Promises e can) bounds = grind (arith, nat_tests)
step_keeps_index_bounds w u step bounds = grind (arith, nat_tests)

pub new_block_index_bounds : (cleaner : ℕ) → IndexBounds (new_block cleaner)
new_block_index_bounds cleaner = grind (arith, nat_tests)
