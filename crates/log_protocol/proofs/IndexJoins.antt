-- Joins: an active manager's index is the join of what it applied.
-- Stands on Rows and Bounds.
use Rattle.std.proofs.Common.{◌≡◌, ℕ, arith}
use Rattle.std.proofs.lemmas.Bool.Decides.{nat_tests}
use Rattle.log_protocol.specs.IndexState.{IndexState, new_block, Joins}
use Rattle.log_protocol.specs.IndexSteps.{IndexStep}
use Rattle.log_protocol.specs.IndexSteps.IndexStep.{Files, Files_none, Copies, Merges, Activates}
use Rattle.log_protocol.proofs.IndexRows.{IndexRows}
use Rattle.log_protocol.proofs.IndexBounds.{IndexBounds}

pub record IndexJoins (w : IndexState) : Type 0 where
  -- of the manager of each epoch
  pub each : (e : ℕ) → w.active e ≡ 1 → Joins w.version w.hop (w.applied e) (w.index e)

pub step_keeps_index_joins : (w u : IndexState) → IndexStep w u → IndexRows w → IndexBounds w → IndexJoins w → IndexJoins u
step_keeps_index_joins w u (Files l version can) rows bounds joins = grind (arith, nat_tests)
step_keeps_index_joins w u (Files_none l can) rows bounds joins = grind (arith, nat_tests)
step_keeps_index_joins w u (Copies l q can) rows bounds joins = grind (arith, nat_tests)
step_keeps_index_joins w u (Merges e applied entry can) rows bounds joins = grind (arith, nat_tests)
step_keeps_index_joins w u (Activates e applied entry can) rows bounds joins = grind (arith, nat_tests)
step_keeps_index_joins w u step rows bounds joins = record { each = joins.each }

pub new_block_index_joins : (cleaner : ℕ) → IndexJoins (new_block cleaner)
new_block_index_joins cleaner = grind (arith, nat_tests)
