-- The table of a manager's slots in a quiet run.
use Rattle.std.proofs.Common.{◌≡◌, ℕ, zero, suc, ◌<◌, ◌==◌, true, cond, List, map, slice_get, slice_set, Some, refl, ap, ◌∙◌, arith}
use Rattle.manager_slots.specs.declared.slot_phase.SlotPhase.TheVariants as phase
use Rattle.manager_slots.specs.Slots.{managed}
use Rattle.token_manager.specs.SlotState.{SlotState}
use Rattle.version_model.specs.declared.work.Work.{Work}
use Rattle.xfs_base.specs.declared.node.NodeId.{NodeId}
use Rattle.xfs_base.specs.declared.setup.Setup.{Setup}
use Rattle.xfs_base.specs.Limits.{all_slots}
use Rattle.quiet_nodes.specs.Scene.{manager_of_slot, phase_at, put_number}

module _ (setup : Setup) (works : NodeId → List Work) (j : ℕ) (slots : ℕ → SlotState) where
  pub get_phase : (i : ℕ) → i < 8 → slice_get (map (phase_at setup works slots j) all_slots) i ≡ Some (phase_at setup works slots j i)
  get_phase zero h = refl
  get_phase (suc zero) h = refl
  get_phase (suc (suc zero)) h = refl
  get_phase (suc (suc (suc zero))) h = refl
  get_phase (suc (suc (suc (suc zero)))) h = refl
  get_phase (suc (suc (suc (suc (suc zero))))) h = refl
  get_phase (suc (suc (suc (suc (suc (suc zero)))))) h = refl
  get_phase (suc (suc (suc (suc (suc (suc (suc zero))))))) h = refl
  get_phase (suc (suc (suc (suc (suc (suc (suc (suc i)))))))) h = absurd (omega arith)

  pub managed_phase : (i : ℕ) → i < 8 → (manager_of_slot setup works i == j) ≡ true → slice_get (map (phase_at setup works slots j) all_slots) i ≡ Some (managed (slots i))
  managed_phase i h own = get_phase i h ∙ ap (λ t. Some (cond t (managed (slots i)) (phase.Away 1))) own

  module _ (z : SlotState) where
    pub set_phase : (i : ℕ) → i < 8 → (manager_of_slot setup works i == j) ≡ true
        → slice_set (map (phase_at setup works slots j) all_slots) i (managed z) ≡ map (phase_at setup works (put_number slots i z) j) all_slots
    set_phase zero h own = rw own refl
    set_phase (suc zero) h own = rw own refl
    set_phase (suc (suc zero)) h own = rw own refl
    set_phase (suc (suc (suc zero))) h own = rw own refl
    set_phase (suc (suc (suc (suc zero)))) h own = rw own refl
    set_phase (suc (suc (suc (suc (suc zero))))) h own = rw own refl
    set_phase (suc (suc (suc (suc (suc (suc zero)))))) h own = rw own refl
    set_phase (suc (suc (suc (suc (suc (suc (suc zero))))))) h own = rw own refl
    set_phase (suc (suc (suc (suc (suc (suc (suc (suc i)))))))) h own = absurd (omega arith)
