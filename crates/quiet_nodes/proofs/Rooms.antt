-- The first epoch's stamps and slots: each slot's manager is one of the setup and has room, and a new stamp is later than all before.
use Rattle.std.proofs.Common.{◌≡◌, ℕ, zero, suc, ◌+◌, ◌<◌, ◌≤◌, ◌%◌, ◌==◌, ◌&&◌, true, false, cond, List, map, replicate, slice_index, refl, sym, ap, subst, ◌∙◌, mod-lt, arith}
use Rattle.std.specs.List.{list_all}
use Rattle.log_owner.specs.Promised.{first_number}
use Rattle.manager_node.specs.Phases.{phase_has_room}
use Rattle.manager_slots.specs.declared.slot_phase.SlotPhase.{SlotPhase}
use Rattle.manager_slots.specs.declared.slot_phase.SlotPhase.TheVariants as phase
use Rattle.manager_slots.specs.Slots.{managed, slot_phase_has_room}
use Rattle.node_base.specs.Room.{has_long_room, has_room}
use Rattle.token_manager.specs.SlotState.{SlotState}
use Rattle.version_model.specs.declared.work.Work.{Work}
use Rattle.xfs_base.specs.declared.node.NodeId.{NodeId}
use Rattle.xfs_base.specs.declared.setup.Setup.{Setup}
use Rattle.xfs_base.specs.Limits.{all_slots}
use Rattle.xfs_base.specs.Stamps.{is_later}
use Rattle.quiet_nodes.specs.Scene.{manager_at, manager_of_slot, phase_at, put_number}
use Rattle.quiet_nodes.proofs.Tests.{not_lt_test, other_test, zero_test}

pub promised : (i : ℕ) → i < 8 → slice_index (replicate 8 1) i ≡ 1
promised zero h = refl
promised (suc zero) h = refl
promised (suc (suc zero)) h = refl
promised (suc (suc (suc zero))) h = refl
promised (suc (suc (suc (suc zero)))) h = refl
promised (suc (suc (suc (suc (suc zero))))) h = refl
promised (suc (suc (suc (suc (suc (suc zero)))))) h = refl
promised (suc (suc (suc (suc (suc (suc (suc zero))))))) h = refl
promised (suc (suc (suc (suc (suc (suc (suc (suc i)))))))) h = absurd (omega arith)

-- a stamp of the first epoch under the next turn is later than all that were given
pub later : (e turn last : ℕ) → e ≤ 1 → last ≤ turn → is_later (record { epoch = 1; turn = turn + 1 }) (record { epoch = e; turn = last }) ≡ true
later zero turn last old before = refl
later (suc zero) turn last old before = rw (not_lt_test (turn + 1) last (omega arith), other_test (turn + 1) last (λ same. omega arith)) refl
later (suc (suc e)) turn last old before = absurd (omega arith)

pub slot_within : (n : ℕ) → n % 8 < 8
slot_within n = omega arith

-- the manager of a slot is one of the setup
pub number_within : (managers slot : ℕ) → 1 ≤ managers → (1 ≤ first_number managers slot) × (first_number managers slot ≤ managers)
number_within managers slot some =
    subst (λ n. (1 ≤ n) × (n ≤ managers)) (sym (ap (λ t. cond t 1 (slot % managers + 1)) (zero_test managers some)))
    (omega arith, (let below : slot % managers < managers = mod-lt slot some in omega arith))

pub all_eight : (f : ℕ → SlotPhase) → ((i : ℕ) → i < 8 → slot_phase_has_room (f i) ≡ true) → list_all slot_phase_has_room (map f all_slots) ≡ true
all_eight f each =
    rw (
      each 0 (omega arith),
      each 1 (omega arith),
      each 2 (omega arith),
      each 3 (omega arith),
      each 4 (omega arith),
      each 5 (omega arith),
      each 6 (omega arith),
      each 7 (omega arith),
    ) refl

-- a slot of the first epoch that has turns left
pub record HasTurns (z : SlotState) : Type 0 where
  pub epoch : z.epoch ≡ 1
  pub turn : has_long_room z.turn ≡ true

abbrev pub HaveTurns : (ℕ → SlotState) → Type 0
HaveTurns slots = (i : ℕ) → i < 8 → HasTurns (slots i)

pub turns_put : (slots : ℕ → SlotState) (n : ℕ) (z : SlotState) → HaveTurns slots → HasTurns z → HaveTurns (put_number slots n z)
turns_put slots n z turns here i within =
    elim (i == n) as (λ t. HasTurns (cond t z (slots i))) [ true ↦ here | false ↦ turns i within ]

-- a manager has room
pub manager_room : (setup : Setup) (works : NodeId → List Work) (j : ℕ) (slots : ℕ → SlotState) → HaveTurns slots
    → phase_has_room (manager_at setup works j slots).phase ≡ true
manager_room setup works j slots turns = all_eight (phase_at setup works slots j) each
  where
    each : (i : ℕ) → i < 8 → slot_phase_has_room (phase_at setup works slots j i) ≡ true
    each i within =
        elim (manager_of_slot setup works i == j) as (λ t. slot_phase_has_room (cond t (managed (slots i)) (phase.Away 1)) ≡ true) [
          | true ↦ let h = turns i within in ap (λ e. has_room e && has_long_room (slots i).turn) h.epoch ∙ h.turn
          | false ↦ refl
        ]
