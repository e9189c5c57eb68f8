-- A manager at the start of a run is seen in the opening of the small world.
use Rattle.std.proofs.Common.{◌≡◌, ℕ, zero, suc, ◌==◌, ◌<◌, List, [], ◌∷◌, map, refl, sym, ap, subst, ◌∙◌}
use Rattle.std.proofs.lemmas.List.Elements.{All-nil}
use Rattle.xfs_base.proofs.Booleans.{by_test}
use Rattle.xfs_base.specs.Blocks.{slot_of}
use Rattle.xfs_base.specs.declared.block.BlockId.{BlockId}
use Rattle.xfs_base.specs.declared.setup.Setup.{Setup}
use Rattle.xfs_base.specs.Limits.{slot_count}
use Rattle.manager_map.specs.Slots.{manager_map_start, entry_at}
use Rattle.slot_beliefs.specs.declared.job.Job.{Job}
use Rattle.token_law.specs.Net.{opening}
use Rattle.token_manager.specs.Transition.{slot_start}
use Rattle.version_model.specs.declared.work.Work.{Work}
use Rattle.manager_slots.specs.SlotTable.{all_slots, first_phase}
use Rattle.manager_slots.specs.Slots.{epoch_of, first_active}
use Rattle.manager_slots.specs.declared.slot_phase.SlotPhase.{SlotPhase}
use Rattle.manager_slots.specs.declared.slot_phase.SlotPhase.TheVariants as phase
use Rattle.node_slots.proofs.node_tie.SlotTables.{first_at}
use Rattle.node_slots.specs.node_tie.ManagerEvents.{PhaseAgrees, OtherAgrees, FirstAgrees, FirstManagerAgrees}
use Rattle.headline.specs.Managers.{phase_at}

-- what holds of an unknown slot, and of each that was made, holds of all
each_at : (f : ℕ → SlotPhase) (P : ℕ → SlotPhase → Type 0) → ((k : ℕ) → P k (phase.Away 0)) → ((k : ℕ) → P k (f k)) → (k : ℕ)
    → P k (phase_at (map f all_slots) k)
each_at f P none made zero = made 0
each_at f P none made (suc zero) = made 1
each_at f P none made (suc (suc zero)) = made 2
each_at f P none made (suc (suc (suc zero))) = made 3
each_at f P none made (suc (suc (suc (suc zero)))) = made 4
each_at f P none made (suc (suc (suc (suc (suc zero))))) = made 5
each_at f P none made (suc (suc (suc (suc (suc (suc zero)))))) = made 6
each_at f P none made (suc (suc (suc (suc (suc (suc (suc zero))))))) = made 7
each_at f P none made (suc (suc (suc (suc (suc (suc (suc (suc k)))))))) = none (suc (suc (suc (suc (suc (suc (suc (suc k))))))))

module _ (members part number : ℕ) (setup : Setup) where
  by_first : (P : SlotPhase → Type 0) → P first_active → P (phase.Away 1) → (k : ℕ) → P (first_phase number (manager_map_start setup.managers) k)
  by_first P ours others k = by_test P ((entry_at (manager_map_start setup.managers) (slot_of k)).manager == number) first_active (phase.Away 1) (λ _. ours)
      (λ _. others)

  first_active-agrees : PhaseAgrees members part opening first_active
  first_active-agrees = record { slot = slot_start 1 [] [] (0 ∷ 0 ∷ 0 ∷ 0 ∷ 0 ∷ 0 ∷ 0 ∷ 0 ∷ 0 ∷ []); there = refl; same = refl; nine = refl }

  pub first_agrees : (works : List Work) → part < slot_count → FirstAgrees members part number setup works
  first_agrees works exists =
      let f = λ (k : ℕ). first_phase number (manager_map_start setup.managers) k in
      let at : phase_at (map f all_slots) part ≡ f part = first_at f part exists in
      record {
        agrees = record {
          number = refl;
          table = record {
            eight = refl;
            here = subst (PhaseAgrees members part opening) (sym at) (by_first (PhaseAgrees members part opening) first_active-agrees tt part);
            there = λ k _. each_at f OtherAgrees (λ _. tt) (λ x. by_first (OtherAgrees x)
                (All-nil (λ (e : BlockId × Job). (slot_of e.0.ino.0 ≡ x) × (slot_of e.1.want.block.ino.0 ≡ x))) tt x) k;
          };
        };
        slot = at;
        epoch = ap epoch_of at ∙ by_first (λ p. epoch_of p ≡ 1) refl refl part;
      }

pub first_manager_agrees : FirstManagerAgrees
first_manager_agrees members part number setup works exists = first_agrees members part number setup works exists
