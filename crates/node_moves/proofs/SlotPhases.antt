-- What is so of each slot of a manager, whatever its number, is so of the slots from any number on.
use Rattle.std.proofs.Common.{ℕ, suc, List, [], ◌∷◌}
use Rattle.std.specs.List.{AllByRecursion}
use Rattle.manager_slots.specs.declared.slot_phase.SlotPhase.{SlotPhase}
use Rattle.node_moves.specs.SlotPhases.{EachSlot}

module _ (Is : SlotPhase → Type 0) where
  pub numbered : (k : ℕ) (phases : List SlotPhase) → AllByRecursion Is phases → EachSlot (λ k. Is) k phases
  numbered k [] all = tt
  numbered k (p ∷ phases) all = (all.0, numbered (suc k) phases all.1)

  pub unnumbered : (k : ℕ) (phases : List SlotPhase) → EachSlot (λ k. Is) k phases → AllByRecursion Is phases
  unnumbered k [] all = tt
  unnumbered k (p ∷ phases) all = (all.0, unnumbered (suc k) phases all.1)
