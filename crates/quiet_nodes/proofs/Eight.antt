-- What is so of each slot, 0 to 7, is so of all.
use Rattle.std.proofs.Common.{◌≡◌, ◌<◌, ℕ, map, refl, arith}
use Rattle.xfs_base.specs.Limits.{all_slots}

pub eight_same : {X : Type 0} (f g : ℕ → X) → ((i : ℕ) → i < 8 → f i ≡ g i) → map f all_slots ≡ map g all_slots
eight_same f g same =
    rw (
      same 0 (omega arith),
      same 1 (omega arith),
      same 2 (omega arith),
      same 3 (omega arith),
      same 4 (omega arith),
      same 5 (omega arith),
      same 6 (omega arith),
      same 7 (omega arith),
    ) refl
