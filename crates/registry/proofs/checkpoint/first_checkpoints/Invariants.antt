use Rattle.std.proofs.Common.{◌≡◌, ℕ, ◌++◌, map, drop}
use Rattle.registry.specs.Checkpoints.{first_checkpoint}
use Rattle.registry.proofs.checkpoint.first_checkpoints.Given as goal

-- the checkpoints so far and those to come are all
abbrev pub invariant-loop-slot : goal.invariant-loop-slot
invariant-loop-slot l = l.made ++ map (λ (_ : ℕ). first_checkpoint) (drop l._slot-index l.slots) ≡ map (λ (_ : ℕ). first_checkpoint) l.slots
