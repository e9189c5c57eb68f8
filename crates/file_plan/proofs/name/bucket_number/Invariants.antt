use Rattle.std.proofs.Common.{◌≡◌, ℕ, ◌+◌, ◌<◌, ◌%◌, drop}
use Rattle.std.specs.List.{sum_by}
use Rattle.file_plan.proofs.name.bucket_number.Given as goal

-- the sum so far and that of the bytes to come
pub record Sums (sum rest all : ℕ) : Type 0 where
  pub small : sum < 8
  pub total : (sum + rest) % 8 ≡ all % 8

abbrev pub invariant-loop-byte : goal.invariant-loop-byte
invariant-loop-byte l = Sums l.sum (sum_by (λ b. b) (drop l.byte-index l.name)) (sum_by (λ b. b) l.name)
