-- The steps of a loop that counts up: the one of the number that comes, and those after it.
use Rattle.std.proofs.Common.{◌≡◌, ℕ, suc, ◌+◌, ◌-◌, ◌<◌, List, ◌++◌, sym, ap, ◌∙◌, append_assoc, arith}
use Rattle.std.specs.List.{range_with_len}
use Rattle.xfs_base.specs.Steps.{Stepped, saying, steps}

module _ {S O : Type 0} (step : S → ℕ → Stepped S O) (s t : S) (i n : ℕ) where
  first : i < n → steps step s (range_with_len i (n - i)) ≡ saying (step s i).outs (steps step (step s i).state (range_with_len (i + 1) (n - (i + 1))))
  first below =
      let left : n - i ≡ suc (n - (i + 1)) = omega (arith, below) in
      ap (λ count. steps step s (range_with_len i count)) left

  -- what is left leads to the same state as before the step
  pub range_state : (end : S) → i < n → t ≡ (step s i).state → (steps step s (range_with_len i (n - i))).state ≡ end
      → (steps step t (range_with_len (i + 1) (n - (i + 1)))).state ≡ end
  range_state end below now h =
      ap (λ u. (steps step u (range_with_len (i + 1) (n - (i + 1)))).state) now ∙ sym (ap (λ r. r.state) (first below)) ∙ h

  -- what was given and what is left to be given are the same as before the step
  pub range_outs : (sent more all : List O) → i < n → t ≡ (step s i).state → more ≡ sent ++ (step s i).outs
      → sent ++ (steps step s (range_with_len i (n - i))).outs ≡ all → more ++ (steps step t (range_with_len (i + 1) (n - (i + 1)))).outs ≡ all
  range_outs sent more all below now given h =
      let rest = range_with_len (i + 1) (n - (i + 1)) in
      ap (λ xs. xs ++ (steps step t rest).outs) given
      ∙ ap (λ u. (sent ++ (step s i).outs) ++ (steps step u rest).outs) now
      ∙ append_assoc sent (step s i).outs (steps step (step s i).state rest).outs
      ∙ sym (ap (λ r. sent ++ r.outs) (first below))
      ∙ h
