use Rattle.std.proofs.Common.{ℕ, List, ◌∙◌, sym, subst, arith}
use Rattle.fragment_sums.specs.Recovered.{AreRising}
use Rattle.fragment_sums.proofs.Gone.{missing_rises}
use Rattle.fragment_sums.proofs.recovery.recover.Goals as goal

pub recover_at-requires-clause-gone : goal.recover_at-requires-clause-gone
recover_at-requires-clause-gone c =
    subst (λ (places : List ℕ). AreRising 0 8 places) (sym (c.as_slice.ensures ∙ c.in_ok-gone.ensures)) (missing_rises 0 8 c.args.known.now (omega arith))
