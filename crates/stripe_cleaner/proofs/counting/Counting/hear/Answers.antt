use Rattle.std.proofs.Common.{ℕ, List, ap, ◌∙◌}
use Rattle.xfs_base.specs.declared.segment.SegName.{SegName}
use Rattle.stripe_cleaner.specs.Counting.{CountingState}
use Rattle.stripe_cleaner.specs.Transition.{counting_hear}
use Rattle.stripe_cleaner.proofs.counting.Counting.hear.Goals as goal

pub returns : goal.returns
returns c =
    let with : List (ℕ × List (SegName × ℕ)) → CountingState =
    λ us. record { groups = c.self.inside.groups; candidates = c.self.inside.candidates.entries; usages = us } in
    ap with c.in_ok-put_usage.ensures ∙ ap (counting_hear c.args.slot c.args.counts) c.self.view_is
