use Rattle.std.proofs.Common.{◌≡◌, drop}
use Rattle.stripe_cleaner.specs.Candidates.{candidates_with}
use Rattle.stripe_cleaner.proofs.listing.add_candidates.Given as goal

-- once those to come are put in, all are
abbrev pub invariant-loop-meta : goal.invariant-loop-meta
invariant-loop-meta l = candidates_with l.slots (drop l.meta-index l.held) l.candidates.entries ≡ candidates_with l.slots l.held l.initial.candidates.entries
