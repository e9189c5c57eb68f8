use Rattle.std.proofs.Common.{◌≡◌, drop, min}
use Rattle.std.specs.Prelude.{fold}
use Rattle.stripe_cleaner.specs.Candidates.{horizon_at, least_horizon}
use Rattle.stripe_cleaner.proofs.listing.least_horizon.Given as goal

-- the slots to come, on the least so far, give the least of all
abbrev pub invariant-loop-news : goal.invariant-loop-news
invariant-loop-news l = fold (λ least news. min least (horizon_at news l.log.0)) l.least (drop l.news-index l.slots) ≡ least_horizon l.slots l.log.0
