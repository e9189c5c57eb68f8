use Rattle.std.proofs.Common.{◌≡◌, drop}
use Rattle.stripe_cleaner.specs.Listing.{is_among}
use Rattle.stripe_cleaner.proofs.listing.is_among.Given as goal

-- it is not among those so far
abbrev pub invariant-loop-other : goal.invariant-loop-other
invariant-loop-other l = is_among (drop l.other-index l.numbers) l.number ≡ is_among l.numbers l.number
