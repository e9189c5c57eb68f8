-- A get of a block that isn't held, of which others have copies and which nobody owns, whether the one that is told to passes its copy on or not.
use Rattle.quiet_gets.proofs.PassedOn as was
use Rattle.std.proofs.Common.{◌⊎◌, inl, inr, Option, List, None, Some, refl, ℕ, ◌+◌, ◌≡◌}
use Rattle.quiet_law.specs.Lines.{Ends, EndsAfterRound, fetching}
use Rattle.quiet_gets.proofs.AskedAgain.{ends_later}
use Rattle.quiet_gets.proofs.PassedOn.{ends_soon}
use Rattle.quiet_gets.specs.Laws.{CopiesArePassedOn, told_nodes}

pub from_copies : CopiesArePassedOn
from_copies setup works ok k s t c b e es few d stands order next asks held unowned =
    by_value (was.passed setup works k s c b e es ok few d next asks held unowned) refl
  where
    by_value : (o : Option (Option (List ℕ))) → was.passed setup works k s c b e es ok few d next asks held unowned ≡ o
        → Ends setup works k 3 s t c ((s.client c).begun + 1)
        ⊎ EndsAfterRound setup works k 2 (2 + told_nodes setup + fetching setup works s b) s t c ((s.client c).begun + 1)
    by_value (Some value) is = inl (ends_soon setup works k s c b e es ok few d next asks held unowned t stands value is)
    by_value None is = inr (ends_later setup works k s t c b e es ok few d stands next asks held unowned order is)
