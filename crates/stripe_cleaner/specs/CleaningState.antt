-- What a job of the cleaner keeps.
use Rattle.std.specs.Prelude.{ℕ, List}
use Rattle.stripe_cleaner.specs.declared.phase.Phase.{Phase}
use Rattle.stripe_cleaner.specs.declared.phase.Phase.TheVariants.{Greeting}
use Rattle.stripe_cleaner.specs.Promises.{none_promised}

pub record CleaningState : Type 0 where
  -- how many segments are to be emptied
  pub count : ℕ
  -- by slot, the epoch that is promised, 0 where none is
  pub promised : List ℕ
  -- how far the job is
  pub phase : Phase

-- nothing is known yet
abbrev pub cleaning_start : ℕ → CleaningState
cleaning_start count = record { count = count; promised = none_promised; phase = Greeting }
