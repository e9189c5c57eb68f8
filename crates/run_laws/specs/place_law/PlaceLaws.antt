-- The laws of what is read of a place, and told of it, taken together.
use Rattle.run_laws.specs.place_law.Answers.{RunsAnswer}
use Rattle.run_laws.specs.place_law.Copies.{ChecksAreOfRows, LivesTellCopies}
use Rattle.run_laws.specs.place_law.Fetches.{FetchesReadThere, RunsReadTheirFetches}
use Rattle.run_laws.specs.place_law.Hands.{HandsReadTexts}
use Rattle.run_laws.specs.place_law.Reads.{TakeoversReadTexts}

pub record PlaceLaws : Type 0 where
  pub takeovers_read_texts : TakeoversReadTexts
  pub hands_read_texts : HandsReadTexts
  pub fetches_read_there : FetchesReadThere
  pub runs_read_their_fetches : RunsReadTheirFetches
  pub checks_are_of_rows : ChecksAreOfRows
  pub lives_tell_copies : LivesTellCopies
  pub runs_answer : RunsAnswer
