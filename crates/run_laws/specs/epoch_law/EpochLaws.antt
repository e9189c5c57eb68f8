-- The laws of promised epochs, and of the slots that tokens and indexes share, taken together.
use Rattle.run_laws.specs.epoch_law.Managers.{TokensAreGiven}
use Rattle.run_laws.specs.epoch_law.Polls.{CleanerPollsAreLow, ClientPollsAreLow, HorizonsStay}
use Rattle.run_laws.specs.epoch_law.Slots.{SlotsStartSame, SlotsStaySame}

pub record EpochLaws : Type 0 where
  pub horizons_stay : HorizonsStay
  pub client_polls_are_low : ClientPollsAreLow
  pub cleaner_polls_are_low : CleanerPollsAreLow
  pub slots_start_same : SlotsStartSame
  pub slots_stay_same : SlotsStaySame
  pub tokens_are_given : TokensAreGiven
