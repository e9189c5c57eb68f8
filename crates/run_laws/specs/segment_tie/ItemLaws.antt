-- What the items of a segment say, taken together.
use Rattle.run_laws.specs.segment_tie.Segments.{AttemptsAreAlike, NothingIsAnyKind}
use Rattle.run_laws.specs.segment_tie.Settings.{TellingSetting}

pub record ItemLaws : Type 0 where
  pub attempts_are_alike : AttemptsAreAlike
  pub nothing_is_any_kind : NothingIsAnyKind
  pub telling_setting : TellingSetting
