-- The log of an opening: its first segment has no item, and nothing waits behind it.
use Rattle.std.specs.Prelude.{◌≡◌, []}
use Rattle.log_owner.specs.declared.opening.Stage.{Stage}
use Rattle.log_owner.specs.declared.opening.Stage.TheVariants as stage

-- nothing waits
abbrev pub WaitsForNothing : Stage → Type 0
WaitsForNothing (stage.Scanning s) = Unit {0}
WaitsForNothing (stage.Settling s) = s.log.dirty ≡ []
