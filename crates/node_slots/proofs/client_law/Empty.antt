-- The log of an opening: its first segment has no item, and nothing waits behind it.
use Rattle.std.specs.Prelude.{◌≡◌, [], None}
use Rattle.log_owner.specs.declared.opened.Progress.{Progress}
use Rattle.log_owner.specs.declared.opened.Progress.TheVariants as progress
use Rattle.node_slots.specs.client_law.Empty.{WaitsForNothing}

-- nothing waits, and once the log is open nothing is in flight either
abbrev pub OpensEmpty : Progress → Type 0
OpensEmpty (progress.Opening o) = WaitsForNothing o.stage
OpensEmpty (progress.Opened o) = (o.log.dirty ≡ []) × (o.log.flight ≡ None)
OpensEmpty (progress.Lost seg) = Unit {0}
