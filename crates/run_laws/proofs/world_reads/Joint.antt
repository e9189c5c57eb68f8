-- How a moment of a run stands to the small worlds of tokens and of the index of one slot, and to those of all logs, while no restart that ended was doubtful.
use Rattle.std.specs.Prelude.{◌≡◌, ℕ, false}
use Rattle.headline.specs.Logs.{Role, renews}
use Rattle.log_law.specs.Restarts.{IsSureRun}
use Rattle.run_laws.specs.world_reads.Joint.{There}
use Rattle.run_laws.specs.world_reads.LoggedRuns.{LoggedRun}

module _ (logged : LoggedRun) (part : ℕ) where
  open logged use {lines}

  -- no restart of a client, or of the cleaner, that ended up to this count was doubtful
  abbrev pub IsSureUpto : ℕ → Type 0
  IsSureUpto count = (r : Role) (there : There logged part r) → renews r ≡ false → IsSureRun ((lines r there).stands count).moment.run
