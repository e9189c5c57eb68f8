-- What an act names: a client, or the owner of a log, of those that a run may have, and segments of logs that are, which count from 1.
use Rattle.std.specs.Prelude.{◌<◌, ℕ, Option, Some, None}
use Rattle.std.specs.List.{AllByRecursion}
use Rattle.journal_law.specs.Told.{IsClient}
use Rattle.segment_format.specs.Format.{IsLog}
use Rattle.version_model.specs.declared.act.Act.{Act}
use Rattle.version_model.specs.declared.act.Act.TheVariants as act
use Rattle.xfs_base.specs.declared.segment.SegName.{SegName}
use Rattle.xfs_base.specs.Logs.{WritesLog}

-- its log is one of a client, of the cleaner or of a manager; its number, its incarnation and its attempt count from 1
pub record IsCounted (name : SegName) : Type 0 where
  pub log : IsLog name.log.0
  pub seq : 0 < name.seq
  pub inc : 0 < name.pass.inc
  pub att : 0 < name.pass.att

abbrev pub CountsFlight : Option (ℕ × ℕ) → Type 0
CountsFlight None = Unit {0}
CountsFlight (Some p) = (0 < p.0) × (0 < p.1)

abbrev pub NamesWhatIs : Act → Type 0
NamesWhatIs (act.Wrote client block value) = IsClient client
NamesWhatIs (act.Read client block ver value) = IsClient client
NamesWhatIs (act.Synced client) = IsClient client
NamesWhatIs (act.Fell client flight falls) = IsClient client × CountsFlight flight
NamesWhatIs (act.Back client chain) = IsClient client × AllByRecursion IsCounted chain
NamesWhatIs (act.Lost node seg) = WritesLog node × IsCounted seg
NamesWhatIs (act.Filed seg) = IsCounted seg
NamesWhatIs (act.Dropped seg) = IsCounted seg
NamesWhatIs (act.Answered node item answer) = Unit {0}
