-- How far logs are filed by acts.
use Rattle.std.specs.Prelude.{◌≡◌, ◌⊎◌, ℕ, List}
use Rattle.log_protocol.specs.Tables.{In}
use Rattle.version_model.specs.declared.act.Act.{Act}
use Rattle.version_model.specs.declared.act.Act.TheVariants.{Filed}
use Rattle.xfs_base.specs.declared.segment.SegName.{SegName}
use Rattle.run_laws.specs.filed_law.FiledUpto.{filed_upto}

-- a segment of this log was filed in these acts, and this number is its
pub record FiledAt (acts : List Act) (log number : ℕ) : Type 0 where
  pub name : SegName
  pub among : In (Filed name) acts
  pub own : name.log.0 ≡ log
  pub numbered : name.seq ≡ number

-- the number up to which a log is filed is 0, or that of a segment of it that was filed
abbrev pub IsFiledUpto : List Act → ℕ → Type 0
IsFiledUpto acts log = (filed_upto acts log ≡ 0) ⊎ FiledAt acts log (filed_upto acts log)
