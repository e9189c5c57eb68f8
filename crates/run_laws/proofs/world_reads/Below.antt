-- The laws of the crates below on which it stands that every run's acts are legal.
use Rattle.log_law.specs.LogLaws.{LogLaws}
use Rattle.run_laws.specs.index_reads.IndexLaws.{IndexLaws}
use Rattle.run_laws.specs.reopening_law.ReopeningLaws.{ReopeningLaws}
use Rattle.run_laws.specs.restart_law.RunLines.{RunLines}
use Rattle.run_laws.specs.segment_law.WritingLaws.{WritingLaws}
use Rattle.run_laws.specs.world_lines.FilingLaws.{FilingLaws}
use Rattle.run_laws.specs.world_lines.LineLaws.{LineLaws}
use Rattle.run_laws.specs.world_reads.Readings.{ReadsBelow}
use Rattle.run_laws.specs.world_reads.TokensBelow.{TokensBelow}

pub record Below : Type 0 where
  pub tokens : TokensBelow
  pub index : IndexLaws
  pub reads : ReadsBelow
  pub logs : LogLaws
  pub reopenings : ReopeningLaws
  pub runs : RunLines
  pub lines : LineLaws
  pub filing : FilingLaws
  pub writing : WritingLaws
