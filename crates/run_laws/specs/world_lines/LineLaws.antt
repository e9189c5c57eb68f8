-- The laws of the lines of what logs filed, taken together.
use Rattle.run_laws.specs.world_lines.Lines.{LinesGive}
use Rattle.run_laws.specs.world_lines.Owners.{ActsAreDone, CleanerFilesShort, StraightFilesStill}
use Rattle.run_laws.specs.world_lines.Polls.{PresentIsLinked}
use Rattle.run_laws.specs.world_lines.Turns.{LinesBegin, LinesGoOn, LinesStay}

pub record LineLaws : Type 0 where
  pub lines_give : LinesGive
  pub lines_begin : LinesBegin
  pub lines_stay : LinesStay
  pub lines_go_on : LinesGoOn
  pub acts_are_done : ActsAreDone
  pub cleaner_files_short : CleanerFilesShort
  pub straight_files_still : StraightFilesStill
  pub present_is_linked : PresentIsLinked
