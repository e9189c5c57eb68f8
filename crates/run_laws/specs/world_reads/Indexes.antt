-- In every run the index of each slot stays what logs say, up to each moment up to which no restart was doubtful: the index of each manager that manages the
-- slot, deposed or not, is the join of what it has applied, which of the present one is at least what the kept checkpoint covers, and the newest row of a block
-- is in no segment that a server was told to delete (the 1996 paper, on the imap and on cleaning).
use Rattle.std.specs.Prelude.{◌<◌, ℕ}
use Rattle.core_world.specs.AnyNode.{any_start, any_step}
use Rattle.core_world.specs.declared.any_node.AnyNode.{AnyNode}
use Rattle.headline.specs.Filed.{AreTexts, Filed, IsOwnTable, Texts}
use Rattle.log_tie.specs.Setting.{Setting}
use Rattle.node_base.specs.Setups.{IsSetup}
use Rattle.run_laws.specs.reopening_law.Reopens.{TellsApart}
use Rattle.headline.specs.Restarts.{NoDoubtfulRestart}
use Rattle.world_base.specs.declared.estate.Estate.{Estate}
use Rattle.world_base.specs.Runs.{IsRun}
use Rattle.headline.specs.Indexes.{DirtyBlocksLead, IndexesAreItsOwn, KeepsBy}
use Rattle.headline.specs.Moments.{moment}
use Rattle.run_laws.specs.world_logs.Lines.{HasLines, Texts as RunTexts}
use Rattle.xfs_base.specs.Limits.{slot_count}

-- It is so by the run's own table of what logs filed, of texts of their names.
pub record KeepsItsIndexes (e : Estate AnyNode) (count part : ℕ) (texts : Texts) : Type 0 where
  pub filed : Filed
  pub own : IsOwnTable e count filed
  pub named : AreTexts texts filed
  pub keeps : KeepsBy (moment e count) part filed
  -- what a client has dirty leads it
  pub leads : DirtyBlocksLead (moment e count) part filed

-- So it is of each slot, for any lines of the run's logs and the one text that each name has there.
abbrev pub EveryRunKeepsItsIndexes : Type 0
EveryRunKeepsItsIndexes =
    (base : Setting) → TellsApart base → (e : Estate AnyNode) → IsSetup e.script.setup → IsRun any_step any_start e.script e.events e.world
    → (lines : HasLines base e) (texts : RunTexts base e lines) (count : ℕ) → NoDoubtfulRestart e count
    → (part : ℕ) → part < slot_count → KeepsItsIndexes e count part texts.text

abbrev pub EveryRunsIndexesAreItsOwn : Type 0
EveryRunsIndexesAreItsOwn = (e : Estate AnyNode) → IsSetup e.script.setup → IsRun any_step any_start e.script e.events e.world → IndexesAreItsOwn e
