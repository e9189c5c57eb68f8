-- How a moment of a run, up to which no restart that ended was doubtful, stands to all small worlds: those of each slot, and those of all logs; what nodes
-- refer to and name then, and how it came about.
use Rattle.std.specs.Prelude.{◌<◌, ℕ}
use Rattle.xfs_base.specs.Limits.{slot_count}
use Rattle.core_world.specs.AnyNode.{any_start, any_step}
use Rattle.core_world.specs.declared.any_node.AnyNode.{AnyNode}
use Rattle.headline.specs.Filed.{rows_at}
use Rattle.log_tie.specs.Setting.{Setting}
use Rattle.node_base.specs.Setups.{IsSetup}
use Rattle.run_laws.specs.reopening_law.Reopens.{TellsApart}
use Rattle.headline.specs.Restarts.{NoDoubtfulRestart}
use Rattle.run_laws.specs.segment_tie.Settings.{TellingSetting}
use Rattle.world_base.specs.declared.estate.Estate.{Estate}
use Rattle.world_base.specs.Runs.{IsRun}
use Rattle.headline.specs.Moments.{moment}
use Rattle.run_laws.specs.world_logs.Lines.{HasLines, LinesHaveTexts, RunsHaveLines, Texts}
use Rattle.run_laws.specs.world_reads.Chains.{Comes}
use Rattle.run_laws.specs.world_reads.Entries.{PartKnown, PartsNamed}
use Rattle.run_laws.specs.world_reads.Joint.{Joint}
use Rattle.run_laws.specs.world_reads.LoggedRuns.{logged_run}
use Rattle.run_laws.specs.world_reads.References.{ReferencesStand}

pub record MomentStands (base : Setting) (e : Estate AnyNode) (lines : HasLines base e) (texts : Texts base e lines) (count : ℕ) : Type 0 where
  pub joints : (part : ℕ) → part < slot_count → Joint (logged_run base e lines texts) part count
  pub references : (part : ℕ) → part < slot_count → ReferencesStand (logged_run base e lines texts) part count
  -- what is named as a part of a checkpoint is a segment of a manager's log, which the manager acted to be filed
  pub named : (part : ℕ) (of_eight : part < slot_count)
      → PartsNamed (PartKnown base e lines count (rows_at (joints part of_eight).idx.net.filed)) (moment e count).nodes (moment e count).sent
  -- and the moment comes of the start
  pub comes : (part : ℕ) (of_eight : part < slot_count) → Comes (logged_run base e lines texts) part count (joints part of_eight)

-- So each moment does, for any lines of the run's logs and the one text that each name has there.
abbrev pub EveryMomentStands : Type 0
EveryMomentStands =
    (base : Setting) → TellsApart base → (e : Estate AnyNode) → IsSetup e.script.setup → IsRun any_step any_start e.script e.events e.world
    → (lines : HasLines base e) (texts : Texts base e lines) (count : ℕ) → NoDoubtfulRestart e count → MomentStands base e lines texts count

-- What every run stands on: a setting in which contents tell items apart, by which a run has a line of each of its logs, with one text of each name, and each
-- of its moments stands.
pub record EveryRunStands : Type 0 where
  pub setting : TellingSetting
  pub lines : RunsHaveLines
  pub texts : LinesHaveTexts
  pub moments : EveryMomentStands
