-- What is settled of each block at each moment of a run up to which no restart that ended was doubtful.
use Rattle.std.proofs.Common.{ℕ, ◌<◌}
use Rattle.core_world.specs.AnyNode.{any_start, any_step}
use Rattle.core_world.specs.declared.any_node.AnyNode.{AnyNode}
use Rattle.log_law.specs.LogLaws.{LogLaws}
use Rattle.log_tie.specs.Setting.{Setting}
use Rattle.node_base.specs.Setups.{IsSetup}
use Rattle.node_slots.specs.owner_index_tie.ServerEvents.{ServerEventGoes}
use Rattle.run_laws.proofs.world_law.Laws as tokens
use Rattle.run_laws.proofs.world_reads.Dirty.{dirty_blocks_lead}
use Rattle.run_laws.proofs.world_reads.OwnTable.{is_own_table}
use Rattle.run_laws.specs.reopening_law.Reopens.{TellsApart}
use Rattle.headline.specs.Restarts.{NoDoubtfulRestart}
use Rattle.run_laws.specs.restart_law.Sure.{UndoubtedRunsAreSure}
use Rattle.run_laws.specs.world_lines.Lines.{LinesGive}
use Rattle.run_laws.specs.world_logs.Lines.{HasLines, Texts}
use Rattle.run_laws.specs.world_reads.Joint.{Joint}
use Rattle.run_laws.proofs.world_reads.Joint.{IsSureUpto}
use Rattle.run_laws.specs.world_reads.LoggedRuns.{LoggedRun, logged_run}
use Rattle.run_laws.specs.world_reads.Moments.{EveryRunStands}
use Rattle.run_holdings.proofs.settled_law.Tables.{clean, dirty}
use Rattle.run_holdings.specs.settled_law.Settled.{EveryRunsBlocksAreSettled}
use Rattle.headline.specs.Settled.{IsSettledAt}
use Rattle.token_law.specs.Laws as small
use Rattle.world_base.specs.declared.estate.Estate.{Estate}
use Rattle.world_base.specs.Runs.{IsRun}
use Rattle.xfs_base.specs.Limits.{slot_count}

-- the laws on which it stands
pub record Below : Type 0 where
  pub tokens : tokens.NodeLaws
  pub servers : ServerEventGoes
  pub logs : LogLaws
  pub give : LinesGive
  pub sure : UndoubtedRunsAreSure
  pub runs : EveryRunStands
  pub leads : small.DirtyBlocksLead

module _ (below : Below) where
  module _ (base : Setting) (apart : TellsApart base) (e : Estate AnyNode) (setup : IsSetup e.script.setup)
      (run : IsRun any_step any_start e.script e.events e.world) (lines : HasLines base e) (texts : Texts base e lines) (count : ℕ)
      (none : NoDoubtfulRestart e count) where
    abbrev logged : LoggedRun
    logged = logged_run base e lines texts

    sure : (part : ℕ) → IsSureUpto logged part count
    sure part r there keeps = below.sure base e lines count none r there keeps

    settled : (part : ℕ) → part < slot_count → IsSettledAt e texts.text count part
    settled part of_eight =
        let joint : Joint logged part count =
        (below.runs.moments base apart e setup run lines texts count none).joints part of_eight in
        record {
          filed = joint.idx.net.filed;
          own = is_own_table below.give below.logs.whole below.logs.one_text below.logs.own below.tokens below.servers logged setup run part count (sure part) joint;
          named = joint.index_stands.texts_of;
          clean = clean below.tokens logged part of_eight count joint;
          dirty = dirty below.tokens logged part of_eight count joint
              (dirty_blocks_lead below.leads below.tokens logged part of_eight count joint);
        }

  -- for the lines that each run has, and their texts
  pub every_runs_blocks_are_settled : EveryRunsBlocksAreSettled
  every_runs_blocks_are_settled e setup run =
      let base = below.runs.setting.0 in
      let lines = below.runs.lines base e setup run in
      let texts = below.runs.texts base e setup lines in
      record { text = texts.text; each = λ count none part of_eight. settled base below.runs.setting.1 e setup run lines texts count none part of_eight }
