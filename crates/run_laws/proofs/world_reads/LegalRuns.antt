-- Each moment of a run up to which no restart that ended was doubtful stands to the small worlds of each slot: so the acts up to it are legal, and the
-- indexes of slots are kept.
use Rattle.std.proofs.Common.{ℕ, ◌<◌}
use Rattle.xfs_base.specs.Limits.{slot_count}
use Rattle.core_world.specs.AnyNode.{any_start, any_step}
use Rattle.core_world.specs.declared.any_node.AnyNode.{AnyNode}
use Rattle.log_tie.specs.Setting.{Setting}
use Rattle.node_base.specs.Setups.{IsSetup}
use Rattle.run_laws.specs.reopening_law.Reopens.{TellsApart}
use Rattle.headline.specs.Restarts.{NoDoubtfulRestart}
use Rattle.run_laws.specs.restart_law.Unlost.{ScriptsWithoutLossesAreUndoubted}
use Rattle.version_model.specs.Legal.{AreLegal}
use Rattle.world_base.specs.Cluster.{cluster_of}
use Rattle.world_base.specs.declared.estate.Estate.{Estate}
use Rattle.world_base.specs.Runs.{IsRun}
use Rattle.run_laws.proofs.world_index.Laws.{keeps}
use Rattle.headline.specs.Moments.{moment}
use Rattle.run_laws.specs.world_logs.Lines.{HasLines, Texts}
use Rattle.run_laws.proofs.world_reads.Dirty.{dirty_blocks_lead}
use Rattle.run_laws.proofs.world_reads.Holders.{holders_are_newest}
use Rattle.run_laws.proofs.world_reads.LegalJoints.{acts_are_legal}
use Rattle.run_laws.proofs.world_reads.OwnTable.{is_own_table}
use Rattle.run_laws.proofs.world_reads.TurnRun.{moment_cluster}
use Rattle.run_laws.proofs.world_reads.TurnWhole.{whole_at}
use Rattle.run_laws.proofs.world_reads.Below.{Below}
use Rattle.run_laws.specs.world_reads.Holders.{EveryRunsHoldersAreNewest}
use Rattle.run_laws.specs.world_reads.Indexes.{EveryRunKeepsItsIndexes, EveryRunsIndexesAreItsOwn, KeepsItsIndexes}
use Rattle.run_laws.specs.world_reads.Joint.{Joint}
use Rattle.run_laws.proofs.world_reads.Joint.{IsSureUpto}
use Rattle.run_laws.specs.world_reads.Legal.{EveryRunWithoutLossesIsLegal, EveryRunsActsAreLegal}
use Rattle.run_laws.specs.world_reads.LoggedRuns.{LoggedRun, logged_run}
use Rattle.run_laws.specs.world_reads.Moments.{EveryMomentStands, MomentStands}

module _ (below : Below) where
  module _ (base : Setting) (apart : TellsApart base) (e : Estate AnyNode) (setup : IsSetup e.script.setup)
      (run : IsRun any_step any_start e.script e.events e.world) (lines : HasLines base e) (texts : Texts base e lines) (count : ℕ)
      (none : NoDoubtfulRestart e count) where
    abbrev logged : LoggedRun
    logged = logged_run base e lines texts

    stands : MomentStands base e lines texts count
    stands =
        let w = whole_at below logged apart setup run count
        (λ r there keeps. below.runs.undoubted_runs_are_sure base e lines count none r there keeps) in
        record { joints = w.joints; references = w.references; named = w.named; comes = w.comes }

    legal : AreLegal (moment e count).acts
    legal =
        acts_are_legal below.tokens.acts_are_legal below.tokens.blocks_make_legal logged count
        (below.tokens.every_run_has_falls_apart e setup run count) stands.joints

    sure : (part : ℕ) → IsSureUpto logged part count
    sure part r there keeps_on = below.runs.undoubted_runs_are_sure base e lines count none r there keeps_on

    kept : (part : ℕ) → part < slot_count → KeepsItsIndexes e count part texts.text
    kept part of_eight =
        let joint : Joint logged part count = stands.joints part of_eight in
        record {
          filed = joint.idx.net.filed;
          own = is_own_table below.lines.lines_give below.logs.whole below.logs.one_text below.logs.own
              below.tokens.nodes below.index.nodes.server logged setup run part count (sure part) joint;
          named = joint.index_stands.texts_of;
          keeps = keeps below.index.nodes below.tokens.nodes (cluster_of e.script.setup) part of_eight texts.text logged.first
              below.index.each_index_is_the_join below.index.managers_cover_their_horizon below.index.newest_is_never_deleted (moment e count)
              (moment_cluster e count) joint.idx joint.index_stands;
          leads = dirty_blocks_lead below.tokens.dirty_blocks_lead below.tokens.nodes logged part of_eight count
              joint;
        }

  pub every_moment_stands : EveryMomentStands
  every_moment_stands base apart e setup run lines texts count none = stands base apart e setup run lines texts count none

  pub every_run_keeps_its_indexes : EveryRunKeepsItsIndexes
  every_run_keeps_its_indexes base apart e setup run lines texts count none = kept base apart e setup run lines texts count none

  -- for the lines that each run has, and their texts
  pub every_runs_acts_are_legal : EveryRunsActsAreLegal
  every_runs_acts_are_legal e setup run count none =
      let lines = below.runs.runs_have_lines below.writing.items.telling_setting.0 e setup run in
      legal below.writing.items.telling_setting.0 below.writing.items.telling_setting.1 e setup run lines
      (below.runs.lines_have_texts below.writing.items.telling_setting.0 e setup lines) count none

  pub every_runs_holders_are_newest : EveryRunsHoldersAreNewest
  every_runs_holders_are_newest e setup run count none =
      let base = below.writing.items.telling_setting.0 in
      let apart = below.writing.items.telling_setting.1 in
      let lines = below.runs.runs_have_lines base e setup run in
      let texts = below.runs.lines_have_texts base e setup lines in
      holders_are_newest below.tokens.acts_are_legal below.tokens.blocks_make_legal below.tokens.nodes (logged_run base e lines texts) count
      (below.tokens.every_run_has_falls_apart e setup run count) (stands base apart e setup run lines texts count none).joints

  pub every_runs_indexes_are_its_own : EveryRunsIndexesAreItsOwn
  every_runs_indexes_are_its_own e setup run =
      let base = below.writing.items.telling_setting.0 in
      let apart = below.writing.items.telling_setting.1 in
      let lines = below.runs.runs_have_lines base e setup run in
      let texts = below.runs.lines_have_texts base e setup lines in
      record {
        text = texts.text;
        each = λ count none part of_eight.
            let k = kept base apart e setup run lines texts count none part of_eight in
            record { filed = k.filed; own = k.own; named = k.named; keeps = k.keeps; leads = k.leads };
      }

-- where the script has no server lose its disk, up to each moment
pub every_run_without_losses_is_legal : EveryRunsActsAreLegal → ScriptsWithoutLossesAreUndoubted → EveryRunWithoutLossesIsLegal
every_run_without_losses_is_legal legal undoubted e setup run none count = legal e setup run count ((undoubted e setup run none).1 count)
