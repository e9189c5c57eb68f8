-- The play of a script is what is claimed of it.
use Rattle.std.proofs.Common.{◌≡◌, ◌∙◌, refl, sym, ap, subst, List, arith}
use Rattle.board_law.specs.OneRun.{HasRegistry, IsOneRun, RunsWithBoardsAreOneRun}
use Rattle.node_base.specs.Setups.{IsSetup}
use Rattle.script_text.specs.declared.script.Script.{Script}
use Rattle.version_model.specs.declared.work.Work.{Work}
use Rattle.wire_msg.specs.declared.packet.Do.{Do}
use Rattle.wire_msg.specs.NodeStep.{NodeStep}
use Rattle.xfs_base.specs.declared.node.NodeId.{NodeId}
use Rattle.xfs_base.specs.declared.node.NodeId.TheVariants.{Registry}
use Rattle.xfs_base.specs.declared.setup.Setup.{Setup}
use Rattle.world_base.specs.Runs.{IsRun, begins_of}
use Rattle.board_play.specs.Played.{IsBoardPlayed}
use Rattle.board_play.specs.Plays.{estate_of, player_play, together}
use Rattle.board_play.proofs.FarBegun.{far_begins_all, far_in_order}
use Rattle.board_play.proofs.RunOf.{HasRun, play_runs}

module _ {N : Type 0} (law : RunsWithBoardsAreOneRun N) (step : N → Do → NodeStep N) (first : NodeId → Setup → List Work → N) (has : HasRegistry step first) (script : Script) where
  runs : HasRun step first script (player_play step first script)
  runs = play_runs step first script (λ events end run. (law step first has script events end run).handed)

  pub play_is : IsSetup script.setup → IsBoardPlayed step first (estate_of step first script)
  play_is setup =
      let p = player_play step first script in
      let h = runs in
      let one = law step first has script p.happened (together p) h.leads in
      let order = far_in_order step first script in
      let begun = ap (λ events. begins_of Registry events) h.events in
      let counted = one.begun in
      let within = one.within in
      record {
        setup = setup;
        end = together p;
        board_run = h.leads;
        boards = one.boards;
        one_list = one.one_list;
        world = refl;
        stands = h.events;
        one_run = subst (λ events. IsRun step first script events p.world) h.events one.one_run;
        handed = one.handed;
        begins = record { far = λ node other. far_begins_all node other p.events script.lines order; registry = omega (arith, begun, counted, within) };
        in_order = order;
        listed = ap (λ events. begins_of Registry events) (sym h.events) ∙ (one.begun ∙ sym one.counted);
      }
