-- What holds of every run holds of the run of a call, by one thread or by workers, with boards, with servers that stop, or plainly.
use Rattle.std.proofs.Common.{Bool, Option, Some, None, refl, subst, sym}
use Rattle.std.specs.Prelude.{IfSome}
use Rattle.board_law.specs.OneRun.{HasRegistry}
use Rattle.core_world.specs.AnyNode.{any_start, any_step}
use Rattle.core_world.specs.declared.any_node.AnyNode.{AnyNode}
use Rattle.core_world.specs.declared.any_node.AnyNode.TheVariants.{Registry}
use Rattle.live_run.specs.Live.{EndsSo, IsFull}
use Rattle.node_base.specs.Setups.{IsSetup}
use Rattle.top_call.specs.declared.command.Command.{Command}
use Rattle.top_call.specs.declared.command.Command.TheVariants.{Audit, Big, Boards, Disks, Gen, Live, Mount, Run}
use Rattle.top_call.specs.Claim.{IsLiveRun, IsPlayedWithBoards, IsRunBy}
use Rattle.world_base.specs.declared.estate.Estate.{Estate}
use Rattle.world_base.specs.Runs.{IsRun, IsWholeRun}
use Rattle.xfs_top.proofs.InTurn.{begins_in_turn}
use Rattle.xfs_top.specs.Headline.{BoardHeadline, Headline, HeadlineOf, LiveHeadline}
use Rattle.headline.specs.Safe.{IsSafe}

-- the registry is among the nodes
pub has_registry : HasRegistry any_step any_start
has_registry = record { of = Registry; starts = λ setup items. refl; steps = λ node what. refl }

module _ (safe : (e : Estate AnyNode) → IsSetup e.script.setup → IsRun any_step any_start e.script e.events e.world → IsSafe e) where
  whole : (e : Estate AnyNode) → IsWholeRun any_step any_start e → Headline e
  whole e w = record { whole = w; safe = safe e w.setup w.one_run }

  -- by workers
  lived : (e : Estate AnyNode) → IsLiveRun any_step any_start e → LiveHeadline e
  lived e live = record {
    whole = λ none.
        let ended : IsFull any_step any_start e = subst (λ (b : Bool). EndsSo any_step any_start b e) none live.ends in
        record { setup = live.setup; one_run = live.one_run; complete = ended.complete };
    safe = safe e live.setup live.one_run;
    in_turn = (safe e live.setup live.one_run).outside.in_turn (begins_in_turn e live);
  }

  with_boards : (e : Estate AnyNode) → IsPlayedWithBoards any_step any_start e → BoardHeadline e
  with_boards e p =
      let played = p.played has_registry in
      record {
        determined = p.determined;
        played = played;
        safe = subst IsSafe (sym p.determined) (safe _ played.setup played.one_run);
      }

  headline : (command : Option Command) (e : Estate AnyNode) → IsRunBy any_step any_start command e → HeadlineOf command e
  headline None e p = whole e p.whole
  headline (Some Run) e p = whole e p.whole
  headline (Some (Live workers)) e p = lived e p
  headline (Some (Mount workers)) e p = lived e p
  headline (Some (Gen drawn)) e p = whole e p.whole
  headline (Some (Big drawn)) e p = whole e p.whole
  headline (Some Audit) e p = whole e p.whole
  headline (Some Boards) e p = with_boards e p
  headline (Some Disks) e p = whole e p.whole

  pub played_has : (command : Option Command) (o : Option (Estate AnyNode)) → IfSome o (IsRunBy any_step any_start command) → IfSome o (HeadlineOf command)
  played_has command None played = tt
  played_has command (Some e) played = headline command e played
