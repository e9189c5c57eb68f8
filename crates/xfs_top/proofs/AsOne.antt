-- The text of a run by one thread is that of the one machine where its script is quiet, or its items are calls that begin alone.
use Rattle.std.proofs.Common.{◌≡◌, true, not, ◌||◌, is_some, Option, Some, None, refl}
use Rattle.std.specs.Prelude.{IfSome}
use Rattle.core_world.specs.AnyNode.{any_start, any_step}
use Rattle.core_world.specs.declared.any_node.AnyNode.{AnyNode}
use Rattle.disk_play.specs.Unstopped.{UnstoppedIsPlayed}
use Rattle.headline.specs.Bounds.{IsQuiet, QuietIsAnswered, is_quiet}
use Rattle.headline.specs.OneMachine.{AreOnBlocks, QuietAsOneMachine}
use Rattle.headline.specs.Safe.{IsSafe}
use Rattle.node_base.specs.Setups.{IsSetup}
use Rattle.quiet_run.specs.Runs.{QuietScriptsAreAnswered}
use Rattle.quiet_script.proofs.QuietWorks.{each_quiet}
use Rattle.quiet_script.specs.Laws.{AcceptedIsOrderly}
use Rattle.run_text.specs.Runs.{EachRunAloneIsInLine, EachRunOfOneClientIsAlone}
use Rattle.script_print.specs.Printing.{IsScript}
use Rattle.top_call.specs.Claim.{IsPlayed, IsPlayedWithDisks, IsRunBy}
use Rattle.top_call.specs.declared.command.Command.{Command}
use Rattle.top_call.specs.declared.command.Command.TheVariants.{Audit, Big, Boards, Disks, Gen, Live, Mount, Run}
use Rattle.world_base.specs.declared.estate.Estate.{Estate}
use Rattle.world_base.specs.Items.{actor_of}
use Rattle.world_base.specs.Runs.{IsRun}
use Rattle.xfs_top.proofs.Accepted.{IsAccepted}
use Rattle.xfs_top.proofs.Alone.{by_boards, by_order}
use Rattle.xfs_top.proofs.Answered.{IsDetermined, each_line, on_disks, played}
use Rattle.xfs_top.specs.OneMachine.{CallsAsOne, OneMachineOf}

-- each line of a quiet script is a call on blocks
on_blocks : (e : Estate AnyNode) → IsQuiet e.script → AreOnBlocks e.script.lines
on_blocks e quiet =
    each_line (λ w. is_quiet w || not (is_some (actor_of w)))
    (each_quiet (λ w. (is_quiet w || not (is_some (actor_of w))) ≡ true) (λ c b value. refl) (λ c b. refl) (λ c. refl)) e.script.lines quiet

module _ (safe : (e : Estate AnyNode) → IsSetup e.script.setup → IsRun any_step any_start e.script e.events e.world → IsSafe e)
    (orderly : AcceptedIsOrderly) (law : QuietScriptsAreAnswered) (plainly : UnstoppedIsPlayed AnyNode) (in_line : EachRunAloneIsInLine)
    (of_one : EachRunOfOneClientIsAlone) where
  by_quiet : (e : Estate AnyNode) → IsSetup e.script.setup → IsRun any_step any_start e.script e.events e.world → IsScript e.script
      → QuietIsAnswered any_step any_start e → QuietAsOneMachine e
  by_quiet e setup run accepted answered quiet =
      (safe e setup run).outside.as_one_machine.in_line (orderly e.script setup accepted quiet).few (on_blocks e quiet) (answered quiet).in_line

  as_one : (e : Estate AnyNode) → IsPlayed any_step any_start e → QuietAsOneMachine e × CallsAsOne e
  as_one e p = (
    by_quiet e p.whole.setup p.whole.one_run p.accepted (played orderly law plainly e p),
    by_order safe in_line of_one e p.whole.setup p.whole.one_run p.accepted (λ calls. p.in_order),
  )

  as_one_on_disks : (e : Estate AnyNode) → IsPlayedWithDisks any_step any_start e → IsDetermined (Some Disks) e → QuietAsOneMachine e × CallsAsOne e
  as_one_on_disks e p is = (
    by_quiet e p.whole.setup p.whole.one_run p.accepted (on_disks orderly law plainly e p is),
    by_order safe in_line of_one e p.whole.setup p.whole.one_run p.accepted (λ calls. p.in_order),
  )

  one_machine : (command : Option Command) (e : Estate AnyNode) → IsRunBy any_step any_start command e → IsDetermined command e → IsAccepted command e
      → OneMachineOf command e
  one_machine None e p is accepted = as_one e p
  one_machine (Some Run) e p is accepted = as_one e p
  one_machine (Some (Live workers)) e p is accepted = tt
  one_machine (Some (Mount workers)) e p is accepted = tt
  one_machine (Some (Gen drawn)) e p is accepted = as_one e p
  one_machine (Some (Big drawn)) e p is accepted = as_one e p
  one_machine (Some Audit) e p is accepted = as_one e p
  one_machine (Some Boards) e p is accepted = by_boards safe in_line of_one e p accepted
  one_machine (Some Disks) e p is accepted = as_one_on_disks e p is

  pub played_as_one : (command : Option Command) (o : Option (Estate AnyNode)) → IfSome o (IsRunBy any_step any_start command) → IfSome o (IsDetermined command)
      → IfSome o (IsAccepted command) → IfSome o (OneMachineOf command)
  played_as_one command None run is accepted = tt
  played_as_one command (Some e) run is accepted = one_machine command e run is accepted
