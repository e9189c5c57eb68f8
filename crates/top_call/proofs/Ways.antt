-- Each way of one thread to play a script answers as its command asks.
use Rattle.std.proofs.Common.{◌≡◌, ◌≤◌, ℕ, true, false, Option, Some, None, List, refl, inl, inr}
use Rattle.std.specs.Prelude.{IfSome}
use Rattle.disk_shelf.specs.MemDisk.{MemState}
use Rattle.fragment_store.specs.ShelfState.{ShelfState}
use Rattle.script_text.specs.declared.refusal.Kind.{Kind}
use Rattle.script_text.specs.declared.script.Script.{Script}
use Rattle.script_text.specs.Script.{IsFirstBad}
use Rattle.version_model.specs.declared.work.Work.{Work}
use Rattle.wire_msg.specs.declared.packet.Do.{Do}
use Rattle.wire_msg.specs.NodeStep.{NodeStep}
use Rattle.world_base.specs.declared.estate.Estate.{Estate}
use Rattle.xfs_base.specs.declared.node.NodeId.{NodeId}
use Rattle.xfs_base.specs.declared.setup.Setup.{Setup}
use Rattle.top_call.specs.declared.command.Command.TheVariants.{Boards, Disks, Run}
use Rattle.top_call.specs.declared.one_script.Way.{Way}
use Rattle.top_call.specs.declared.one_script.Way.TheVariants.{Plainly, WithBoards, WithDisks}
use Rattle.top_call.specs.declared.outcome.Outcome.{Outcome}
use Rattle.top_call.specs.Claim.{IsPlayed, IsPlayedWithBoards, IsPlayedWithDisks, IsRunBy, TellsDisks, TellsOrGivesUp, Wants, Writing, boards_in, boards_of, boards_wanted, refusal, run_wanted}
use Rattle.top_call.specs.Commands.{reads}
use Rattle.top_call.specs.Disks.{DisksOf}
use Rattle.top_call.specs.Ways.{AnswersBy, command_by}
use Rattle.top_call.proofs.Claims.{answers, disks_answers, each_left, no_disks}

-- an input is read in each way
pub way_reads : (way : Way) → reads (Some (command_by way)) ≡ true
way_reads Plainly = refl
way_reads WithBoards = refl
way_reads WithDisks = refl

module _ {N : Type 0} (step : N → Do → NodeStep N) (first : NodeId → Setup → List Work → N) where
  -- and its first bad line is to be named
  pub way_refuses : (way : Way) (input : List ℕ) (number : ℕ) (kind : Kind) → IsFirstBad false input number kind
      → Wants step first (Some (command_by way)) input (refusal number kind)
  way_refuses Plainly input number kind bad = inr (number, kind, bad, refl)
  way_refuses WithBoards input number kind bad = inr (number, kind, bad, refl)
  way_refuses WithDisks input number kind bad = inr (number, kind, bad, refl)

  -- where there is no run, there are no boards and no disks
  pub way_boards : (way : Way) → boards_of step first (Some (command_by way)) None ≡ None
  way_boards Plainly = refl
  way_boards WithBoards = refl
  way_boards WithDisks = refl

  pub way_disks : (shelf_of : N → Option ShelfState) (way : Way) (o : Option (Estate N)) (told : Option (List MemState)) → o ≡ None → told ≡ None
      → DisksOf step first shelf_of (Some (command_by way)) o told
  way_disks shelf_of Plainly o told k none = none
  way_disks shelf_of WithBoards o told k none = none
  way_disks shelf_of WithDisks o told k none = no_disks step first shelf_of o told k none

  pub answers_plainly : (script : Script) (s : Writing) (o : Outcome N) → TellsOrGivesUp s o (run_wanted step first script)
      → IfSome o.estate (λ e. IsPlayed step first e) → o.boards ≡ None → s.faults ≤ s.faults_after → AnswersBy step first (command_by Plainly) script s o
  answers_plainly script s o told run boards later = record {
    told = λ input of. answers step first (Some (command_by Plainly)) input s o (run_wanted step first script) (inl (script, of, refl)) told;
    run = each_left (λ e. IsPlayed step first e) (IsRunBy step first (Some Run)) (λ e h. h) o.estate run;
    boards = boards;
    later = later;
  }

  pub answers_with_boards : (script : Script) (s : Writing) (o : Outcome N) → TellsOrGivesUp s o (boards_wanted step first script)
      → IfSome o.estate (λ e. IsPlayedWithBoards step first e) → o.boards ≡ boards_in step first o.estate → s.faults ≤ s.faults_after
      → AnswersBy step first (command_by WithBoards) script s o
  answers_with_boards script s o told run boards later = record {
    told = λ input of. answers step first (Some (command_by WithBoards)) input s o (boards_wanted step first script) (inl (script, of, refl)) told;
    run = each_left (λ e. IsPlayedWithBoards step first e) (IsRunBy step first (Some Boards)) (λ e h. h) o.estate run;
    boards = boards;
    later = later;
  }

  pub answers_with_disks : (script : Script) (s : Writing) (o : Outcome N) → TellsDisks step first script s o
      → IfSome o.estate (λ e. IsPlayedWithDisks step first e) → o.boards ≡ None → s.faults ≤ s.faults_after
      → AnswersBy step first (command_by WithDisks) script s o
  answers_with_disks script s o told run boards later = record {
    told = λ input of. disks_answers step first input script s o of told;
    run = each_left (λ e. IsPlayedWithDisks step first e) (IsRunBy step first (Some Disks)) (λ e h. h) o.estate run;
    boards = boards;
    later = later;
  }
